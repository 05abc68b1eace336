use Rattle.std.proofs.Common.{◌∙◌, ℕ, List, [], Bor, arith, ap, get_or, length, rules, sym}
use Rattle.std.proofs.lemmas.List.{length-map}
use Rattle.http_front.proofs.Asking.{nth_map}
use Rattle.http_front.proofs.options.split_told.Goals as goal
use Rattle.http_front.proofs.options.split_told.Goals.{then-words-lt2-via-then-words-lt2, then-words-lt2-via-else-words-lt2+then-ne}

pub returns-then-words-lt2-clause-untold : goal.returns-then-words-lt2-clause-untold
returns-then-words-lt2-clause-untold c = λ none word more e.
    let many = sym (length-map c.args.words.now (λ (w : Bor (List ℕ)). w.now)) ∙ ap length e in
    let first = nth_map c.args.words.now 0 ∙ ap (λ (l : List (List ℕ)). get_or l 0 []) e in
    elim c.then-words-lt2.branch [
      | then-words-lt2-via-then-words-lt2 w ↦ absurd (omega (arith, many, w.if-words-lt2.true))
      | then-words-lt2-via-else-words-lt2+then-ne w ↦ search rules
    ]
