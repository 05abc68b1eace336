-- What stands at a file's end.
use Rattle.std.proofs.Common.{◌≡◌, ℕ, ◌≤◌, List, ◌++◌, length, sym, ap, ◌∙◌, arith, Result, Ok, Err, Option}
use Rattle.std.specs.Option.{option_map}
use Rattle.std.proofs.lemmas.List.{take_all}
use Rattle.server_journal.specs.Journals.{PutsAtEnd}

-- all of the piece stands there, whatever is answered then
pub all_put : {T E : Type 0} (piece : List ℕ) (old new : Option (List ℕ)) (result : Result T E) → new ≡ option_map (λ (b : List ℕ). b ++ piece) old → PutsAtEnd piece old new result
all_put piece old new (Ok x) e = record { ok = e; failed = tt }
all_put piece old new (Err x) e = record {
  ok = tt;
  failed = (length piece, e ∙ ap (λ p. option_map (λ (b : List ℕ). b ++ p) old) (sym (take_all (length piece) piece (omega arith))));
}
