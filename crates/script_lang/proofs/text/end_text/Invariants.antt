use Rattle.std.proofs.Common.{◌≡◌, ◌∷◌, ◌++◌, take, length, codes}
use Rattle.std.specs.List.{flat_map}
use Rattle.std.specs.Fmt.{decimal}
use Rattle.script_lang.proofs.text.end_text.Given as goal

abbrev pub invariant-loop-number : goal.invariant-loop-number
invariant-loop-number l =
    l.text.items ≡ (codes "end log " ++ decimal l.fn.log ++ codes " open " ++ decimal (length l.fn.unanswered)) ++ flat_map (λ n. 32 ∷ decimal n) (take l.number-index l.unanswered)
