use Rattle.std.proofs.Common.{take}
use Rattle.std.specs.List.{All}
use Rattle.cat_model.specs.Bounds.{IsCheck}
use Rattle.cat_model.proofs.bounds.all_are_checks.Given as goal

abbrev pub invariant-loop-check : goal.invariant-loop-check
invariant-loop-check l = All IsCheck (take l.check-index l.checks)
