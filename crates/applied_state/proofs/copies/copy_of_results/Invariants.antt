use Rattle.std.proofs.Common.{◌≡◌, take}
use Rattle.applied_state.proofs.copies.copy_of_results.Given as goal

abbrev pub invariant-loop-item : goal.invariant-loop-item
invariant-loop-item l = l.all ≡ take l.item-index l.items
