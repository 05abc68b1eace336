use Rattle.std.proofs.Common.{◌≡◌, ◌-◌, ◌≤◌, length}
use Rattle.std.specs.Prelude.{All}
use Rattle.outside.specs.KeepersInMemory.{empty_store}
use Rattle.cluster_interface.proofs.stores.empty_stores.Given as goal

abbrev pub invariant-loop-made : goal.invariant-loop-made
invariant-loop-made l = (length l.stores ≡ l.made) × All (λ store. store ≡ empty_store) l.stores × (l.made ≤ l.count)

abbrev pub decreases-loop-made : goal.decreases-loop-made
decreases-loop-made l = l.count - l.made
