use Rattle.std.proofs.Common.{◌≡◌}
use Rattle.cluster_requests.specs.Held.{slot_ended}
use Rattle.cluster_requests.proofs.Fronts.{mapped_front}
use Rattle.cluster_requests.proofs.held.end_each.Given as goal

abbrev pub invariant-loop-slot : goal.invariant-loop-slot
invariant-loop-slot l = l.slots ≡ mapped_front (slot_ended l.server l.event) l.slot-index l.initial.slots
