use Rattle.std.proofs.Common.{◌≡◌, take}
use Rattle.std.specs.List.{filter_map}
use Rattle.cluster_requests.specs.Held.{number_held}
use Rattle.cluster_requests.proofs.held.numbers_of.Given as goal

abbrev pub invariant-loop-slot : goal.invariant-loop-slot
invariant-loop-slot l = l.numbers.items ≡ filter_map number_held (take l.slot-index l.slots)
