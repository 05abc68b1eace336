use Rattle.std.proofs.Common.{◌≡◌, drop, map}
use Rattle.cluster_requests.specs.Held.{Rises, held_in}
use Rattle.cluster_requests.proofs.Ending.{ended_each}
use Rattle.cluster_requests.proofs.held.end_among.Given as goal

abbrev pub invariant-loop-number : goal.invariant-loop-number
invariant-loop-number l = Rises l.slots × (map (ended_each l.server l.event (drop l.number-index l.numbers)) (held_in l.slots) ≡ map (ended_each l.server l.event l.numbers) (held_in l.initial.slots))
