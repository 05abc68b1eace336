use Rattle.json_bodies.proofs.Parts.{Kept}
use Rattle.json_bodies.proofs.durations.parts_sum.Given as goal

abbrev pub invariant-bytes : goal.invariant-bytes
invariant-bytes l = Kept l.text l.left l.tail

abbrev pub decreases-bytes : goal.decreases-bytes
decreases-bytes l = l.left
