use Rattle.std.proofs.Common.{◌≡◌, take, true}
use Rattle.cluster_requests.specs.Held.{held_in}
use Rattle.cluster_works.proofs.Recovering.{AreAdded}
use Rattle.cluster_works.proofs.watch.Watching.recover.Given as goal

abbrev pub invariant-loop-slot : goal.invariant-loop-slot
invariant-loop-slot l =
    (l.self.watch.all ≡ true) × (l.self.watch.servers ≡ l.initial.self.watch.servers) × (l.self.seen ≡ l.initial.self.seen) × AreAdded l.self.watch.awake (held_in (take l.slot-index l.slots))
