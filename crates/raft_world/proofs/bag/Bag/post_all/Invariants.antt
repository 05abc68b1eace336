use Rattle.std.proofs.Common.{◌≡◌}
use Rattle.raft_model.specs.World.{posted_all}
use Rattle.raft_world.proofs.bag.Bag.post_all.Given as goal

abbrev pub invariant-loop-one : goal.invariant-loop-one
invariant-loop-one l = l.self ≡ posted_all l.from l.yielded l.fn.self
