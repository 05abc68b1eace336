use Rattle.std.proofs.Common.{arith}
use Rattle.raft_world.proofs.Numbering.{non_decreasing, found}
use Rattle.raft_world.proofs.bag.Bag.find.Goals as goal

pub place-requires : goal.place-requires
place-requires c = non_decreasing c.self.inside.last c.self.inside.packets.items c.self.invariant.1.rises

pub returns : goal.returns
returns c =
    rw (← c.self.view_is)
    (found c.args.number c.self.inside.packets.items c.in_ok-at.at c.get.result c.in_ok-at.ensures.found c.get.ensures.lookup (c.get.ensures.variant.1 (omega (arith, c.in_ok-at.ensures.found.within, c.self.inside.packets.ok.0))))
