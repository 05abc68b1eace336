use Rattle.std.proofs.Common.{refl, arith}
use Rattle.raft_world.proofs.Numbering.{lowest_at}
use Rattle.raft_world.proofs.bag.Bag.lowest.Goals as goal

pub returns : goal.returns
returns c =
    rw (c.number.ensures, ← c.self.view_is)
    (lowest_at c.self.inside.last c.self.inside.packets.items c.in_ok-packet.packet.now c.self.invariant.1.rises (omega (arith, c.in_ok-packet.ensures.variant.0 refl, c.self.inside.packets.ok.0)) c.in_ok-packet.ensures.lookup)
