use Rattle.std.proofs.Common.{ap, sym, ◌∙◌, arith}
use Rattle.std.specs.Option.{option_copied}
use Rattle.raft_world.proofs.Stepped.{Parts}
use Rattle.raft_world.proofs.Calling.{received}
use Rattle.raft_world.proofs.world.World.receiver.Goals as goal

pub returns-in-Some-clause-server : goal.returns-in-Some-clause-server
returns-in-Some-clause-server g c =
    let in_ = c.self.inside in let p : Parts = record { nodes = in_.nodes.items; clocks = in_.clocks.items; contacts = in_.contacts.items; bag = in_.bag; greatest = in_.greatest; agreed = in_.agreed } in
    let r = received p c.self.invariant c.args.self.now c.self.view_is c.args.k c.in-Some.packet.now (ap option_copied (sym c.in-Some.is) ∙ c.find.ensures) in
    (omega (arith, r.number.0, c.to.ensures), omega (arith, r.number.1, c.to.ensures))
