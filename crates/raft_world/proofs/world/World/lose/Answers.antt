use Rattle.std.proofs.Common.{subst, sym}
use Rattle.raft_model.specs.World.{Drops}
use Rattle.raft_world.proofs.Stepped.{Is, Parts}
use Rattle.raft_world.proofs.Eventful.{loses, loses_is}
use Rattle.raft_world.proofs.Calling.{by_move}
use Rattle.raft_world.proofs.world.World.lose.Goals as goal

pub invariant_of-self : goal.invariant_of-self
invariant_of-self g c =
    let in_ = c.self.inside in let p : Parts = record { nodes = in_.nodes.items; clocks = in_.clocks.items; contacts = in_.contacts.items; bag = in_.bag; greatest = in_.greatest; agreed = in_.agreed } in subst (λ b. Is (record p { bag = b })) (sym c.remove.ensures) (loses_is p c.args.k in_.bag.last c.self.invariant)

pub returns-clause-agreement : goal.returns-clause-agreement
returns-clause-agreement g c =
    let in_ = c.self.inside in let p : Parts = record { nodes = in_.nodes.items; clocks = in_.clocks.items; contacts = in_.contacts.items; bag = in_.bag; greatest = in_.greatest; agreed = in_.agreed } in by_move c.args.self.now _ (Drops c.args.k) (loses p c.args.self.now c.self.view_is c.args.k c.remove.new.self c.requires c.remove.ensures)
