use Rattle.raft_model.specs.World.{Ticks}
use Rattle.raft_world.proofs.Stepped.{Parts}
use Rattle.raft_world.proofs.Eventful.{ticks}
use Rattle.raft_world.proofs.Calling.{by_move}
use Rattle.raft_world.proofs.world.World.tick.Goals as goal

pub returns-clause-step : goal.returns-clause-step
returns-clause-step g c =
    let in_ = c.self.inside in let p : Parts = record { nodes = in_.nodes.items; clocks = in_.clocks.items; contacts = in_.contacts.items; bag = in_.bag; greatest = in_.greatest; agreed = in_.agreed } in ticks p c.self.invariant c.args.self.now c.self.view_is c.place.result c.args.s c.place.ensures c.requires.number c.args.d c.index_mut.result.now c.index_mut.ensures.value

pub returns-clause-agreement : goal.returns-clause-agreement
returns-clause-agreement g c =
    let in_ = c.self.inside in let p : Parts = record { nodes = in_.nodes.items; clocks = in_.clocks.items; contacts = in_.contacts.items; bag = in_.bag; greatest = in_.greatest; agreed = in_.agreed } in by_move c.args.self.now _ (Ticks c.args.s c.args.d) (ticks p c.self.invariant c.args.self.now c.self.view_is c.place.result c.args.s c.place.ensures c.requires.number c.args.d c.index_mut.result.now c.index_mut.ensures.value)
