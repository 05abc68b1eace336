use Rattle.raft_model.specs.World.{Arms}
use Rattle.raft_world.proofs.Stepped.{Parts}
use Rattle.raft_world.proofs.Eventful.{arms_is}
use Rattle.raft_world.proofs.Calling.{by_move}
use Rattle.raft_world.proofs.world.World.fail_keep.Goals as goal

pub invariant_of-self : goal.invariant_of-self
invariant_of-self g c =
    let in_ = c.self.inside in let p : Parts = record { nodes = in_.nodes.items; clocks = in_.clocks.items; contacts = in_.contacts.items; bag = in_.bag; greatest = in_.greatest; agreed = in_.agreed } in (arms_is p c.self.invariant c.args.self.now c.self.view_is c.place.result c.args.s c.place.ensures c.requires c.args.nth c.index_mut.result.now c.fail_keep.new.self c.index_mut.ensures.value c.fail_keep.ensures).0

pub returns-clause-step : goal.returns-clause-step
returns-clause-step g c =
    let in_ = c.self.inside in let p : Parts = record { nodes = in_.nodes.items; clocks = in_.clocks.items; contacts = in_.contacts.items; bag = in_.bag; greatest = in_.greatest; agreed = in_.agreed } in (arms_is p c.self.invariant c.args.self.now c.self.view_is c.place.result c.args.s c.place.ensures c.requires c.args.nth c.index_mut.result.now c.fail_keep.new.self c.index_mut.ensures.value c.fail_keep.ensures).1

pub returns-clause-agreement : goal.returns-clause-agreement
returns-clause-agreement g c =
    let in_ = c.self.inside in let p : Parts = record { nodes = in_.nodes.items; clocks = in_.clocks.items; contacts = in_.contacts.items; bag = in_.bag; greatest = in_.greatest; agreed = in_.agreed } in by_move c.args.self.now _ (Arms c.args.s c.args.nth) (arms_is p c.self.invariant c.args.self.now c.self.view_is c.place.result c.args.s c.place.ensures c.requires c.args.nth c.index_mut.result.now c.fail_keep.new.self c.index_mut.ensures.value c.fail_keep.ensures).1
