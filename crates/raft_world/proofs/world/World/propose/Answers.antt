use Rattle.std.proofs.Common.{◌≡◌, Err, subst, sym}
use Rattle.raft_world.specs.Steps.{KeepsAgreement, Proposes, counted}
use Rattle.raft_world.proofs.Stepped.{Parts, with_node, world_of}
use Rattle.raft_world.proofs.Calling.{settled}
use Rattle.raft_world.proofs.Asked.{enters, refuses}
use Rattle.raft_world.proofs.world.World.propose.Goals as goal

pub invariant_of-self : goal.invariant_of-self
invariant_of-self g c =
    let in_ = c.self.inside in let p : Parts = record { nodes = in_.nodes.items; clocks = in_.clocks.items; contacts = in_.contacts.items; bag = in_.bag; greatest = in_.greatest; agreed = in_.agreed } in
    let same = settled p c.self.invariant c.args.self.now c.self.view_is c.place-at.result c.args.s c.place-at.ensures c.requires.server c.index_mut.result.now c.propose.new.self c.index_mut.ensures.value
    c.deref.result.now c.deref-in-Ok.result.now c.deref_mut.result.now c.settle.new.contacts in_.contacts.len c.settle.new.bag c.max-self-inside.result c.settle.new.agreed c.in-Ok.sent
    c.deref.ensures.value c.deref-in-Ok.ensures.value c.deref_mut.ensures.value c.deref_mut.ensures.len c.settle.ensures.contacts c.settle.ensures.bag c.settle.ensures.agreed in
    let made = enters p c.self.invariant c.args.self.now c.self.view_is c.place-at.result c.args.s c.place-at.ensures c.requires.server c.index_mut.result.now c.propose.new.self c.index_mut.ensures.value _ c.args.number c.args.command c.in-Ok.sent c.in-Ok.place same c.requires.fresh c.max-self-inside.ensures c.in-Ok.ensures in
    made.0

pub invariant_of-self-in-Err : goal.invariant_of-self-in-Err
invariant_of-self-in-Err g c =
    let in_ = c.self.inside in let p : Parts = record { nodes = in_.nodes.items; clocks = in_.clocks.items; contacts = in_.contacts.items; bag = in_.bag; greatest = in_.greatest; agreed = in_.agreed } in
    let r = refuses p c.self.invariant c.args.self.now c.self.view_is c.place-at.result c.args.s c.place-at.ensures c.requires.server c.index_mut.result.now c.propose.new.self c.index_mut.ensures.value c.args.number c.args.command c.in-Err.fault c.requires.fresh c.in-Err.ensures in
    r.0

pub returns-in-Ok-clause-answer : goal.returns-in-Ok-clause-answer
returns-in-Ok-clause-answer g c =
    let in_ = c.self.inside in let p : Parts = record { nodes = in_.nodes.items; clocks = in_.clocks.items; contacts = in_.contacts.items; bag = in_.bag; greatest = in_.greatest; agreed = in_.agreed } in
    let same = settled p c.self.invariant c.args.self.now c.self.view_is c.place-at.result c.args.s c.place-at.ensures c.requires.server c.index_mut.result.now c.propose.new.self c.index_mut.ensures.value
    c.deref.result.now c.deref-in-Ok.result.now c.deref_mut.result.now c.settle.new.contacts in_.contacts.len c.settle.new.bag c.max-self-inside.result c.settle.new.agreed c.in-Ok.sent
    c.deref.ensures.value c.deref-in-Ok.ensures.value c.deref_mut.ensures.value c.deref_mut.ensures.len c.settle.ensures.contacts c.settle.ensures.bag c.settle.ensures.agreed in
    let made = enters p c.self.invariant c.args.self.now c.self.view_is c.place-at.result c.args.s c.place-at.ensures c.requires.server c.index_mut.result.now c.propose.new.self c.index_mut.ensures.value _ c.args.number c.args.command c.in-Ok.sent c.in-Ok.place same c.requires.fresh c.max-self-inside.ensures c.in-Ok.ensures in
    made.1

pub returns-in-Ok-clause-placed : goal.returns-in-Ok-clause-placed
returns-in-Ok-clause-placed g c =
    let in_ = c.self.inside in let p : Parts = record { nodes = in_.nodes.items; clocks = in_.clocks.items; contacts = in_.contacts.items; bag = in_.bag; greatest = in_.greatest; agreed = in_.agreed } in
    let same = settled p c.self.invariant c.args.self.now c.self.view_is c.place-at.result c.args.s c.place-at.ensures c.requires.server c.index_mut.result.now c.propose.new.self c.index_mut.ensures.value
    c.deref.result.now c.deref-in-Ok.result.now c.deref_mut.result.now c.settle.new.contacts in_.contacts.len c.settle.new.bag c.max-self-inside.result c.settle.new.agreed c.in-Ok.sent
    c.deref.ensures.value c.deref-in-Ok.ensures.value c.deref_mut.ensures.value c.deref_mut.ensures.len c.settle.ensures.contacts c.settle.ensures.bag c.settle.ensures.agreed in
    let made = enters p c.self.invariant c.args.self.now c.self.view_is c.place-at.result c.args.s c.place-at.ensures c.requires.server c.index_mut.result.now c.propose.new.self c.index_mut.ensures.value _ c.args.number c.args.command c.in-Ok.sent c.in-Ok.place same c.requires.fresh c.max-self-inside.ensures c.in-Ok.ensures in
    made.2

pub returns-in-Ok-clause-agreement : goal.returns-in-Ok-clause-agreement
returns-in-Ok-clause-agreement g c =
    let in_ = c.self.inside in let p : Parts = record { nodes = in_.nodes.items; clocks = in_.clocks.items; contacts = in_.contacts.items; bag = in_.bag; greatest = in_.greatest; agreed = in_.agreed } in
    let same = settled p c.self.invariant c.args.self.now c.self.view_is c.place-at.result c.args.s c.place-at.ensures c.requires.server c.index_mut.result.now c.propose.new.self c.index_mut.ensures.value
    c.deref.result.now c.deref-in-Ok.result.now c.deref_mut.result.now c.settle.new.contacts in_.contacts.len c.settle.new.bag c.max-self-inside.result c.settle.new.agreed c.in-Ok.sent
    c.deref.ensures.value c.deref-in-Ok.ensures.value c.deref_mut.ensures.value c.deref_mut.ensures.len c.settle.ensures.contacts c.settle.ensures.bag c.settle.ensures.agreed in
    let made = enters p c.self.invariant c.args.self.now c.self.view_is c.place-at.result c.args.s c.place-at.ensures c.requires.server c.index_mut.result.now c.propose.new.self c.index_mut.ensures.value _ c.args.number c.args.command c.in-Ok.sent c.in-Ok.place same c.requires.fresh c.max-self-inside.ensures c.in-Ok.ensures in
    made.3

pub returns-in-Err : goal.returns-in-Err
returns-in-Err g c =
    let in_ = c.self.inside in let p : Parts = record { nodes = in_.nodes.items; clocks = in_.clocks.items; contacts = in_.contacts.items; bag = in_.bag; greatest = in_.greatest; agreed = in_.agreed } in
    let r = refuses p c.self.invariant c.args.self.now c.self.view_is c.place-at.result c.args.s c.place-at.ensures c.requires.server c.index_mut.result.now c.propose.new.self c.index_mut.ensures.value c.args.number c.args.command c.in-Err.fault c.requires.fresh c.in-Err.ensures in
    let count : counted c.in-Err.fault c.args.number in_.greatest ≡ c.counted-self-inside.result = sym c.counted-self-inside.ensures in
    record {
      answer = subst (λ k. Proposes c.args.self.now c.args.s c.args.number c.args.command (world_of (record (with_node p c.place-at.result c.propose.new.self) { greatest = k })) (Err c.in-Err.fault)) count r.1;
      placed = tt;
      agreement = subst (λ k. KeepsAgreement c.args.self.now (world_of (record (with_node p c.place-at.result c.propose.new.self) { greatest = k }))) count r.2;
    }
