use Rattle.std.proofs.Common.{refl}
use Rattle.raft_model.specs.Rules.{Beat}
use Rattle.raft_model.specs.World.{Beats}
use Rattle.raft_world.proofs.Stepped.{Parts}
use Rattle.raft_world.proofs.Calling.{by_move, by_same, call_same, call_works, on_err, settled}
use Rattle.raft_world.proofs.world.World.beat.Goals as goal

pub invariant_of-self : goal.invariant_of-self
invariant_of-self g c =
    let in_ = c.self.inside in let p : Parts = record { nodes = in_.nodes.items; clocks = in_.clocks.items; contacts = in_.contacts.items; bag = in_.bag; greatest = in_.greatest; agreed = in_.agreed } in
    let r = call_same p c.self.invariant c.args.self.now c.self.view_is c.place-at.result c.args.s c.place-at.ensures c.requires c.index_mut.result.now c.beat.new.self c.index_mut.ensures.value c.in_err-sent.ensures.memory in r.0

pub returns-in_err-sent-clause-memory : goal.returns-in_err-sent-clause-memory
returns-in_err-sent-clause-memory g c =
    let in_ = c.self.inside in let p : Parts = record { nodes = in_.nodes.items; clocks = in_.clocks.items; contacts = in_.contacts.items; bag = in_.bag; greatest = in_.greatest; agreed = in_.agreed } in
    let r = call_same p c.self.invariant c.args.self.now c.self.view_is c.place-at.result c.args.s c.place-at.ensures c.requires c.index_mut.result.now c.beat.new.self c.index_mut.ensures.value c.in_err-sent.ensures.memory in on_err c.from_residual.result r.1

pub returns-in_err-sent-clause-agreement : goal.returns-in_err-sent-clause-agreement
returns-in_err-sent-clause-agreement g c =
    let in_ = c.self.inside in let p : Parts = record { nodes = in_.nodes.items; clocks = in_.clocks.items; contacts = in_.contacts.items; bag = in_.bag; greatest = in_.greatest; agreed = in_.agreed } in
    let r = call_same p c.self.invariant c.args.self.now c.self.view_is c.place-at.result c.args.s c.place-at.ensures c.requires c.index_mut.result.now c.beat.new.self c.index_mut.ensures.value c.in_err-sent.ensures.memory in by_same c.args.self.now _ r.1

pub invariant_of-self-2 : goal.invariant_of-self-2
invariant_of-self-2 g c =
    let in_ = c.self.inside in let p : Parts = record { nodes = in_.nodes.items; clocks = in_.clocks.items; contacts = in_.contacts.items; bag = in_.bag; greatest = in_.greatest; agreed = in_.agreed } in
    let same = settled p c.self.invariant c.args.self.now c.self.view_is c.place-at.result c.args.s c.place-at.ensures c.requires c.index_mut.result.now c.beat.new.self c.index_mut.ensures.value
    c.deref.result.now c.deref-2.result.now c.deref_mut.result.now c.settle.new.contacts in_.contacts.len c.settle.new.bag in_.greatest c.settle.new.agreed c.in_ok-sent.sent
    c.deref.ensures.value c.deref-2.ensures.value c.deref_mut.ensures.value c.deref_mut.ensures.len c.settle.ensures.contacts c.settle.ensures.bag c.settle.ensures.agreed in
    let r = call_works p c.self.invariant c.args.self.now c.self.view_is c.place-at.result c.args.s c.place-at.ensures c.requires c.index_mut.result.now c.beat.new.self c.index_mut.ensures.value _ Beat c.in_ok-sent.sent same tt tt refl c.in_ok-sent.ensures.ok in r.0

pub returns-clause-ok : goal.returns-clause-ok
returns-clause-ok g c =
    let in_ = c.self.inside in let p : Parts = record { nodes = in_.nodes.items; clocks = in_.clocks.items; contacts = in_.contacts.items; bag = in_.bag; greatest = in_.greatest; agreed = in_.agreed } in
    let same = settled p c.self.invariant c.args.self.now c.self.view_is c.place-at.result c.args.s c.place-at.ensures c.requires c.index_mut.result.now c.beat.new.self c.index_mut.ensures.value
    c.deref.result.now c.deref-2.result.now c.deref_mut.result.now c.settle.new.contacts in_.contacts.len c.settle.new.bag in_.greatest c.settle.new.agreed c.in_ok-sent.sent
    c.deref.ensures.value c.deref-2.ensures.value c.deref_mut.ensures.value c.deref_mut.ensures.len c.settle.ensures.contacts c.settle.ensures.bag c.settle.ensures.agreed in
    let r = call_works p c.self.invariant c.args.self.now c.self.view_is c.place-at.result c.args.s c.place-at.ensures c.requires c.index_mut.result.now c.beat.new.self c.index_mut.ensures.value _ Beat c.in_ok-sent.sent same tt tt refl c.in_ok-sent.ensures.ok in (r.1.0, r.1.1)

pub returns-clause-agreement : goal.returns-clause-agreement
returns-clause-agreement g c =
    let in_ = c.self.inside in let p : Parts = record { nodes = in_.nodes.items; clocks = in_.clocks.items; contacts = in_.contacts.items; bag = in_.bag; greatest = in_.greatest; agreed = in_.agreed } in
    let same = settled p c.self.invariant c.args.self.now c.self.view_is c.place-at.result c.args.s c.place-at.ensures c.requires c.index_mut.result.now c.beat.new.self c.index_mut.ensures.value
    c.deref.result.now c.deref-2.result.now c.deref_mut.result.now c.settle.new.contacts in_.contacts.len c.settle.new.bag in_.greatest c.settle.new.agreed c.in_ok-sent.sent
    c.deref.ensures.value c.deref-2.ensures.value c.deref_mut.ensures.value c.deref_mut.ensures.len c.settle.ensures.contacts c.settle.ensures.bag c.settle.ensures.agreed in
    let r = call_works p c.self.invariant c.args.self.now c.self.view_is c.place-at.result c.args.s c.place-at.ensures c.requires c.index_mut.result.now c.beat.new.self c.index_mut.ensures.value _ Beat c.in_ok-sent.sent same tt tt refl c.in_ok-sent.ensures.ok in by_move c.args.self.now _ (Beats c.args.s) r.1.0
