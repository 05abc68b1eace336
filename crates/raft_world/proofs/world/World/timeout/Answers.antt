use Rattle.std.proofs.Common.{refl}
use Rattle.raft_model.specs.Rules.{Timeout}
use Rattle.raft_model.specs.World.{TimesOut}
use Rattle.raft_world.proofs.Stepped.{Parts}
use Rattle.raft_world.proofs.Calling.{by_acts, by_move, call_finds, call_makes, on_err, settled}
use Rattle.raft_world.proofs.world.World.timeout.Goals as goal

pub invariant_of-self : goal.invariant_of-self
invariant_of-self g c =
    let in_ = c.self.inside in let p : Parts = record { nodes = in_.nodes.items; clocks = in_.clocks.items; contacts = in_.contacts.items; bag = in_.bag; greatest = in_.greatest; agreed = in_.agreed } in
    let r = call_finds p c.self.invariant c.args.self.now c.self.view_is c.place-at.result c.args.s c.place-at.ensures c.requires c.index_mut.result.now c.timeout.new.self c.index_mut.ensures.value Timeout tt tt refl c.in_err-sent.ensures.memory in r.0

pub returns-in_err-sent-clause-memory : goal.returns-in_err-sent-clause-memory
returns-in_err-sent-clause-memory g c =
    let in_ = c.self.inside in let p : Parts = record { nodes = in_.nodes.items; clocks = in_.clocks.items; contacts = in_.contacts.items; bag = in_.bag; greatest = in_.greatest; agreed = in_.agreed } in
    let r = call_finds p c.self.invariant c.args.self.now c.self.view_is c.place-at.result c.args.s c.place-at.ensures c.requires c.index_mut.result.now c.timeout.new.self c.index_mut.ensures.value Timeout tt tt refl c.in_err-sent.ensures.memory in on_err c.from_residual.result r.1

pub returns-in_err-sent-clause-agreement : goal.returns-in_err-sent-clause-agreement
returns-in_err-sent-clause-agreement g c =
    let in_ = c.self.inside in let p : Parts = record { nodes = in_.nodes.items; clocks = in_.clocks.items; contacts = in_.contacts.items; bag = in_.bag; greatest = in_.greatest; agreed = in_.agreed } in
    let r = call_finds p c.self.invariant c.args.self.now c.self.view_is c.place-at.result c.args.s c.place-at.ensures c.requires c.index_mut.result.now c.timeout.new.self c.index_mut.ensures.value Timeout tt tt refl c.in_err-sent.ensures.memory in by_acts c.args.self.now _ (TimesOut c.args.s) c.args.s Timeout (λ a. a) r.1

pub invariant_of-self-2 : goal.invariant_of-self-2
invariant_of-self-2 g c =
    let in_ = c.self.inside in let p : Parts = record { nodes = in_.nodes.items; clocks = in_.clocks.items; contacts = in_.contacts.items; bag = in_.bag; greatest = in_.greatest; agreed = in_.agreed } in
    let same = settled p c.self.invariant c.args.self.now c.self.view_is c.place-at.result c.args.s c.place-at.ensures c.requires c.index_mut.result.now c.timeout.new.self c.index_mut.ensures.value
    c.deref.result.now c.deref-2.result.now c.deref_mut.result.now c.settle.new.contacts in_.contacts.len c.settle.new.bag in_.greatest c.settle.new.agreed c.in_ok-sent.sent
    c.deref.ensures.value c.deref-2.ensures.value c.deref_mut.ensures.value c.deref_mut.ensures.len c.settle.ensures.contacts c.settle.ensures.bag c.settle.ensures.agreed in
    let r = call_makes p c.self.invariant c.args.self.now c.self.view_is c.place-at.result c.args.s c.place-at.ensures c.requires c.index_mut.result.now c.timeout.new.self c.index_mut.ensures.value _ Timeout c.in_ok-sent.sent same tt tt refl c.in_ok-sent.ensures.ok in r.0

pub returns-clause-ok : goal.returns-clause-ok
returns-clause-ok g c =
    let in_ = c.self.inside in let p : Parts = record { nodes = in_.nodes.items; clocks = in_.clocks.items; contacts = in_.contacts.items; bag = in_.bag; greatest = in_.greatest; agreed = in_.agreed } in
    let same = settled p c.self.invariant c.args.self.now c.self.view_is c.place-at.result c.args.s c.place-at.ensures c.requires c.index_mut.result.now c.timeout.new.self c.index_mut.ensures.value
    c.deref.result.now c.deref-2.result.now c.deref_mut.result.now c.settle.new.contacts in_.contacts.len c.settle.new.bag in_.greatest c.settle.new.agreed c.in_ok-sent.sent
    c.deref.ensures.value c.deref-2.ensures.value c.deref_mut.ensures.value c.deref_mut.ensures.len c.settle.ensures.contacts c.settle.ensures.bag c.settle.ensures.agreed in
    let r = call_makes p c.self.invariant c.args.self.now c.self.view_is c.place-at.result c.args.s c.place-at.ensures c.requires c.index_mut.result.now c.timeout.new.self c.index_mut.ensures.value _ Timeout c.in_ok-sent.sent same tt tt refl c.in_ok-sent.ensures.ok in r.1

pub returns-clause-agreement : goal.returns-clause-agreement
returns-clause-agreement g c =
    let in_ = c.self.inside in let p : Parts = record { nodes = in_.nodes.items; clocks = in_.clocks.items; contacts = in_.contacts.items; bag = in_.bag; greatest = in_.greatest; agreed = in_.agreed } in
    let same = settled p c.self.invariant c.args.self.now c.self.view_is c.place-at.result c.args.s c.place-at.ensures c.requires c.index_mut.result.now c.timeout.new.self c.index_mut.ensures.value
    c.deref.result.now c.deref-2.result.now c.deref_mut.result.now c.settle.new.contacts in_.contacts.len c.settle.new.bag in_.greatest c.settle.new.agreed c.in_ok-sent.sent
    c.deref.ensures.value c.deref-2.ensures.value c.deref_mut.ensures.value c.deref_mut.ensures.len c.settle.ensures.contacts c.settle.ensures.bag c.settle.ensures.agreed in
    let r = call_makes p c.self.invariant c.args.self.now c.self.view_is c.place-at.result c.args.s c.place-at.ensures c.requires c.index_mut.result.now c.timeout.new.self c.index_mut.ensures.value _ Timeout c.in_ok-sent.sent same tt tt refl c.in_ok-sent.ensures.ok in by_move c.args.self.now _ (TimesOut c.args.s) r.1.0
