use Rattle.std.proofs.Common.{ap, arith, length, refl, subst, sym, ◌∙◌}
use Rattle.std.specs.Option.{option_copied}
use Rattle.raft_model.specs.Rules.{Receive}
use Rattle.raft_model.specs.World.{Delivers}
use Rattle.raft_node.specs.Receiving.{CarriesAllowed}
use Rattle.raft_node.specs.Steps.{FindsNoMemory, Steps}
use Rattle.raft_world.proofs.Stepped.{Parts}
use Rattle.raft_world.proofs.Calling.{by_acts, by_move, call_finds, call_makes, comes_fit, on_err, received, settled}
use Rattle.raft_world.proofs.Outgoing.{IsPeer}
use Rattle.raft_world.proofs.world.World.deliver.Goals as goal

pub place-at-requires : goal.place-at-requires
place-at-requires g c =
    let in_ = c.self.inside in let p : Parts = record { nodes = in_.nodes.items; clocks = in_.clocks.items; contacts = in_.contacts.items; bag = in_.bag; greatest = in_.greatest; agreed = in_.agreed } in
    let packet = c.in-Some.packet.now in let r = received p c.self.invariant c.args.self.now c.self.view_is c.args.k packet (ap option_copied (sym c.in-Some.is) ∙ c.find.ensures) in
    omega (arith, r.may.to.0, c.to.ensures)

pub index_mut-requires : goal.index_mut-requires
index_mut-requires g c =
    let in_ = c.self.inside in let p : Parts = record { nodes = in_.nodes.items; clocks = in_.clocks.items; contacts = in_.contacts.items; bag = in_.bag; greatest = in_.greatest; agreed = in_.agreed } in
    let packet = c.in-Some.packet.now in let r = received p c.self.invariant c.args.self.now c.self.view_is c.args.k packet (ap option_copied (sym c.in-Some.is) ∙ c.find.ensures) in
    omega (arith, r.may.to.1, c.place-at.ensures, c.to.ensures, in_.nodes.ok.0)

pub receive-requires-clause-other : goal.receive-requires-clause-other
receive-requires-clause-other g c =
    let in_ = c.self.inside in let p : Parts = record { nodes = in_.nodes.items; clocks = in_.clocks.items; contacts = in_.contacts.items; bag = in_.bag; greatest = in_.greatest; agreed = in_.agreed } in
    let packet = c.in-Some.packet.now in let r = received p c.self.invariant c.args.self.now c.self.view_is c.args.k packet (ap option_copied (sym c.in-Some.is) ∙ c.find.ensures) in
    let place = c.place-at.ensures ∙ c.to.ensures in
    let fit = comes_fit p c.self.invariant packet r.may c.place-at.result place c.index_mut.result.now c.index_mut.ensures.value in
    subst (λ f. IsPeer c.index_mut.result.now.id c.index_mut.result.now.servers f) (sym c.from-from.ensures) fit

pub receive-requires-clause-entries : goal.receive-requires-clause-entries
receive-requires-clause-entries g c =
    let in_ = c.self.inside in let p : Parts = record { nodes = in_.nodes.items; clocks = in_.clocks.items; contacts = in_.contacts.items; bag = in_.bag; greatest = in_.greatest; agreed = in_.agreed } in
    let packet = c.in-Some.packet.now in let r = received p c.self.invariant c.args.self.now c.self.view_is c.args.k packet (ap option_copied (sym c.in-Some.is) ∙ c.find.ensures) in
    subst CarriesAllowed (sym c.message.ensures) r.may.allowed

pub invariant_of-self : goal.invariant_of-self
invariant_of-self g c =
    let in_ = c.self.inside in let p : Parts = record { nodes = in_.nodes.items; clocks = in_.clocks.items; contacts = in_.contacts.items; bag = in_.bag; greatest = in_.greatest; agreed = in_.agreed } in
    let packet = c.in-Some.packet.now in let r = received p c.self.invariant c.args.self.now c.self.view_is c.args.k packet (ap option_copied (sym c.in-Some.is) ∙ c.find.ensures) in
    let place = c.place-at.ensures ∙ c.to.ensures in
    let fit = comes_fit p c.self.invariant packet r.may c.place-at.result place c.index_mut.result.now c.index_mut.ensures.value in
    let input = Receive packet.from packet.message in
    let steps = subst (λ m. FindsNoMemory c.index_mut.result.now (Receive c.from-from.result m) c.receive.new.self) c.message.ensures c.in_err-sent.ensures.memory in let none = subst (λ f. FindsNoMemory c.index_mut.result.now (Receive f packet.message) c.receive.new.self) c.from-from.ensures steps in
    let found = call_finds p c.self.invariant c.args.self.now c.self.view_is c.place-at.result packet.to place r.number c.index_mut.result.now c.receive.new.self c.index_mut.ensures.value input fit tt refl none in
    found.0

pub returns-in_err-sent-clause-memory : goal.returns-in_err-sent-clause-memory
returns-in_err-sent-clause-memory g c =
    let in_ = c.self.inside in let p : Parts = record { nodes = in_.nodes.items; clocks = in_.clocks.items; contacts = in_.contacts.items; bag = in_.bag; greatest = in_.greatest; agreed = in_.agreed } in
    let packet = c.in-Some.packet.now in let r = received p c.self.invariant c.args.self.now c.self.view_is c.args.k packet (ap option_copied (sym c.in-Some.is) ∙ c.find.ensures) in
    let place = c.place-at.ensures ∙ c.to.ensures in
    let fit = comes_fit p c.self.invariant packet r.may c.place-at.result place c.index_mut.result.now c.index_mut.ensures.value in
    let input = Receive packet.from packet.message in
    let steps = subst (λ m. FindsNoMemory c.index_mut.result.now (Receive c.from-from.result m) c.receive.new.self) c.message.ensures c.in_err-sent.ensures.memory in let none = subst (λ f. FindsNoMemory c.index_mut.result.now (Receive f packet.message) c.receive.new.self) c.from-from.ensures steps in
    let found = call_finds p c.self.invariant c.args.self.now c.self.view_is c.place-at.result packet.to place r.number c.index_mut.result.now c.receive.new.self c.index_mut.ensures.value input fit tt refl none in
    on_err c.from_residual.result (packet, r.here, found.1)

pub returns-in_err-sent-clause-agreement : goal.returns-in_err-sent-clause-agreement
returns-in_err-sent-clause-agreement g c =
    let in_ = c.self.inside in let p : Parts = record { nodes = in_.nodes.items; clocks = in_.clocks.items; contacts = in_.contacts.items; bag = in_.bag; greatest = in_.greatest; agreed = in_.agreed } in
    let packet = c.in-Some.packet.now in let r = received p c.self.invariant c.args.self.now c.self.view_is c.args.k packet (ap option_copied (sym c.in-Some.is) ∙ c.find.ensures) in
    let place = c.place-at.ensures ∙ c.to.ensures in
    let fit = comes_fit p c.self.invariant packet r.may c.place-at.result place c.index_mut.result.now c.index_mut.ensures.value in
    let input = Receive packet.from packet.message in
    let steps = subst (λ m. FindsNoMemory c.index_mut.result.now (Receive c.from-from.result m) c.receive.new.self) c.message.ensures c.in_err-sent.ensures.memory in let none = subst (λ f. FindsNoMemory c.index_mut.result.now (Receive f packet.message) c.receive.new.self) c.from-from.ensures steps in
    let found = call_finds p c.self.invariant c.args.self.now c.self.view_is c.place-at.result packet.to place r.number c.index_mut.result.now c.receive.new.self c.index_mut.ensures.value input fit tt refl none in
    by_acts c.args.self.now _ (Delivers c.args.k) packet.to input (λ a. (packet, r.here, a)) found.1

pub settle-requires-clause-place : goal.settle-requires-clause-place
settle-requires-clause-place g c =
    let in_ = c.self.inside in let p : Parts = record { nodes = in_.nodes.items; clocks = in_.clocks.items; contacts = in_.contacts.items; bag = in_.bag; greatest = in_.greatest; agreed = in_.agreed } in
    let packet = c.in-Some.packet.now in let r = received p c.self.invariant c.args.self.now c.self.view_is c.args.k packet (ap option_copied (sym c.in-Some.is) ∙ c.find.ensures) in
    omega (arith, r.may.to.1, c.place-at.ensures, c.to.ensures, ap length c.deref.ensures.value)

pub invariant_of-self-2 : goal.invariant_of-self-2
invariant_of-self-2 g c =
    let in_ = c.self.inside in let p : Parts = record { nodes = in_.nodes.items; clocks = in_.clocks.items; contacts = in_.contacts.items; bag = in_.bag; greatest = in_.greatest; agreed = in_.agreed } in
    let packet = c.in-Some.packet.now in let r = received p c.self.invariant c.args.self.now c.self.view_is c.args.k packet (ap option_copied (sym c.in-Some.is) ∙ c.find.ensures) in
    let place = c.place-at.ensures ∙ c.to.ensures in
    let fit = comes_fit p c.self.invariant packet r.may c.place-at.result place c.index_mut.result.now c.index_mut.ensures.value in
    let input = Receive packet.from packet.message in
    let steps = subst (λ m. Steps c.index_mut.result.now (Receive c.from-from.result m) c.receive.new.self c.in_ok-sent.sent) c.message.ensures c.in_ok-sent.ensures.ok in let whole = subst (λ f. Steps c.index_mut.result.now (Receive f packet.message) c.receive.new.self c.in_ok-sent.sent) c.from-from.ensures steps in
    let same = settled p c.self.invariant c.args.self.now c.self.view_is c.place-at.result packet.to place r.number c.index_mut.result.now c.receive.new.self c.index_mut.ensures.value
    c.deref.result.now c.deref-2.result.now c.deref_mut.result.now c.settle.new.contacts in_.contacts.len c.settle.new.bag in_.greatest c.settle.new.agreed c.in_ok-sent.sent
    c.deref.ensures.value c.deref-2.ensures.value c.deref_mut.ensures.value c.deref_mut.ensures.len c.settle.ensures.contacts c.settle.ensures.bag c.settle.ensures.agreed in
    let made = call_makes p c.self.invariant c.args.self.now c.self.view_is c.place-at.result packet.to place r.number c.index_mut.result.now c.receive.new.self c.index_mut.ensures.value _ input c.in_ok-sent.sent same fit tt refl whole in
    made.0

pub returns-clause-ok : goal.returns-clause-ok
returns-clause-ok g c =
    let in_ = c.self.inside in let p : Parts = record { nodes = in_.nodes.items; clocks = in_.clocks.items; contacts = in_.contacts.items; bag = in_.bag; greatest = in_.greatest; agreed = in_.agreed } in
    let packet = c.in-Some.packet.now in let r = received p c.self.invariant c.args.self.now c.self.view_is c.args.k packet (ap option_copied (sym c.in-Some.is) ∙ c.find.ensures) in
    let place = c.place-at.ensures ∙ c.to.ensures in
    let fit = comes_fit p c.self.invariant packet r.may c.place-at.result place c.index_mut.result.now c.index_mut.ensures.value in
    let input = Receive packet.from packet.message in
    let steps = subst (λ m. Steps c.index_mut.result.now (Receive c.from-from.result m) c.receive.new.self c.in_ok-sent.sent) c.message.ensures c.in_ok-sent.ensures.ok in let whole = subst (λ f. Steps c.index_mut.result.now (Receive f packet.message) c.receive.new.self c.in_ok-sent.sent) c.from-from.ensures steps in
    let same = settled p c.self.invariant c.args.self.now c.self.view_is c.place-at.result packet.to place r.number c.index_mut.result.now c.receive.new.self c.index_mut.ensures.value
    c.deref.result.now c.deref-2.result.now c.deref_mut.result.now c.settle.new.contacts in_.contacts.len c.settle.new.bag in_.greatest c.settle.new.agreed c.in_ok-sent.sent
    c.deref.ensures.value c.deref-2.ensures.value c.deref_mut.ensures.value c.deref_mut.ensures.len c.settle.ensures.contacts c.settle.ensures.bag c.settle.ensures.agreed in
    let made = call_makes p c.self.invariant c.args.self.now c.self.view_is c.place-at.result packet.to place r.number c.index_mut.result.now c.receive.new.self c.index_mut.ensures.value _ input c.in_ok-sent.sent same fit tt refl whole in
    (packet, r.here, made.1)

pub returns-clause-agreement : goal.returns-clause-agreement
returns-clause-agreement g c =
    let in_ = c.self.inside in let p : Parts = record { nodes = in_.nodes.items; clocks = in_.clocks.items; contacts = in_.contacts.items; bag = in_.bag; greatest = in_.greatest; agreed = in_.agreed } in
    let packet = c.in-Some.packet.now in let r = received p c.self.invariant c.args.self.now c.self.view_is c.args.k packet (ap option_copied (sym c.in-Some.is) ∙ c.find.ensures) in
    let place = c.place-at.ensures ∙ c.to.ensures in
    let fit = comes_fit p c.self.invariant packet r.may c.place-at.result place c.index_mut.result.now c.index_mut.ensures.value in
    let input = Receive packet.from packet.message in
    let steps = subst (λ m. Steps c.index_mut.result.now (Receive c.from-from.result m) c.receive.new.self c.in_ok-sent.sent) c.message.ensures c.in_ok-sent.ensures.ok in let whole = subst (λ f. Steps c.index_mut.result.now (Receive f packet.message) c.receive.new.self c.in_ok-sent.sent) c.from-from.ensures steps in
    let same = settled p c.self.invariant c.args.self.now c.self.view_is c.place-at.result packet.to place r.number c.index_mut.result.now c.receive.new.self c.index_mut.ensures.value
    c.deref.result.now c.deref-2.result.now c.deref_mut.result.now c.settle.new.contacts in_.contacts.len c.settle.new.bag in_.greatest c.settle.new.agreed c.in_ok-sent.sent
    c.deref.ensures.value c.deref-2.ensures.value c.deref_mut.ensures.value c.deref_mut.ensures.len c.settle.ensures.contacts c.settle.ensures.bag c.settle.ensures.agreed in
    let made = call_makes p c.self.invariant c.args.self.now c.self.view_is c.place-at.result packet.to place r.number c.index_mut.result.now c.receive.new.self c.index_mut.ensures.value _ input c.in_ok-sent.sent same fit tt refl whole in
    by_move c.args.self.now _ (Delivers c.args.k) (packet, r.here, made.1.0)
