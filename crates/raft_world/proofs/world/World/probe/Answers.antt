use Rattle.std.proofs.Common.{ap, false, refl, sym, ◌≡◌, ◌∙◌}
use Rattle.raft_model.specs.Rules.{Probe}
use Rattle.raft_model.specs.World.{Probes}
use Rattle.raft_world.proofs.Stepped.{Parts}
use Rattle.raft_world.proofs.Eventful.{server}
use Rattle.raft_world.proofs.Calling.{by_move, by_same, call_same, call_works, settled, within}
use Rattle.raft_world.proofs.Asked.{begins, begun_round, one_item, shows_all}
use Rattle.raft_world.proofs.world.World.probe.Goals as goal

pub returns-then-halted-clause-agreement : goal.returns-then-halted-clause-agreement
returns-then-halted-clause-agreement g c =
    by_same c.args.self.now c.args.self.now refl

pub probe-requires : goal.probe-requires
probe-requires g c =
    let in_ = c.self.inside in let p : Parts = record { nodes = in_.nodes.items; clocks = in_.clocks.items; contacts = in_.contacts.items; bag = in_.bag; greatest = in_.greatest; agreed = in_.agreed } in
    c.requires.rounds c.index_mut.result.now (server p c.self.invariant c.args.self.now c.self.view_is c.place-at.result c.args.s c.place-at.ensures c.requires.server c.index_mut.result.now c.index_mut.ensures.value)

pub returns-in_err-round-clause-agreement : goal.returns-in_err-round-clause-agreement
returns-in_err-round-clause-agreement g c =
    let in_ = c.self.inside in let p : Parts = record { nodes = in_.nodes.items; clocks = in_.clocks.items; contacts = in_.contacts.items; bag = in_.bag; greatest = in_.greatest; agreed = in_.agreed } in
    by_same c.args.self.now _ (call_same p c.self.invariant c.args.self.now c.self.view_is c.place-at.result c.args.s c.place-at.ensures c.requires.server c.index_mut.result.now c.probe.new.self c.index_mut.ensures.value c.in_err-round.ensures.as_before).1

pub invariant_of-self-2 : goal.invariant_of-self-2
invariant_of-self-2 g c =
    let in_ = c.self.inside in let p : Parts = record { nodes = in_.nodes.items; clocks = in_.clocks.items; contacts = in_.contacts.items; bag = in_.bag; greatest = in_.greatest; agreed = in_.agreed } in
    let same = settled p c.self.invariant c.args.self.now c.self.view_is c.place-at.result c.args.s c.place-at.ensures c.requires.server c.index_mut.result.now c.probe.new.self c.index_mut.ensures.value
    c.deref.result.now c.deref-2.result.now c.deref_mut.result.now c.settle.new.contacts in_.contacts.len c.settle.new.bag in_.greatest c.settle.new.agreed c.in_ok-round.sent
    c.deref.ensures.value c.deref-2.ensures.value c.deref_mut.ensures.value c.deref_mut.ensures.len c.settle.ensures.contacts c.settle.ensures.bag c.settle.ensures.agreed in
    let r = call_works p c.self.invariant c.args.self.now c.self.view_is c.place-at.result c.args.s c.place-at.ensures c.requires.server c.index_mut.result.now c.probe.new.self c.index_mut.ensures.value _ Probe c.in_ok-round.sent same tt tt refl c.in_ok-round.ensures.ok.1 in
    r.0

pub returns-clause-ok : goal.returns-clause-ok
returns-clause-ok g c =
    let in_ = c.self.inside in let p : Parts = record { nodes = in_.nodes.items; clocks = in_.clocks.items; contacts = in_.contacts.items; bag = in_.bag; greatest = in_.greatest; agreed = in_.agreed } in
    let same = settled p c.self.invariant c.args.self.now c.self.view_is c.place-at.result c.args.s c.place-at.ensures c.requires.server c.index_mut.result.now c.probe.new.self c.index_mut.ensures.value
    c.deref.result.now c.deref-2.result.now c.deref_mut.result.now c.settle.new.contacts in_.contacts.len c.settle.new.bag in_.greatest c.settle.new.agreed c.in_ok-round.sent
    c.deref.ensures.value c.deref-2.ensures.value c.deref_mut.ensures.value c.deref_mut.ensures.len c.settle.ensures.contacts c.settle.ensures.bag c.settle.ensures.agreed in
    let r = call_works p c.self.invariant c.args.self.now c.self.view_is c.place-at.result c.args.s c.place-at.ensures c.requires.server c.index_mut.result.now c.probe.new.self c.index_mut.ensures.value _ Probe c.in_ok-round.sent same tt tt refl c.in_ok-round.ensures.ok.1 in
    let old = c.index_mut.result.now in let l = within p c.self.invariant c.args.self.now c.self.view_is c.place-at.result c.args.s c.place-at.ensures c.requires.server old old c.index_mut.ensures.value in let runs : old.halted ≡ false = ap (λ z. z.halted) (one_item in_.nodes.items c.place-at.result old c.index.result.now l c.index_mut.ensures.value c.index.ensures) ∙ sym c.if-halted.ensures in
    let is = c.in_ok-round.ensures.round ∙ begun_round old c.probe.new.self c.in_ok-round.sent runs c.in_ok-round.ensures.ok.0 c.in_ok-round.ensures.ok.1 in
    begins c.args.self.now c.args.s _ old c.probe.new.self c.in_ok-round.round r.1.0 r.1.1 r.1.2 runs c.in_ok-round.ensures.ok.0 is

pub returns-clause-shows : goal.returns-clause-shows
returns-clause-shows g c =
    let in_ = c.self.inside in let p : Parts = record { nodes = in_.nodes.items; clocks = in_.clocks.items; contacts = in_.contacts.items; bag = in_.bag; greatest = in_.greatest; agreed = in_.agreed } in
    let old = c.index_mut.result.now in let l = within p c.self.invariant c.args.self.now c.self.view_is c.place-at.result c.args.s c.place-at.ensures c.requires.server old old c.index_mut.ensures.value in let runs : old.halted ≡ false = ap (λ z. z.halted) (one_item in_.nodes.items c.place-at.result old c.index.result.now l c.index_mut.ensures.value c.index.ensures) ∙ sym c.if-halted.ensures in
    let is = c.in_ok-round.ensures.round ∙ begun_round old c.probe.new.self c.in_ok-round.sent runs c.in_ok-round.ensures.ok.0 c.in_ok-round.ensures.ok.1 in
    shows_all c.args.self.now c.args.s old c.in_ok-round.round (server p c.self.invariant c.args.self.now c.self.view_is c.place-at.result c.args.s c.place-at.ensures c.requires.server old c.index_mut.ensures.value) is

pub returns-clause-agreement : goal.returns-clause-agreement
returns-clause-agreement g c =
    let in_ = c.self.inside in let p : Parts = record { nodes = in_.nodes.items; clocks = in_.clocks.items; contacts = in_.contacts.items; bag = in_.bag; greatest = in_.greatest; agreed = in_.agreed } in
    let same = settled p c.self.invariant c.args.self.now c.self.view_is c.place-at.result c.args.s c.place-at.ensures c.requires.server c.index_mut.result.now c.probe.new.self c.index_mut.ensures.value
    c.deref.result.now c.deref-2.result.now c.deref_mut.result.now c.settle.new.contacts in_.contacts.len c.settle.new.bag in_.greatest c.settle.new.agreed c.in_ok-round.sent
    c.deref.ensures.value c.deref-2.ensures.value c.deref_mut.ensures.value c.deref_mut.ensures.len c.settle.ensures.contacts c.settle.ensures.bag c.settle.ensures.agreed in
    let r = call_works p c.self.invariant c.args.self.now c.self.view_is c.place-at.result c.args.s c.place-at.ensures c.requires.server c.index_mut.result.now c.probe.new.self c.index_mut.ensures.value _ Probe c.in_ok-round.sent same tt tt refl c.in_ok-round.ensures.ok.1 in
    by_move c.args.self.now _ (Probes c.args.s) r.1.0
