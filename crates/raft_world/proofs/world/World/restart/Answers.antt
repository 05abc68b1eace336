use Rattle.std.proofs.Common.{None, refl, set, subst, sym, ◌≡◌, ◌∙◌}
use Rattle.raft_model.specs.World.{Restarts, WorldStep}
use Rattle.raft_world.proofs.Stepped.{Is, Parts, with_node, world_of}
use Rattle.raft_world.proofs.Eventful.{parted, parted_is, restarts}
use Rattle.raft_world.proofs.Calling.{by_move, by_same, call_same, within}
use Rattle.raft_world.proofs.world.World.restart.Goals as goal

pub returns-in_err-leave-clause-agreement : goal.returns-in_err-leave-clause-agreement
returns-in_err-leave-clause-agreement g c =
    let in_ = c.self.inside in let p : Parts = record { nodes = in_.nodes.items; clocks = in_.clocks.items; contacts = in_.contacts.items; bag = in_.bag; greatest = in_.greatest; agreed = in_.agreed } in
    let kept = call_same p c.self.invariant c.args.self.now c.self.view_is c.place-at.result c.args.s c.place-at.ensures c.requires c.index_mut-node.result.now c.index_mut-node.result.now c.index_mut-node.ensures.value refl in by_same c.args.self.now _ ((λ i. world_of (record (with_node p c.place-at.result c.index_mut-node.result.now) { agreed = c.in_err-leave.ensures.err i })) ∙ kept.1)

pub invariant_of-self-in_err-restart : goal.invariant_of-self-in_err-restart
invariant_of-self-in_err-restart g c =
    let in_ = c.self.inside in let p : Parts = record { nodes = in_.nodes.items; clocks = in_.clocks.items; contacts = in_.contacts.items; bag = in_.bag; greatest = in_.greatest; agreed = in_.agreed } in
    let new = c.restart.new.self in let gone = parted_is p c.self.invariant c.place-at.result c.index_mut-node.result.now (within p c.self.invariant c.args.self.now c.self.view_is c.place-at.result c.args.s c.place-at.ensures c.requires c.index_mut-node.result.now c.index_mut-node.result.now c.index_mut-node.ensures.value) c.index_mut-node.ensures.value c.as_slice.result.now (c.as_slice.ensures ∙ c.log.ensures) in
    let kept = call_same (parted p c.place-at.result c.as_slice.result.now) gone.0 c.args.self.now (gone.1 ∙ c.self.view_is) c.place-at.result c.args.s c.place-at.ensures c.requires c.index_mut-node.result.now new c.index_mut-node.ensures.value c.in_err-restart.ensures.memory in
    subst (λ a. Is (record (with_node p c.place-at.result new) { agreed = a })) (sym c.in_ok-leave.ensures.ok) kept.0

pub returns-in_err-restart-clause-agreement : goal.returns-in_err-restart-clause-agreement
returns-in_err-restart-clause-agreement g c =
    let in_ = c.self.inside in let p : Parts = record { nodes = in_.nodes.items; clocks = in_.clocks.items; contacts = in_.contacts.items; bag = in_.bag; greatest = in_.greatest; agreed = in_.agreed } in
    let new = c.restart.new.self in let gone = parted_is p c.self.invariant c.place-at.result c.index_mut-node.result.now (within p c.self.invariant c.args.self.now c.self.view_is c.place-at.result c.args.s c.place-at.ensures c.requires c.index_mut-node.result.now c.index_mut-node.result.now c.index_mut-node.ensures.value) c.index_mut-node.ensures.value c.as_slice.result.now (c.as_slice.ensures ∙ c.log.ensures) in
    let kept = call_same (parted p c.place-at.result c.as_slice.result.now) gone.0 c.args.self.now (gone.1 ∙ c.self.view_is) c.place-at.result c.args.s c.place-at.ensures c.requires c.index_mut-node.result.now new c.index_mut-node.ensures.value c.in_err-restart.ensures.memory in
    by_same c.args.self.now _ (subst (λ a. world_of (record (with_node p c.place-at.result new) { agreed = a }) ≡ c.args.self.now) (sym c.in_ok-leave.ensures.ok) kept.1)

pub invariant_of-self-2 : goal.invariant_of-self-2
invariant_of-self-2 g c =
    let in_ = c.self.inside in let p : Parts = record { nodes = in_.nodes.items; clocks = in_.clocks.items; contacts = in_.contacts.items; bag = in_.bag; greatest = in_.greatest; agreed = in_.agreed } in
    let new = c.restart.new.self in let gone = parted_is p c.self.invariant c.place-at.result c.index_mut-node.result.now (within p c.self.invariant c.args.self.now c.self.view_is c.place-at.result c.args.s c.place-at.ensures c.requires c.index_mut-node.result.now c.index_mut-node.result.now c.index_mut-node.ensures.value) c.index_mut-node.ensures.value c.as_slice.result.now (c.as_slice.ensures ∙ c.log.ensures) in
    let made = restarts p c.self.invariant c.args.self.now c.self.view_is c.place-at.result c.args.s c.place-at.ensures c.requires c.index_mut-node.result.now new c.as_slice.result.now c.index_mut-node.ensures.value (c.as_slice.ensures ∙ c.log.ensures) c.in_ok-restart.ensures.ok in
    subst (λ a. Is (record (with_node p c.place-at.result new) { agreed = a; contacts = set p.contacts c.place-at.result None })) (sym c.in_ok-leave.ensures.ok) made.0

pub returns-clause-ok : goal.returns-clause-ok
returns-clause-ok g c =
    let in_ = c.self.inside in let p : Parts = record { nodes = in_.nodes.items; clocks = in_.clocks.items; contacts = in_.contacts.items; bag = in_.bag; greatest = in_.greatest; agreed = in_.agreed } in
    let new = c.restart.new.self in let gone = parted_is p c.self.invariant c.place-at.result c.index_mut-node.result.now (within p c.self.invariant c.args.self.now c.self.view_is c.place-at.result c.args.s c.place-at.ensures c.requires c.index_mut-node.result.now c.index_mut-node.result.now c.index_mut-node.ensures.value) c.index_mut-node.ensures.value c.as_slice.result.now (c.as_slice.ensures ∙ c.log.ensures) in
    let made = restarts p c.self.invariant c.args.self.now c.self.view_is c.place-at.result c.args.s c.place-at.ensures c.requires c.index_mut-node.result.now new c.as_slice.result.now c.index_mut-node.ensures.value (c.as_slice.ensures ∙ c.log.ensures) c.in_ok-restart.ensures.ok in
    subst (λ a. WorldStep c.args.self.now (Restarts c.args.s) (world_of (record (with_node p c.place-at.result new) { agreed = a; contacts = set p.contacts c.place-at.result None }))) (sym c.in_ok-leave.ensures.ok) made.1

pub returns-clause-agreement : goal.returns-clause-agreement
returns-clause-agreement g c =
    let in_ = c.self.inside in let p : Parts = record { nodes = in_.nodes.items; clocks = in_.clocks.items; contacts = in_.contacts.items; bag = in_.bag; greatest = in_.greatest; agreed = in_.agreed } in
    let new = c.restart.new.self in let gone = parted_is p c.self.invariant c.place-at.result c.index_mut-node.result.now (within p c.self.invariant c.args.self.now c.self.view_is c.place-at.result c.args.s c.place-at.ensures c.requires c.index_mut-node.result.now c.index_mut-node.result.now c.index_mut-node.ensures.value) c.index_mut-node.ensures.value c.as_slice.result.now (c.as_slice.ensures ∙ c.log.ensures) in
    let made = restarts p c.self.invariant c.args.self.now c.self.view_is c.place-at.result c.args.s c.place-at.ensures c.requires c.index_mut-node.result.now new c.as_slice.result.now c.index_mut-node.ensures.value (c.as_slice.ensures ∙ c.log.ensures) c.in_ok-restart.ensures.ok in
    by_move c.args.self.now _ (Restarts c.args.s) (subst (λ a. WorldStep c.args.self.now (Restarts c.args.s) (world_of (record (with_node p c.place-at.result new) { agreed = a; contacts = set p.contacts c.place-at.result None }))) (sym c.in_ok-leave.ensures.ok) made.1)
