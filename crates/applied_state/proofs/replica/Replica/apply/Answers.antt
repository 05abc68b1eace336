use Rattle.std.proofs.Common.{[], ap, refl, subst, sym, ◌∙◌, ◌≡◌, ◌++◌, ◌∷◌, arith, ◌+◌}
use Rattle.std.proofs.lemmas.Grind.{common_steps}
use Rattle.cat_model.specs.Channels.{fires}
use Rattle.cat_model.specs.Machine.{catalog_at}
use Rattle.catalog_store.specs.Firing.{FiresJust}
use Rattle.cluster_rules.specs.Offices.{has_removed}
use Rattle.applied_state.specs.Making.{made_ids}
use Rattle.applied_state.specs.States.{ReplicaState}
use Rattle.session_ttl.specs.Timed.{AreTimedBut}
use Rattle.applied_state.proofs.Delaying.{delays_next}
use Rattle.applied_state.proofs.InTime.{timed_along, timed_next}
use Rattle.applied_state.proofs.Replying.{last_is}
use Rattle.applied_state.proofs.Sparing.{spares_others}
use Rattle.applied_state.proofs.replica.Replica.apply.Goals as goal

pub invariant_of-self-in-Ok : goal.invariant_of-self-in-Ok
invariant_of-self-in-Ok c = (
  grind (arith, common_steps),
  grind (arith, common_steps),
  grind (arith, last_is),
  c.has_removed-self-inside.ensures c.self.inside.store
      (subst (λ m. c.apply.new.self ≡ c.self.inside.store ++ m ∷ []) (sym c.deref.ensures) c.in-Ok.ensures.ok)
      c.self.invariant.3
      (subst (λ m. FiresJust (fires (catalog_at c.self.inside.store) m (catalog_at (c.self.inside.store ++ m ∷ []))) c.as_slice.result.now) (sym c.deref.ensures) (rw c.as_slice.ensures c.in-Ok.ensures.fired))
      ∙ ap (λ m. has_removed (c.self.inside.store ++ m ∷ [])) c.deref.ensures ∙ ap has_removed (sym c.in-Ok.ensures.ok),
  delays_next c.self.inside.store c.self.inside.clocks.items c.self.invariant.0 c.args.command.now c.args.now (c.length-position.result + 1) (omega arith) _ c.in-Ok.ensures.freed c.settle.new.self c.note.new.self
      (λ key. c.settle.ensures.same key ∙ c.self.invariant.4 key) c.note.ensures c.apply.new.self c.in-Ok.ensures.ok c.push.new.self.items c.in_ok-push.ensures.items,
  timed_along [] c.applied.new.timers c.as_slice-in-Ok.result.now c.push.new.self.items c.self.inside.office c.self.inside.office c.sessions.result.now.now (catalog_at c.apply.new.self).sessions c.as_slice-in-Ok.ensures.value refl c.sessions.ensures.now c.applied.ensures,
)

pub returns-in-Ok-clause-spares : goal.returns-in-Ok-clause-spares
returns-in-Ok-clause-spares c = spares_others c.self.inside.store c.args.command.now c.args.self.now.commands (ap (λ (s : ReplicaState). s.commands) c.self.view_is) _ c.in-Ok.ensures.fired

pub applied-requires : goal.applied-requires
applied-requires c =
    let r = c.self.inside in
    subst (λ m. AreTimedBut (made_ids m) r.timers c.as_slice-in-Ok.result.now r.office c.sessions.result.now.now) (sym c.deref-in-Ok.ensures) (timed_along (made_ids c.args.command.now) r.timers c.push.new.self.items c.as_slice-in-Ok.result.now r.office r.office (catalog_at c.apply.new.self).sessions c.sessions.result.now.now (sym c.as_slice-in-Ok.ensures.value) refl (sym c.sessions.ensures.now)
    (timed_next r.timers r.store r.clocks.items r.office c.args.now c.args.command.now c.self.invariant.5 c.apply.new.self c.in-Ok.ensures.ok c.push.new.self.items c.in_ok-push.ensures.items))
