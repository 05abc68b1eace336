use Rattle.std.proofs.Common.{◌≡◌, ℕ, [], ◌∷◌, Some, sym, subst, ◌∙◌, ap}
use Rattle.std.specs.Ordering.{nat_cmp}
use Rattle.std.proofs.lemmas.Cmp.{nat_cmp_total}
use Rattle.std.proofs.lemmas.Map.Lookups.{exact_unsigned}
use Rattle.cat_model.specs.Catalog.{session_at, session_key}
use Rattle.cat_model.specs.Machine.{catalog_at}
use Rattle.cat_model.proofs.InOrder.{key_of_found}
use Rattle.cluster_rules.specs.Offices.{renew_in}
use Rattle.session_ttl.specs.Timed.{AreTimedBut}
use Rattle.session_ttl.proofs.Timing.{timed_renewed}
use Rattle.applied_state.proofs.InTime.{own_position, timed_along}
use Rattle.applied_state.proofs.replica.Replica.renew.Goals as goal

pub set-requires : goal.set-requires
set-requires c =
    let r = c.self.inside in let row = c.in-Some.row.now in
    let rows = (catalog_at r.store).sessions in
    let there : session_at c.args.id rows ≡ Some row = sym (c.in-Some.ensures.row ∙ ap (λ l. session_at c.args.id l) c.sessions.ensures.now) in
    let named : c.args.id ≡ row.id = key_of_found nat_cmp session_key nat_cmp_total exact_unsigned c.args.id rows row there in
    timed_along (c.args.id ∷ []) r.timers r.clocks.items c.as_slice.result.now (renew_in (Some row) c.args.now r.office) c.renew.new.self rows c.sessions-2.result.now.now (sym c.as_slice.ensures.value) (sym c.in_ok-renew.ensures.ok) (sym c.sessions-2.ensures.now)
    (subst (λ (n : ℕ). AreTimedBut (n ∷ []) r.timers r.clocks.items (renew_in (Some row) c.args.now r.office) rows) (sym named)
    (timed_renewed r.timers c.args.now r.clocks.items r.office rows row c.in_order.ensures (own_position r.store c.args.id row there) c.self.invariant.5))
