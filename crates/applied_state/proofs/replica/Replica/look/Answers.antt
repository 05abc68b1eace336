use Rattle.std.proofs.Common.{[], sym}
use Rattle.cat_model.specs.Machine.{catalog_at}
use Rattle.session_ttl.proofs.Timing.{timed_looked}
use Rattle.applied_state.proofs.InTime.{timed_along}
use Rattle.applied_state.proofs.replica.Replica.look.Goals as goal

pub look-requires-2 : goal.look-requires-2
look-requires-2 c =
    let r = c.self.inside in
    timed_along [] r.timers r.clocks.items c.as_slice.result.now _ c.look.new.self (catalog_at r.store).sessions c.sessions.result.now.now (sym c.as_slice.ensures.value) (sym c.look.ensures) (sym c.sessions.ensures.now)
    (timed_looked r.timers c.args.now r.clocks.items r.office (catalog_at r.store).sessions c.self.invariant.5)
