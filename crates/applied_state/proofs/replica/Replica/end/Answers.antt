use Rattle.cat_model.specs.Machine.{catalog_at}
use Rattle.session_ttl.proofs.Timing.{timed_after_ends}
use Rattle.applied_state.proofs.replica.Replica.end.Goals as goal

pub invariant_of-self-2 : goal.invariant_of-self-2
invariant_of-self-2 c =
    let r = c.self.inside in let i = c.self.invariant in
    (i.0, i.1, i.2, i.3, i.4, timed_after_ends r.timers r.clocks.items r.office c.end.new.self c.args.endings.now (catalog_at r.store).sessions c.in_ok-end.ensures.ok i.5)
