use Rattle.std.proofs.Common.{List, ℕ, Some, subst, sym}
use Rattle.session_ttl.specs.Timed.{AreTimedBut}
use Rattle.session_ttl.proofs.Timing.{timed_left}
use Rattle.session_ttl.proofs.timers.timed_due.Goals as goal

pub timed_each-requires : goal.timed_each-requires
timed_each-requires c =
    let rows = c.args.sessions.now.now in
    subst (λ (l : List ℕ). AreTimedBut l (Some c.due.new.self) c.args.clocks.now c.args.office.now rows) (sym c.deref.ensures.value)
    (timed_left c.args.clocks.now c.args.office.now rows c.args.wheel c.due.new.self c.args.now c.in-Ok.ids.items c.in-Ok.ensures.due c.in-Ok.ensures.left c.requires)
