use Rattle.std.proofs.Common.{Some, drop}
use Rattle.session_ttl.specs.Timed.{AreTimedBut}
use Rattle.session_ttl.proofs.timers.timed_each.Given as goal

abbrev pub invariant-loop-id : goal.invariant-loop-id
invariant-loop-id l = AreTimedBut (drop l.id-index l.ids) (Some l.wheel) l.clocks l.office l.sessions.now
