use Rattle.read_watch.proofs.Leavers.{fired_leave}
use Rattle.read_watch.proofs.sleepers.SleepingReads.take_fired.Goals as goal

pub returns-clause-leave : goal.returns-clause-leave
returns-clause-leave c = fired_leave c.args.fired.now c.args.self.now c.self.inside.registry c.fire.new.self c.self.inside.timers c.cancel_each.new.timers c.in_ok-hit.hit c.as_slice.result.now c.self.view_is c.in_ok-hit.ensures.hit c.in_ok-hit.ensures.left c.as_slice.ensures c.cancel_each.ensures.others
