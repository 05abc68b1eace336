use Rattle.std.proofs.Common.{◌∙◌, ap, subst}
use Rattle.timer_wheel.specs.Dues.{AreDue}
use Rattle.read_watch.specs.Watch.{is_among}
use Rattle.read_watch.proofs.Leavers.{over_leave}
use Rattle.read_watch.proofs.sleepers.SleepingReads.take_over.Goals as goal

pub returns-clause-leave : goal.returns-clause-leave
returns-clause-leave c = over_leave c.args.clock c.args.self.now c.self.inside.registry c.remove_each.new.registry c.self.inside.timers c.take_due.new.timers c.in_ok-over.over c.as_slice.result.now c.self.view_is c.in_ok-over.ensures.due c.in_ok-over.ensures.left c.as_slice.ensures c.remove_each.ensures.others

pub returns-clause-due : goal.returns-clause-due
returns-clause-due c = subst (λ s. AreDue s.timers c.args.clock c.in_ok-over.over) c.self.view_is c.in_ok-over.ensures.due

pub returns-clause-gone : goal.returns-clause-gone
returns-clause-gone c = λ n h. c.remove_each.ensures.gone n (ap (is_among n) c.as_slice.ensures ∙ h)
