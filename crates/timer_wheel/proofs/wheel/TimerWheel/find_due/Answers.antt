use Rattle.std.proofs.Common.{ℕ, List, subst, map}
use Rattle.std.proofs.lemmas.Result.{IfOk-weaker}
use Rattle.timer_wheel.specs.Dues.{AreDue}
use Rattle.timer_wheel.specs.Kept.{timed}
use Rattle.timer_wheel.proofs.Leaves.{none_due, are_due}
use Rattle.timer_wheel.proofs.wheel.TimerWheel.find_due.Goals as goal

pub returns-then-now-self : goal.returns-then-now-self
returns-then-now-self c = none_due c.self.inside.places.entries c.self.inside.list c.self.inside.low c.args.now c.args.self.now c.new.result.items c.self.invariant c.if-now-self.true c.self.view_is c.new.ensures.items

pub returns : goal.returns
returns c =
    IfOk-weaker c.keys_of.result _ _ (λ v e. subst (λ (timers : List (ℕ × ℕ)). AreDue timers c.args.now v.items) c.self.view_is
    (are_due (map timed c.self.inside.places.entries) c.args.now c.in_ok-found.found.keys v.items c.in_ok-found.ensures.sound c.in_ok-found.ensures.whole c.keys_of.ensures.ordered e)) c.keys_of.ensures.keys
