use Rattle.std.proofs.Common.{◌≡◌, ℕ, List, ◌∙◌, ap, subst, map, filter, not, nat_le}
use Rattle.timer_wheel.specs.declared.place.Place.{Place}
use Rattle.timer_wheel.specs.Dues.{AreDue}
use Rattle.timer_wheel.specs.Kept.{timed}
use Rattle.timer_wheel.proofs.Leaves.{none_due, none_leave, left_is, kept_raise, are_due, timed_later}
use Rattle.timer_wheel.proofs.wheel.TimerWheel.due.Goals as goal

pub returns-then-now-self-clause-due : goal.returns-then-now-self-clause-due
returns-then-now-self-clause-due c = none_due c.self.inside.places.entries c.self.inside.list c.self.inside.low c.args.now c.args.self.now c.new.result.items c.self.invariant c.if-now-self.true c.self.view_is c.new.ensures.items

pub returns-then-now-self-clause-left : goal.returns-then-now-self-clause-left
returns-then-now-self-clause-left c = none_leave c.self.inside.places.entries c.self.inside.list c.self.inside.low c.args.now c.args.self.now c.self.invariant c.if-now-self.true c.self.view_is

pub invariant_of-self : goal.invariant_of-self
invariant_of-self c =
    let left : c.unset_timers.new.places.entries ≡ filter (λ (e : ℕ × Place). not (nat_le e.1.at c.args.now)) c.self.inside.places.entries =
    left_is c.self.inside.places.entries c.unset_timers.new.places.entries c.args.now c.in_ok-found.found.keys c.as_slice.result.now c.self.invariant.order c.in_ok-found.ensures.sound c.in_ok-found.ensures.whole (c.as_slice.ensures.value ∙ c.in_ok-keys.ensures.keys) c.unset_timers.ensures.left in
    kept_raise c.self.inside.places.entries c.unset_timers.new.places.entries c.unset_timers.new.list c.self.inside.low c.args.now c.unset_timers.ensures.kept left

pub returns-clause-due : goal.returns-clause-due
returns-clause-due c =
    subst (λ (timers : List (ℕ × ℕ)). AreDue timers c.args.now c.in_ok-keys.keys.items) c.self.view_is
    (are_due (map timed c.self.inside.places.entries) c.args.now c.in_ok-found.found.keys c.in_ok-keys.keys.items c.in_ok-found.ensures.sound c.in_ok-found.ensures.whole c.keys_of.ensures.ordered c.in_ok-keys.ensures.keys)

pub returns-clause-left : goal.returns-clause-left
returns-clause-left c =
    let left : c.unset_timers.new.places.entries ≡ filter (λ (e : ℕ × Place). not (nat_le e.1.at c.args.now)) c.self.inside.places.entries =
    left_is c.self.inside.places.entries c.unset_timers.new.places.entries c.args.now c.in_ok-found.found.keys c.as_slice.result.now c.self.invariant.order c.in_ok-found.ensures.sound c.in_ok-found.ensures.whole (c.as_slice.ensures.value ∙ c.in_ok-keys.ensures.keys) c.unset_timers.ensures.left in
    ap (map timed) left ∙ timed_later c.args.now c.self.inside.places.entries ∙ ap (filter (λ (t : ℕ × ℕ). not (nat_le t.1 c.args.now))) c.self.view_is
