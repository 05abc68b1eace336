use Rattle.timer_wheel.proofs.Keeps.{kept_lower}
use Rattle.timer_wheel.proofs.wheel.TimerWheel.set.Goals as goal

pub set_timer-requires-clause-kept : goal.set_timer-requires-clause-kept
set_timer-requires-clause-kept c = kept_lower c.self.inside.places.entries c.self.inside.list c.self.inside.low _ c.self.invariant c.least-self-inside.ensures.first
