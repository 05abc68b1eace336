use Rattle.std.proofs.Common.{◌≡◌, take, filter}
use Rattle.timer_wheel.specs.Kept.{Kept}
use Rattle.timer_wheel.specs.Finds.{is_off}
use Rattle.timer_wheel.proofs.slots.unset_timers.Given as goal

abbrev pub invariant-loop-key : goal.invariant-loop-key
invariant-loop-key l = Kept l.places.entries l.list l.low × (l.places.entries ≡ filter (is_off (take l.key-index l.keys)) l.fn.places.entries)
