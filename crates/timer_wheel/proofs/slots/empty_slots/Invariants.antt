use Rattle.std.proofs.Common.{◌≡◌, length, []}
use Rattle.timer_wheel.proofs.slots.empty_slots.Given as goal

abbrev pub invariant-loop-slot : goal.invariant-loop-slot
invariant-loop-slot l = (length l.list.first ≡ l._slot) × (length l.list.second ≡ 1) × (l.list.items ≡ [])
