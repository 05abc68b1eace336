use Rattle.std.proofs.Common.{map}
use Rattle.timer_wheel.specs.Finds.{AllDue, AllNoted}
use Rattle.timer_wheel.specs.Kept.{timed}
use Rattle.timer_wheel.proofs.due.find_due.Given as goal

abbrev pub invariant-loop-turn : goal.invariant-loop-turn
invariant-loop-turn l = AllDue (map timed l.places.entries) l.now l.found.keys × AllNoted l.places.entries l.now l.low l.turn l.found.keys
