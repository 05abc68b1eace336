use Rattle.std.proofs.Common.{◌≡◌, ◌≤◌, ◌-◌, length, replicate}
use Rattle.read_watch.specs.Watch.{no_sleeper}
use Rattle.read_watch.proofs.watch.Watch.new.Given as goal

abbrev pub invariant-loop-sleeping : goal.invariant-loop-sleeping
invariant-loop-sleeping l = (l.sleeping.items ≡ replicate (length l.sleeping.items) no_sleeper) × (length l.sleeping.items ≤ l.servers)

abbrev pub decreases-loop-sleeping : goal.decreases-loop-sleeping
decreases-loop-sleeping l = l.servers - length l.sleeping.items
