use Rattle.std.proofs.Common.{◌≡◌, ◌≤◌, ◌-◌, [], length, replicate}
use Rattle.read_watch.proofs.lines.Lines.new.Given as goal

abbrev pub invariant-loop-alloc : goal.invariant-loop-alloc
invariant-loop-alloc l = (l.lines.items ≡ replicate (length l.lines.items) []) × (length l.lines.items ≤ l.servers)

abbrev pub decreases-loop-alloc : goal.decreases-loop-alloc
decreases-loop-alloc l = l.servers - length l.lines.items
