use Rattle.std.proofs.Common.{◌≡◌, length, []}
use Rattle.read_watch.proofs.waiters.empty_lists.Given as goal

abbrev pub invariant-loop-turn : goal.invariant-loop-turn
invariant-loop-turn l = (length l.list.first ≡ l._turn) × (length l.list.second ≡ l._turn) × (l.list.items ≡ [])
