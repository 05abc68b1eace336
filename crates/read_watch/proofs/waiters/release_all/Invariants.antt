use Rattle.std.proofs.Common.{◌≡◌, take, filter}
use Rattle.read_watch.specs.Held.{Held, is_off}
use Rattle.read_watch.proofs.waiters.release_all.Given as goal

abbrev pub invariant-loop-waiter : goal.invariant-loop-waiter
invariant-loop-waiter l = Held l.waiters.entries l.list × (l.waiters.entries ≡ filter (is_off (take l.waiter-index l.gone)) l.fn.waiters.entries)
