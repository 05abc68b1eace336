use Rattle.std.proofs.Common.{◌≡◌, ◌+◌, ◌++◌, reverse, vec_len, vec_capacity}
use Rattle.std.specs.VecDeque.{deque_len, deque_capacity}
use Rattle.cluster_requests.proofs.outs.shelve.Given as goal

abbrev pub invariant-loop-out : goal.invariant-loop-out
invariant-loop-out l =
    record {
      items : l.tray.items ++ reverse l.fresh.items ≡ l.fn.tray.items ++ l.fn.fresh.items;
      len : deque_len l.tray + vec_len l.fresh ≡ deque_len l.fn.tray + vec_len l.fn.fresh;
      capacity : deque_capacity l.tray ≡ deque_capacity l.fn.tray;
      left : vec_capacity l.fresh ≡ vec_capacity l.fn.fresh;
    }

abbrev pub decreases-loop-out : goal.decreases-loop-out
decreases-loop-out l = vec_len l.fresh
