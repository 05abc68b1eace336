use Rattle.std.proofs.Common.{◌-◌, ◌≡◌, ◌+◌, ◌≤◌}
use Rattle.load_player.specs.Summary.{is_put, is_get, is_delete, requests_by}
use Rattle.load_player.proofs.Drawing.{count_from, left}
use Rattle.load_player.proofs.summary.count_methods.Given as goal

abbrev pub invariant-loop-done : goal.invariant-loop-done
invariant-loop-done l =
    (l.done ≤ l.size) × (l.counts.puts + l.counts.gets + l.counts.deletes ≡ l.done)
    × (requests_by is_put l.seed l.size ≡ count_from is_put l.counts.puts (left l.size l.done l.words))
    × (requests_by is_get l.seed l.size ≡ count_from is_get l.counts.gets (left l.size l.done l.words))
    × (requests_by is_delete l.seed l.size ≡ count_from is_delete l.counts.deletes (left l.size l.done l.words))

abbrev pub decreases-loop-done : goal.decreases-loop-done
decreases-loop-done l = l.size - l.done
