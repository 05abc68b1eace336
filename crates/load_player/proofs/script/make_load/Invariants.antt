use Rattle.std.proofs.Common.{◌-◌, ◌≡◌, ◌+◌, ◌*◌, ◌≤◌, ◌++◌, length}
use Rattle.load_player.specs.LoadScript.{load_script, requests_from, text_of}
use Rattle.load_player.proofs.Drawing.{left}
use Rattle.load_player.proofs.script.make_load.Given as goal

abbrev pub invariant-loop-number : goal.invariant-loop-number
invariant-loop-number l =
    (l.number ≤ l.size) × (length l.script.items ≤ 64 * (l.number + 1))
    × (load_script l.seed l.size ≡ l.script.items ++ text_of (requests_from (l.number + 1) (left l.size l.number l.words)))

abbrev pub decreases-loop-number : goal.decreases-loop-number
decreases-loop-number l = l.size - l.number
