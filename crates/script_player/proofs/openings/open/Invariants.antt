use Rattle.std.proofs.Common.{◌≡◌, ◌+◌, ◌≤◌, length}
use Rattle.script_player.specs.Line.{lines_of}
use Rattle.script_player.specs.Script.{script_from, script_of}
use Rattle.script_player.proofs.openings.open.Given as goal

abbrev pub invariant-loop-rest : goal.invariant-loop-rest
invariant-loop-rest l =
    (script_of l.script ≡ script_from l.number (lines_of l.rest)) × (l.number + length l.rest ≤ length l.script + 1)

abbrev pub decreases-loop-rest : goal.decreases-loop-rest
decreases-loop-rest l = length l.rest
