use Rattle.std.proofs.Common.{◌≡◌, ◌≤◌, ◌-◌, length, take}
use Rattle.std.specs.Io.KnownBytes.{append_known}
use Rattle.node_connections.specs.Stages.{IsAfterWrite}
use Rattle.node_connections.proofs.writer.write_whole.Given as goal

-- so many bytes of the piece are written
abbrev pub invariant-loop-done : goal.invariant-loop-done
invariant-loop-done g l =
    (l.done ≤ length l.piece)
    × ((g.L.Link.state l.link).said ≡ append_known (g.L.Link.state l.fn.link).said (take l.done l.piece))
    × IsAfterWrite (g.L.Link.state l.fn.link) (g.L.Link.state l.link)

abbrev pub decreases-loop-done : goal.decreases-loop-done
decreases-loop-done g l = length l.piece - l.done
