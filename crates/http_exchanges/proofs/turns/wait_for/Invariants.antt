use Rattle.std.proofs.Common.{◌≡◌}
use Rattle.turn_lock.specs.Passes.{IsFree, IsSame}
use Rattle.http_exchanges.specs.Boards.{known}
use Rattle.http_exchanges.specs.Knowing.{HasLearned, known_by}
use Rattle.http_exchanges.specs.Waiting.{Looks}
use Rattle.http_exchanges.proofs.turns.wait_for.Given as goal

-- The pass is free and has opened nothing, what stood when the loop began stands now, the viewer has read all that is agreed,
-- and the link is as it was.
abbrev pub invariant-loop : goal.invariant-loop
invariant-loop g l =
    IsSame l.fn.pass.seat l.pass.seat
    × IsFree l.pass.seat
    × Looks g.C.SharedCluster.shows l.fn.turned.number l.fn.turned.got (known_by l.fn.pass l.fn.viewer) l.number l.got (known_by l.pass l.viewer)
    × HasLearned g.C.SharedCluster.agrees (known_by l.pass l.viewer)
    × (g.L.Link.state l.link ≡ g.L.Link.state l.fn.link)
    × ((known l.pass).mine ≡ (known l.fn.pass).mine)
