use Rattle.std.proofs.Common.{◌≡◌}
use Rattle.http_exchanges.proofs.turns.waits_in_vain.Given as goal

-- the link is as it was
abbrev pub invariant-loop : goal.invariant-loop
invariant-loop g l = g.L.Link.state l.link ≡ g.L.Link.state l.fn.link
