use mathlib.Core.List.{IsPrefix}
use Rattle.http_exchanges.proofs.views.look.Given as goal

-- what was read begins what is read
abbrev pub invariant-loop : goal.invariant-loop
invariant-loop g l = IsPrefix l.fn.viewer l.viewer
