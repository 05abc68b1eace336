use Rattle.std.proofs.Common.{◌≡◌}
use Rattle.dns_jobs.proofs.reader.look.Given as goal

-- nothing was read yet
abbrev pub invariant-loop : goal.invariant-loop
invariant-loop g l = (l.viewer ≡ l.fn.viewer) × (l.steps ≡ l.fn.steps)
