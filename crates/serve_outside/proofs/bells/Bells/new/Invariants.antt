use Rattle.std.proofs.Common.{◌≡◌, vec_len}
use Rattle.serve_outside.proofs.bells.Bells.new.Given as goal

-- as many bells as were counted
abbrev pub invariant-loop : goal.invariant-loop
invariant-loop g l = vec_len l.bells ≡ l.counter
