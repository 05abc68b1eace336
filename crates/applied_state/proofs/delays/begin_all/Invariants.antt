use Rattle.std.proofs.Common.{◌≡◌, ℕ, List, drop}
use Rattle.applied_state.specs.Delays.{end_with}
use Rattle.applied_state.proofs.delays.begin_all.Given as goal

abbrev pub invariant-freed : goal.invariant-freed
invariant-freed l = (key : List ℕ) → end_with (drop l.one-index l.freed) l.clock l.begun key ≡ end_with l.freed l.clock l.fn.begun key
