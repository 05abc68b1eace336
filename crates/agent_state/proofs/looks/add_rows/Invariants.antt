use Rattle.std.proofs.Common.{◌≡◌, ◌++◌, map, take}
use Rattle.cluster_rules.specs.Agents as rules
use Rattle.agent_state.proofs.looks.add_rows.Given as goal

abbrev pub invariant-loop-w : goal.invariant-loop-w
invariant-loop-w l = l.found.items ≡ l.initial.found.items ++ map (λ (w : rules.Watched). w.row) (take l.w-index l.checks)
