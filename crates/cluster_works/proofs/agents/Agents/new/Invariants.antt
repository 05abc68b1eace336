use Rattle.std.proofs.Common.{◌≡◌, replicate}
use Rattle.cluster_rules.specs.Agents.{new_agent}
use Rattle.cluster_works.proofs.agents.Agents.new.Given as goal

abbrev pub invariant-loop-number : goal.invariant-loop-number
invariant-loop-number l = l.agents.items ≡ replicate l._number new_agent
