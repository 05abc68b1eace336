-- The agents of a cluster by their numbers.
use Rattle.std.proofs.Common.{◌≡◌, ℕ, suc, ◌+◌, List, get_or, ◌∙◌, ap, arith}
use Rattle.cluster_rules.specs.Agents.{Agent, new_agent}
use Rattle.cluster_rules.proofs.Tools.{get_default}
use Rattle.cluster_works.specs.Agents.{IsThere, agent_at}

named : (at number : ℕ) → at + 1 ≡ number → suc at ≡ number
named at number e = omega arith

pub at_place : (agents : List Agent) (at number : ℕ) (g d : Agent) → at + 1 ≡ number → IsThere agents number → g ≡ get_or agents at d → g ≡ agent_at agents number
at_place agents at number g d place there is =
    is ∙ get_default agents at d new_agent (omega (arith, place, there.1)) ∙ ap (agent_at agents) (named at number place)
