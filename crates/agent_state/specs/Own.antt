-- The rows that each agent has without being asked for them.
use Rattle.std.specs.Prelude.{◌≡◌, ℕ}
use Rattle.cluster_rules.specs.Agents.{node_row, serf_row}
use Rattle.agent_state.specs.declared.looks.OwnParts.{OwnParts}

-- agent a's row of its node, and its check of it
pub record AreOwn (a : ℕ) (own : OwnParts) : Type 0 where
  pub node : own.node ≡ node_row a
  pub serf : own.serf ≡ serf_row a
