-- What a server that receives a message has to know beforehand.
use Rattle.std.specs.Prelude.{◌≡◌, ◌≢◌, ℕ, ◌≤◌, true, length}
use Rattle.raft_model.specs.declared.message.Message.{Message}
use Rattle.raft_model.specs.declared.message.Message.TheVariants.{Append}
use Rattle.raft_model.specs.Log.{Log}
use Rattle.raft_model.specs.Limits.{keeps_limits}
use Rattle.raft_model.specs.Node.{Node}
use Rattle.raft_node.specs.declared.counted.Counted.{Counted}
use Rattle.raft_node.specs.declared.state.State.{State}
use Rattle.raft_node.specs.Counts.{IsCount}

-- The entries of an Append keep the limits of a log.
abbrev pub CarriesAllowed : Message → Type 0
CarriesAllowed (Append term prev prev_term entries commit round) = keeps_limits entries ≡ true
CarriesAllowed message = Unit {0}

-- the number of another server
abbrev pub IsOther : Node → ℕ → Type 0
IsOther n from = (1 ≤ from) × (from ≤ n.servers) × (from ≢ n.id)

-- a state beside its log, of which so much is counted
pub record IsBeside (state : State) (log : Log) (count : Counted) : Type 0 where
  pub committed : state.commit ≤ length log
  pub counted : IsCount log count
