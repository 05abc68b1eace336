-- A count of a log's command bytes.
use Rattle.std.specs.Prelude.{◌≡◌, ℕ, ◌-◌, ◌^◌, ◌≤◌, min, length, take}
use Rattle.cat_model.specs.LogLimits.{log_bytes}
use Rattle.raft_model.specs.Log.{Log}
use Rattle.raft_node.specs.declared.counted.Counted.{Counted}

-- command bytes as they are counted
abbrev pub bytes_of : Log → ℕ
bytes_of log = min (log_bytes log) (2 ^ 64 - 1)

-- the bytes are those of the first entries of the log
pub record IsCount (log : Log) (counted : Counted) : Type 0 where
  pub within : counted.entries ≤ length log
  pub bytes : counted.bytes ≡ bytes_of (take counted.entries log)
