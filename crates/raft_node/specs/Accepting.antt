-- What an Append makes of a log (extended Raft paper, figure 2, AppendEntries, steps 3 and 4).
use Rattle.std.specs.Prelude.{◌≡◌, ◌≢◌, ℕ, ◌+◌, ◌≤◌, ◌++◌, not, ◌||◌, Bool, true, false, if◌then◌else◌, length, take, drop}
use Rattle.cat_model.specs.declared.command.Entry.{Entry}
use Rattle.raft_model.specs.Log.{Log, accepted}
use Rattle.raft_model.specs.Limits.{command_bytes, is_noop, keeps_limits}
use Rattle.raft_model.specs.Rules.{keeps_front}
use Rattle.raft_node.specs.declared.appends.Fit.{Fit}
use Rattle.raft_node.specs.declared.appends.Fit.TheVariants.{Refused, Stands, Changes}

-- how many bytes of an entry count for the limit of a log
abbrev pub counted_bytes : Entry → ℕ
counted_bytes e = if is_noop e.command then 0 else command_bytes e.command

-- a committed entry would be cut, or the log would pass a limit
abbrev pub refuses : ℕ → Log → Log → Bool
refuses commit old new = not (keeps_limits new) || not (keeps_front commit old new)

-- the log is cut behind its first `kept` entries, and all but the first `passed` of the Append's come behind them
pub record IsChanged (commit prev : ℕ) (log new entries : Log) (kept passed : ℕ) : Type 0 where
  pub within : passed ≤ length entries
  pub fits : kept ≤ length log
  pub same : new ≡ take kept log ++ drop passed entries
  pub differs : new ≢ log
  pub allowed : refuses commit log new ≡ false
  pub reaches : prev + length entries ≤ length new

abbrev pub Takes : ℕ → Log → ℕ → Log → Fit → Type 0
Takes commit log prev entries Refused = refuses commit log (accepted log prev entries) ≡ true
Takes commit log prev entries Stands = (accepted log prev entries ≡ log) × (refuses commit log log ≡ false) × (prev + length entries ≤ length log)
Takes commit log prev entries (Changes kept passed) = IsChanged commit prev log (accepted log prev entries) entries kept passed
