-- What servers have committed of one list.
use Rattle.std.specs.Prelude.{◌≡◌, ◌≤◌, length, take}
use Rattle.raft_model.specs.Log.{Log}
use Rattle.raft_model.specs.Node.{Node}

-- a server that has committed these entries, or more behind them
abbrev pub HasFront : Log → Node → Type 0
HasFront front n = (length front ≤ n.commit) × (take (length front) n.log ≡ front)
