-- What processes agree on, at whatever times.
use Rattle.std.specs.Prelude.{◌≡◌, ℕ, ◌≤◌, List, length, take}
use Rattle.raft_model.specs.Facts.{IsLeading}
use Rattle.raft_model.specs.Log.{Log}
use Rattle.raft_model.specs.Node.{Node, committed}
use Rattle.node_journals.specs.Journals.{Process, Was}

-- There is one log of which each process has always committed a front: its first entries, up to some index.
abbrev pub HaveOneLog : List Process → Type 0
HaveOneLog processes =
    (log : Log) × ((i : ℕ) (n : Node) → Was processes i n → (n.commit ≤ length log) × (committed n ≡ take n.commit log))

-- What one process has committed at one time another has, once it has committed as much.
abbrev pub Agree : List Process → Type 0
Agree processes =
    (i j : ℕ) (n m : Node) → Was processes i n → Was processes j m → n.commit ≤ m.commit → take n.commit (committed m) ≡ committed n

-- A term has one leader, over all times.
abbrev pub HaveOneLeader : List Process → Type 0
HaveOneLeader processes =
    (i j : ℕ) (n m : Node) → Was processes i n → Was processes j m → IsLeading n → IsLeading m → n.term ≡ m.term → i ≡ j
