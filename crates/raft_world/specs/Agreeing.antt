-- The agreed log, of which a world has no copy where a server that has committed it still has it.
use Rattle.std.specs.Prelude.{◌≡◌, ℕ, ◌<◌, ◌≤◌, nat_lt, ◌==◌, List, [], length, take, map, get_or, if◌then◌else◌}
use Rattle.raft_model.specs.Log.{Log}
use Rattle.raft_model.specs.Node.{Node}
use Rattle.raft_world.specs.declared.agreed.Agreed.{Agreed}
use Rattle.raft_world.specs.declared.agreed.Agreed.TheVariants.{Kept, Committed}
use Rattle.raft_world.specs.Fronts.{HasFront}

-- the log of the server at a place
abbrev pub log_at : List Node → ℕ → Log
log_at nodes at = get_or (map (λ n. n.log) nodes) at []

-- the list that this says is agreed
abbrev pub shown : Agreed → List Node → Log
shown (Kept entries) nodes = entries
shown (Committed at count) nodes = take count (log_at nodes at)

-- how long it is
abbrev pub count_of : Agreed → ℕ
count_of (Kept entries) = length entries
count_of (Committed at count) = count

-- the server has so many entries and has committed them
abbrev pub Stands : Agreed → List Node → Type 0
Stands (Kept entries) nodes = Unit {0}
Stands (Committed at count) nodes =
    (at < length nodes) × (count ≤ length (log_at nodes at)) × ((n : Node) → get_or nodes at n ≡ n → HasFront (take count (log_at nodes at)) n)

-- what it becomes when the server at a place has committed so many entries
abbrev pub grown : Agreed → ℕ → ℕ → Agreed
grown agreed at count = if nat_lt (count_of agreed) count then Committed at count else agreed

-- where it stands in the log of the server at a place, that log has as many entries
abbrev pub IsWithin : Agreed → ℕ → Log → Type 0
IsWithin (Kept entries) at log = Unit {0}
IsWithin (Committed place count) at log = place ≡ at → count ≤ length log

-- what it becomes where the server at a place is to lose its log
abbrev pub left : Agreed → ℕ → Log → Agreed
left (Kept entries) at log = Kept entries
left (Committed place count) at log = if place == at then Kept (take count log) else Committed place count
