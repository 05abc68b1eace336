-- The durable stores that a cluster begins with.
use Rattle.std.specs.Prelude.{◌≡◌, ℕ, ◌≤◌, ◌⊎◌, Bool, true, List, [], ◌∷◌, Option}
use Rattle.outside.specs.Causes.{Rose}
use Rattle.cat_model.specs.declared.kept.Kept.{Kept}
use Rattle.cat_model.specs.LogLimits.{keeps_limits}
use Rattle.raft_model.specs.Node.{Store}

-- a store that holds this, where it tells, with these numbers, and whether it is sure
abbrev pub store_of : Option Kept → ℕ → ℕ → Bool → Store
store_of held armed faults sure = record { contents = held; armed = armed; faults = faults; sure = sure }

-- contents whose log is within the limits
abbrev pub KeepsLimits : Kept → Type 0
KeepsLimits kept = keeps_limits kept.log ≡ true

-- The count of faults of one of the stores rose: none before it fell, and those behind it are as before.
abbrev pub HasFailed : (before now : List ℕ) → Type 0
HasFailed [] now = ⊥
HasFailed (n ∷ ns) [] = ⊥
HasFailed (n ∷ ns) (m ∷ ms) = (Rose n m × (ms ≡ ns)) ⊎ ((n ≤ m) × HasFailed ns ms)
