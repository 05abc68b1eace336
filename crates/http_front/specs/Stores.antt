-- Durable stores that failed.
use Rattle.std.specs.Prelude.{ℕ, ◌<◌, ◌⊎◌, List, [], ◌∷◌}

-- one of these counts of faults is no longer 0
abbrev pub HasOneFailed : List ℕ → Type 0
HasOneFailed [] = ⊥
HasOneFailed (n ∷ ns) = (0 < n) ⊎ HasOneFailed ns
