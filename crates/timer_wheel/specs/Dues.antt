-- The timers that are due.
use Rattle.std.specs.Prelude.{◌≡◌, ℕ, ◌≤◌, ◌↔◌, List, map, Some, Contains}
use Rattle.std.specs.Ordering.{nat_cmp, ordering_then}
use Rattle.std.specs.declared.cmp.Ordering.{Ordering}
use Rattle.std.specs.Map.{lookup}
use Rattle.std.specs.List.Sorted.{IsStrictlySortedBy}
use Rattle.std.specs.BTreeMap.{is_at}

-- the order of times with keys: by time, and then by key
abbrev pub due_cmp : ℕ × ℕ → ℕ × ℕ → Ordering
due_cmp x y = ordering_then (nat_cmp x.0 y.0) (nat_cmp x.1 y.1)

-- a time with a key is that of a timer which is due
abbrev pub IsDue : List (ℕ × ℕ) → ℕ → ℕ × ℕ → Type 0
IsDue timers now d = (lookup (is_at (nat_cmp d.1)) timers ≡ Some d.0) × (d.0 ≤ now)

-- exactly the keys of the timers that are due, by time and then by key
pub record AreDue (timers : List (ℕ × ℕ)) (now : ℕ) (keys : List ℕ) : Type 0 where
  pub dues : List (ℕ × ℕ)
  pub keys_are : keys ≡ map (λ d. d.1) dues
  pub ascend : IsStrictlySortedBy due_cmp dues
  pub exact : (d : ℕ × ℕ) → Contains dues d ↔ IsDue timers now d
