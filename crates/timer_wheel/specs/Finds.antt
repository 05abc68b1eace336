-- What a search for due timers has found.
use Rattle.std.specs.Prelude.{◌≡◌, ℕ, ◌+◌, ◌<◌, ◌≤◌, ◌%◌, Bool, true, not, List, Some}
use Rattle.std.specs.Ordering.{nat_cmp}
use Rattle.std.specs.Map.{lookup}
use Rattle.std.specs.List.{list_any}
use Rattle.std.specs.BTreeMap.{is_at}
use Rattle.index_list.specs.Places.{has}
use Rattle.timer_wheel.specs.declared.place.Place.{Place}
use Rattle.timer_wheel.specs.Dues.{due_cmp, IsDue}

abbrev pub IsFound : List (ℕ × ℕ) → ℕ × ℕ → Type 0
IsFound found d = list_any (is_at (due_cmp d)) found ≡ true

-- all that was found is due
pub record AllDue (timers : List (ℕ × ℕ)) (now : ℕ) (found : List (ℕ × ℕ)) : Type 0 where
  pub each : (d : ℕ × ℕ) → IsFound found d → IsDue timers now d

-- what was found stays so
pub record AllKept (before after : List (ℕ × ℕ)) : Type 0 where
  pub still : (d : ℕ × ℕ) → IsFound before d → IsFound after d

-- the timer of a key is found, if it is due
pub record IsNoted (entries : List (ℕ × Place)) (now : ℕ) (found : List (ℕ × ℕ)) (key : ℕ) : Type 0 where
  pub noted : (p : Place) → lookup (is_at (nat_cmp key)) entries ≡ Some p → p.at ≤ now → IsFound found (p.at, key)

-- all timers in the slots of this many times from the lowest one on are found, if they are due
pub record AllNoted (entries : List (ℕ × Place)) (now low turns : ℕ) (found : List (ℕ × ℕ)) : Type 0 where
  pub noted : (key turn : ℕ) (p : Place) → lookup (is_at (nat_cmp key)) entries ≡ Some p → p.at ≤ now → turn < turns → (low + turn) % 65536 ≡ p.at % 65536 → IsFound found (p.at, key)

-- whether a timer's key is none of these
abbrev pub is_off : List ℕ → ℕ × Place → Bool
is_off keys e = not (has e.0 keys)
