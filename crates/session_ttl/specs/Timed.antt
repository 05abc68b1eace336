-- Timers of the sessions of a server in office, which may be early and are never late.
use Rattle.std.specs.Prelude.{◌≡◌, ◌≤◌, ℕ, Bool, true, false, List, [], Option, Some, None}
use Rattle.std.specs.BTreeMap.{is_at}
use Rattle.std.specs.List.{list_any, AllByRecursion as Each}
use Rattle.std.specs.Map.{lookup}
use Rattle.std.specs.Ordering.{nat_cmp}
use Rattle.cat_model.specs.declared.row.SessionRow.{SessionRow}
use Rattle.cluster_rules.specs.Offices.{Office, is_pending, over_at}

-- timers by the identifiers of their sessions, each with its time
abbrev pub Timers : Type 0
Timers = List (ℕ × ℕ)

-- there is a timer of this identifier, and its time is no later than this
pub record HasTimer (timers : Timers) (id until : ℕ) : Type 0 where
  pub at : ℕ
  pub there : lookup (is_at (nat_cmp id)) timers ≡ Some at
  pub in_time : at ≤ until

abbrev pub is_one_of : ℕ → List ℕ → Bool
is_one_of id ids = list_any (is_at (nat_cmp id)) ids

-- Each session whose end is still to be proposed has a timer that is due when its time is over, if not before; but for
-- the sessions of these identifiers. Where there are no timers at all, each session has to be looked at.
abbrev pub AreTimedBut : List ℕ → Option Timers → List ℕ → Office → List SessionRow → Type 0
AreTimedBut others None clocks o rows = Unit {0}
AreTimedBut others (Some timers) clocks o rows = Each (λ s. is_one_of s.id others ≡ false → is_pending o s ≡ true → HasTimer timers s.id (over_at clocks o s)) rows

abbrev pub AreTimed : Option Timers → List ℕ → Office → List SessionRow → Type 0
AreTimed timers clocks o rows = AreTimedBut [] timers clocks o rows
