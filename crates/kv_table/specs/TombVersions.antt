-- The tombstones and the floor of a table, as they are and as they stood at the last `keep`.
use Rattle.std.specs.Prelude.{ℕ, List, []}

pub record TombState : Type 0 where
  pub tombs : List (List ℕ × ℕ)
  pub floor : ℕ

pub record TombVersions : Type 0 where
  pub now : TombState
  pub before : TombState

abbrev pub no_tombs : TombState
no_tombs = record { tombs = []; floor = 1 }
