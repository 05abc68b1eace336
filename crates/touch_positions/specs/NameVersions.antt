-- The positions of names, of services or of nodes, as they are and as they stood at the last `keep`.
use Rattle.std.specs.Prelude.{◌≡◌, ℕ, false, if◌then◌else◌, List, [], ◌∷◌, Option, Some, None}
use Rattle.cat_model.specs.Keys.{same_text}

pub record NameVersions : Type 0 where
  pub now : List (List ℕ × ℕ)
  pub before : List (List ℕ × ℕ)

-- the position of a name, where it has one of its own
abbrev pub own_position : List ℕ → List (List ℕ × ℕ) → Option ℕ
own_position name [] = None
own_position name (n ∷ names) = if same_text n.0 name then Some n.1 else own_position name names

-- the other names have the positions that they had
abbrev pub OthersStay : List ℕ → List (List ℕ × ℕ) → List (List ℕ × ℕ) → Type 0
OthersStay name old new = (other : List ℕ) → same_text name other ≡ false → own_position other new ≡ own_position other old
