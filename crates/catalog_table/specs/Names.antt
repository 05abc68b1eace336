-- The names of services.
use Rattle.std.specs.Prelude.{◌≡◌, ℕ, Bool, ◌||◌, List, map}
use Rattle.std.specs.List.{list_any}
use Rattle.cat_model.specs.Keys.{same_text}
use Rattle.catalog_table.specs.declared.once.Name.{Name}

abbrev pub is_among : List (List ℕ) → List ℕ → Bool
is_among names name = list_any (same_text name) names

-- a name as a row of a table of names
abbrev pub text_of : Name → List ℕ
text_of n = n.text

-- the new table has the names of the old one, and these
abbrev pub AreNoted : List (List ℕ) → List Name → List Name → Type 0
AreNoted names old new = (name : List ℕ) → is_among (map text_of new) name ≡ (is_among (map text_of old) name || is_among names name)
