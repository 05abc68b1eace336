-- What a table of prepared queries holds, as it is and as it stood at the last `keep`.
use Rattle.std.specs.Prelude.{ℕ, Bool, List, Some}
use Rattle.cat_model.specs.Keys.{same_text, same_option}
use Rattle.cat_model.specs.declared.row.QueryRow.{QueryRow}

-- the rows in the order of their identifiers
pub record QueryVersions : Type 0 where
  pub now : List QueryRow
  pub before : List QueryRow

abbrev pub is_named : List ℕ → QueryRow → Bool
is_named name r = same_text r.name name

abbrev pub is_bound_to : ℕ → QueryRow → Bool
is_bound_to id r = same_option r.session (Some id)
