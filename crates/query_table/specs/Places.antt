-- What the prepared queries are filed under: their names, and the sessions that they are bound to.
use Rattle.std.specs.Prelude.{ℕ, List, Option, Some}
use Rattle.std.specs.Ordering.{nat_cmp}
use Rattle.cat_model.specs.Keys.{text_cmp}
use Rattle.cat_model.specs.Catalog.{query_key}
use Rattle.cat_model.specs.declared.row.QueryRow.{QueryRow}
use Rattle.row_table.specs.Filing.{Files}

abbrev pub name_of : QueryRow → Option (List ℕ)
name_of r = Some r.name

abbrev pub session_of : QueryRow → Option ℕ
session_of r = r.session

abbrev pub FilesNames : List QueryRow → List (List ℕ × ℕ) → Type 0
FilesNames = Files text_cmp nat_cmp query_key name_of

abbrev pub FilesSessions : List QueryRow → List (ℕ × ℕ) → Type 0
FilesSessions = Files nat_cmp nat_cmp query_key session_of
