-- The rows that a change of a table takes out and those that it puts in.
use Rattle.std.specs.Prelude.{◌≡◌, Bool, not, List}
use Rattle.std.specs.List.{list_any}
use Rattle.cat_model.specs.Same.{same_bool}

abbrev pub differ : Bool → Bool → Bool
differ a b = not (same_bool a b)

module _ {R : Type 0} (same : R → R → Bool) where
  -- the row is one of these
  abbrev pub has_row : List R → R → Bool
  has_row rows r = list_any (same r) rows

  -- these are the rows that are in one of the lists and not in the other
  abbrev pub Edits : List R → List R → List R → Type 0
  Edits old new edits = (r : R) → has_row edits r ≡ differ (has_row old r) (has_row new r)
