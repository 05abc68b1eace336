-- Rows one after another.
use Rattle.std.specs.Prelude.{Bool, List, [], ◌∷◌, Option, Some, None, filter}
use Rattle.std.specs.declared.cmp.Ordering.{Ordering}
use Rattle.std.specs.Ordering.{is_ge, is_gt}
use Rattle.row_table.specs.declared.walk.Start.{Start}
use Rattle.row_table.specs.declared.walk.Start.TheVariants.{At, Behind}

abbrev pub first_row : {R : Type 0} → List R → Option R
first_row [] = None
first_row (r ∷ rows) = Some r

abbrev pub or_first : {R : Type 0} → Option R → Option R → Option R
or_first None other = other
or_first (Some r) other = Some r

-- whether a row that stands so to the key where a walk starts belongs to it
abbrev pub belongs : Start → Ordering → Bool
belongs At o = is_ge o
belongs Behind o = is_gt o

-- the rows from a start at this key on
abbrev pub rows_from : {K R : Type 0} → Start → (K → K → Ordering) → (R → K) → K → List R → List R
rows_from start cmp key k rows = filter (λ r. belongs start (cmp (key r) k)) rows

-- the rows that are left where this one comes next
abbrev pub rows_left : {K R : Type 0} → (K → K → Ordering) → (R → K) → Option R → List R → List R
rows_left cmp key None rows = []
rows_left cmp key (Some next) rows = next ∷ rows_from Behind cmp key (key next) rows
