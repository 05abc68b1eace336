-- Rows of a table that are taken out one after another.
use Rattle.std.specs.Prelude.{List, [], ◌∷◌}
use Rattle.std.specs.declared.cmp.Ordering.{Ordering}
use Rattle.std.specs.Ordering.{is_eq}
use Rattle.cat_model.specs.Tables.{without}

-- the rows without those of these rows' keys
abbrev pub without_each : {K R : Type 0} → (K → K → Ordering) → (R → K) → List R → List R → List R
without_each cmp key [] rows = rows
without_each cmp key (r ∷ gone) rows = without_each cmp key gone (without (λ q. is_eq (cmp (key r) (key q))) rows)
