-- Rows in the order of their keys.
use Rattle.std.specs.Prelude.{ℕ, ◌&&◌, Bool, true, List, [], ◌∷◌, filter, length}
use Rattle.std.specs.declared.cmp.Ordering.{Ordering}
use Rattle.std.specs.Ordering.{is_lt}

module _ {K R : Type 0} (cmp : K → K → Ordering) (key : R → K) where
  -- the key is smaller than that of the first row, if there is one
  abbrev pub is_before : K → List R → Bool
  is_before k [] = true
  is_before k (r ∷ rows) = is_lt (cmp k (key r))

  -- each row has a smaller key than the next one
  abbrev pub ascends : List R → Bool
  ascends [] = true
  ascends (r ∷ rows) = is_before (key r) rows && ascends rows

  -- how many rows have a smaller key than this one
  abbrev pub rank : R → List R → ℕ
  rank new rows = length (filter (λ r. is_lt (cmp (key r) (key new))) rows)
