-- Two lists of rows side by side.
use Rattle.std.specs.Prelude.{◌≡◌, ◌+◌, ◌<◌, Bool, not, is_some, List, ◌++◌, Option, filter, map, length}
use Rattle.std.specs.declared.cmp.Ordering.{Ordering}
use Rattle.cat_model.specs.Tables.{row_at, Ascends}

module _ {K R : Type 0} (cmp : K → K → Ordering) (key : R → K) where
  -- the row with that of its key in the other list
  abbrev pub paired : List R → R → R × Option R
  paired there r = (r, row_at cmp key (key r) there)

  -- no row of the list has the key of this one
  abbrev pub is_stray : List R → R → Bool
  is_stray own r = not (is_some (row_at cmp key (key r) own))

  abbrev pub all_paired : List R → List R → List (R × Option R)
  all_paired own there = map (paired there) own

  abbrev pub strays : List R → List R → List R
  strays own there = filter (is_stray own) there

  -- A step over the first of two lists: what was found with what is left to find stays the same, and less is left.
  pub record Steps (own there own' there' : List R) (p p' : List (R × Option R)) (s s' : List R) : Type 0 where
    pub all_pairs : p' ++ all_paired own' there' ≡ p ++ all_paired own there
    pub all_strays : s' ++ strays own' there' ≡ s ++ strays own there
    pub own_order : Ascends cmp key own'
    pub there_order : Ascends cmp key there'
    pub less : length own' + length there' < length own + length there
