-- A second index of a table: pairs of what a row is filed under and the row's key, by the first and then by the key.
use Rattle.std.specs.Prelude.{◌≡◌, Bool, false, List, Option, Some, None, is_some, filter, map}
use Rattle.std.specs.declared.cmp.Ordering.{Ordering}
use Rattle.std.specs.Ordering.{is_eq, ordering_then}
use Rattle.cat_model.specs.Tables.{row_at, put, without}

abbrev pub filed_key : {S K : Type 0} → S × K → S × K
filed_key pair = pair

-- whether this is the place, if there is one
abbrev pub is_place : {S : Type 0} → (S → S → Ordering) → S → Option S → Bool
is_place cmp_s s None = false
is_place cmp_s s (Some t) = is_eq (cmp_s s t)

-- what a row is filed under, if there is a row
abbrev pub place_of : {R S : Type 0} → (R → Option S) → Option R → Option S
place_of place None = None
place_of place (Some r) = place r

module _ {S K : Type 0} (cmp_s : S → S → Ordering) (cmp : K → K → Ordering) where
  abbrev pub filed_cmp : S × K → S × K → Ordering
  filed_cmp a b = ordering_then (cmp_s a.0 b.0) (cmp a.1 b.1)

  -- the pairs with one more, where there is one to file
  abbrev pub filed : Option S → K → List (S × K) → List (S × K)
  filed None k pairs = pairs
  filed (Some s) k pairs = put filed_cmp filed_key (s, k) pairs

  -- the pairs without this one
  abbrev pub unfiled : Option S → K → List (S × K) → List (S × K)
  unfiled None k pairs = pairs
  unfiled (Some s) k pairs = without (λ h. is_eq (filed_cmp (s, k) (filed_key h))) pairs

  -- the keys that are filed under this
  abbrev pub keys_under : S → List (S × K) → List K
  keys_under s pairs = map (λ h. h.1) (filter (λ h. is_eq (cmp_s s h.0)) pairs)

  module _ {R : Type 0} (key : R → K) (place : R → Option S) where
    -- a pair is there exactly where the row of its key is filed under it
    abbrev pub Files : List R → List (S × K) → Type 0
    Files rows pairs = (s : S) (k : K) → is_some (row_at filed_cmp filed_key (s, k) pairs) ≡ is_place cmp_s s (place_of place (row_at cmp key k rows))
