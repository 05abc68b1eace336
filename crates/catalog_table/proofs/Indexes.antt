-- What a second index tells of the rows of a table by node and ID, and what it holds after a row was put or removed.
use Rattle.std.proofs.Common.{◌≡◌, Bool, true, false, List, [], ◌∷◌, ◌++◌, refl, sym, ◌∙◌, ap, cond, subst, Option, Some, None, filter, map, ◌&&◌, ◌||◌, Result, Ok, Err}
use Rattle.std.specs.Prelude.{OnOk, OnErr}
use Rattle.std.specs.List.{filter_map, cons_option, list_any}
use Rattle.std.specs.Cmp.{IsTotalOrder}
use Rattle.std.specs.declared.cmp.Ordering.{Ordering}
use Rattle.std.specs.Ordering.{is_eq}
use Rattle.std.proofs.lemmas.Bool.{true≢false}
use Rattle.std.proofs.lemmas.Cmp.{tied_itself}
use Rattle.std.proofs.lemmas.Map.Lookups.{CmpEqualImpliesEq}
use Rattle.cat_model.specs.Keys.{pair_cmp}
use Rattle.cat_model.specs.Tables.{row_at, put, without, Ascends}
use Rattle.cat_model.proofs.Pairs.{pair_cmp_total, exact_pair}
use Rattle.row_table.specs.Filing.{filed, filed_cmp, filed_key, is_place, place_of, unfiled, Files}
use Rattle.row_table.proofs.Spans.{leading}
use Rattle.row_table.proofs.Filed.{Apart, apart_differ, files_same, files_moved, files_back, files_gone, place_is}
use Rattle.row_table.proofs.FiledUnder.{is_here, is_mine, keys_are, onward, rows_are, rows_through, walk_is}
use Rattle.catalog_table.specs.Filings.{Pair}
use Rattle.catalog_table.proofs.Ranges.{least_pair}

-- the rows of the keys that are left of a walk over a place's pairs, and of all of them
abbrev pub rows_left : {S R : Type 0} → (S → S → Ordering) → (R → Pair) → S → List R → List (S × Pair) → List R
rows_left cmp_s key s rows from = filter_map (λ h. row_at pair_cmp key h.1 rows) (leading (is_mine cmp_s s) from)

abbrev pub rows_from : {S R : Type 0} → (S → S → Ordering) → (R → Pair) → S → List R → List (S × Pair) → List R
rows_from cmp_s key s rows pairs = rows_left cmp_s key s rows (onward cmp_s pair_cmp s ([], []) pairs)

-- whether there is an element
abbrev pub is_some_row : {X : Type 0} → List X → Bool
is_some_row [] = false
is_some_row (x ∷ xs) = true

any_filter : {X : Type 0} (p : X → Bool) (xs : List X) → list_any p xs ≡ is_some_row (filter p xs)
any_filter p [] = refl
any_filter {X = X} p (x ∷ xs) = go (p x) (any_filter p xs)
  where
    go : (b : Bool) → list_any p xs ≡ is_some_row (filter p xs) → (b || list_any p xs) ≡ is_some_row (cond b (x ∷ filter p xs) (filter p xs))
    go true rest = refl
    go false rest = rest

pub any_map : {X Y : Type 0} (p : Y → Bool) (f : X → Y) (xs : List X) → list_any p (map f xs) ≡ list_any (λ x. p (f x)) xs
any_map p f [] = refl
any_map p f (x ∷ xs) = ap (λ b. p (f x) || b) (any_map p f xs)

pub any_both : {X : Type 0} (q p : X → Bool) (xs : List X) → list_any p (filter q xs) ≡ list_any (λ x. q x && p x) xs
any_both q p [] = refl
any_both {X = X} q p (x ∷ xs) = go (q x) (any_both q p xs)
  where
    go : (b : Bool) → list_any p (filter q xs) ≡ list_any (λ x. q x && p x) xs → list_any p (cond b (x ∷ filter q xs) (filter q xs)) ≡ ((b && p x) || list_any (λ x. q x && p x) xs)
    go true e = ap (λ b. p x || b) e
    go false e = e

some_map : {X Y : Type 0} (f : X → Y) (xs : List X) → is_some_row (map f xs) ≡ is_some_row xs
some_map f [] = refl
some_map f (x ∷ xs) = refl

-- whether there is one tells the first
pub first_of : {X : Type 0} (test : X → Bool) (x : X) (xs : List X) → is_some_row (leading test (x ∷ xs)) ≡ test x
first_of {X = X} test x xs = go (test x)
  where
    go : (b : Bool) → is_some_row (cond b (x ∷ leading test xs) []) ≡ b
    go true = refl
    go false = refl

-- whether one of those in front passes a test, where a walk comes to the next
pub any_leading : {X : Type 0} (mine test : X → Bool) (x : X) (from rest : List X) → from ≡ x ∷ rest → (m : Bool) → mine x ≡ m → (t : Bool) → test x ≡ t → list_any test (leading mine from) ≡ (m && (t || list_any test (leading mine rest)))
any_leading {X = X} mine test x from rest is m e t f = ap (λ l. list_any test (leading mine l)) is ∙ ap (λ b. list_any test (cond b (x ∷ leading mine rest) [])) e ∙ go m
  where
    go : (m : Bool) → list_any test (cond m (x ∷ leading mine rest) []) ≡ (m && (t || list_any test (leading mine rest)))
    go true = ap (λ b. b || list_any test (leading mine rest)) f
    go false = refl

append-one : {R : Type 0} (found : List R) (o : Option R) (rest : List R) → (found ++ cons_option o []) ++ rest ≡ found ++ cons_option o rest
append-one [] None rest = refl
append-one [] (Some r) rest = refl
append-one (r ∷ found) o rest = ap (λ l. r ∷ l) (append-one found o rest)

module _ {S R : Type 0} (cmp_s : S → S → Ordering) (key : R → Pair) (s : S) (rows : List R) where
  -- a walk comes to one of the place's pairs, or to its end
  comes : (h : S × Pair) (from : List (S × Pair)) → is_mine cmp_s s h ≡ true → rows_left cmp_s key s rows (h ∷ from) ≡ cons_option (row_at pair_cmp key h.1 rows) (rows_left cmp_s key s rows from)
  comes h from mine = ap (λ b. filter_map (λ g. row_at pair_cmp key g.1 rows) (cond b (h ∷ leading (is_mine cmp_s s) from) [])) mine

  pub ends : (h : S × Pair) (from : List (S × Pair)) → is_mine cmp_s s h ≡ false → rows_left cmp_s key s rows (h ∷ from) ≡ []
  ends h from other = ap (λ b. filter_map (λ g. row_at pair_cmp key g.1 rows) (cond b (h ∷ leading (is_mine cmp_s s) from) [])) other

  -- one more row of the walk was added
  pub row_added : (found new : List R) (h : S × Pair) (from rest : List (S × Pair)) (all : List R) → new ≡ found ++ cons_option (row_at pair_cmp key h.1 rows) [] → from ≡ h ∷ rest → is_mine cmp_s s h ≡ true → found ++ rows_left cmp_s key s rows from ≡ all → new ++ rows_left cmp_s key s rows rest ≡ all
  row_added found new h from rest all made is mine before =
      ap (λ l. l ++ rows_left cmp_s key s rows rest) made ∙ append-one found (row_at pair_cmp key h.1 rows) (rows_left cmp_s key s rows rest)
      ∙ ap (λ l. found ++ l) (sym (ap (rows_left cmp_s key s rows) is ∙ comes h rest mine)) ∙ before

-- each row is filed under its label
module _ {S R : Type 0} (cmp_s : S → S → Ordering) (total_s : IsTotalOrder cmp_s) (exact_s : CmpEqualImpliesEq cmp_s) (key : R → Pair) (label : R → S) where
  abbrev Pairs : Type 0
  Pairs = List (S × Pair)

  abbrev place : R → Option S
  place r = Some (label r)

  abbrev Fits : List R → Pairs → Type 0
  Fits = Files cmp_s pair_cmp key place

  abbrev old_at : Pair → List R → Option S
  old_at k rows = place_of place (row_at pair_cmp key k rows)

  abbrev labelled : S → R → Bool
  labelled s r = is_eq (cmp_s s (label r))

  module _ (s : S) (rows : List R) (pairs : Pairs) (asc : Ascends pair_cmp key rows) (ordered : Ascends (filed_cmp cmp_s pair_cmp) filed_key pairs) (files : Fits rows pairs) where
    pub walked : rows_from cmp_s key s rows pairs ≡ filter (labelled s) rows
    walked =
        ap (filter_map (λ h. row_at pair_cmp key h.1 rows)) (walk_is cmp_s pair_cmp total_s pair_cmp_total exact_s exact_pair s ([], []) least_pair pairs ordered)
        ∙ rows_through (λ (h : S × Pair). h.1) (λ k. row_at pair_cmp key k rows) (filter (is_mine cmp_s s) pairs)
        ∙ ap (filter_map (λ k. row_at pair_cmp key k rows)) (keys_are cmp_s pair_cmp total_s pair_cmp_total exact_s exact_pair s key place rows pairs asc ordered files)
        ∙ rows_are pair_cmp key pair_cmp_total (is_here cmp_s place s) rows asc

    -- a row has the label where the first pair from there on has it
    pub any_labelled : is_some_row (leading (is_mine cmp_s s) (onward cmp_s pair_cmp s ([], []) pairs)) ≡ list_any (labelled s) rows
    any_labelled =
        ap is_some_row (walk_is cmp_s pair_cmp total_s pair_cmp_total exact_s exact_pair s ([], []) least_pair pairs ordered) ∙ sym (some_map (λ (h : S × Pair). h.1) (filter (is_mine cmp_s s) pairs))
        ∙ ap is_some_row (keys_are cmp_s pair_cmp total_s pair_cmp_total exact_s exact_pair s key place rows pairs asc ordered files)
        ∙ some_map key (filter (labelled s) rows) ∙ sym (any_filter (labelled s) rows)

    -- some row of the label has a key that passes a test where a pair of those that stand there has it
    pub any_keyed : (test : Pair → Bool) → list_any (λ h. test h.1) (leading (is_mine cmp_s s) (onward cmp_s pair_cmp s ([], []) pairs)) ≡ list_any (λ r. labelled s r && test (key r)) rows
    any_keyed test =
        ap (list_any (λ h. test h.1)) (walk_is cmp_s pair_cmp total_s pair_cmp_total exact_s exact_pair s ([], []) least_pair pairs ordered) ∙ sym (any_map test (λ (h : S × Pair). h.1) (filter (is_mine cmp_s s) pairs))
        ∙ ap (list_any test) (keys_are cmp_s pair_cmp total_s pair_cmp_total exact_s exact_pair s key place rows pairs asc ordered files)
        ∙ any_map test key (filter (labelled s) rows) ∙ any_both (labelled s) (λ r. test (key r)) rows

  apart : (s : S) (old : Option S) → is_place cmp_s s old ≡ false → Apart cmp_s pair_cmp total_s pair_cmp_total exact_s exact_pair old (Some s)
  apart s old h = apart_differ cmp_s pair_cmp total_s pair_cmp_total exact_s exact_pair old (Some s) (λ e. true≢false (sym (ap (is_place cmp_s s) e ∙ ap is_eq (tied_itself total_s s)) ∙ h))

  -- a row was put that has the label of the old one, or another
  pub kept : (rows new : List R) (pairs : Pairs) (row : R) → Fits rows pairs → is_place cmp_s (label row) (old_at (key row) rows) ≡ true → new ≡ put pair_cmp key row rows → Fits new pairs
  kept rows new pairs row files same made =
      subst (λ l. Fits l pairs) (sym made)
      (files_same cmp_s pair_cmp total_s pair_cmp_total exact_s exact_pair key place rows pairs row files (place_is cmp_s pair_cmp total_s pair_cmp_total exact_s exact_pair (label row) (old_at (key row) rows) same))

  pub moved : (rows new : List R) (pairs after : Pairs) (row : R) → Fits rows pairs → is_place cmp_s (label row) (old_at (key row) rows) ≡ false → new ≡ put pair_cmp key row rows → after ≡ unfiled cmp_s pair_cmp (old_at (key row) rows) (key row) (filed cmp_s pair_cmp (Some (label row)) (key row) pairs) → Fits new after
  moved rows new pairs after row files other made filed =
      subst (λ l. Fits l after) (sym made)
      (subst (Fits (put pair_cmp key row rows)) (sym filed)
      (files_moved cmp_s pair_cmp total_s pair_cmp_total exact_s exact_pair key place rows pairs row (old_at (key row) rows) files refl (apart (label row) (old_at (key row) rows) other)))

  -- a row could not be put, and its pair was taken out again
  pub back : (rows new : List R) (pairs after : Pairs) (k : Pair) (s : S) → Fits rows pairs → is_place cmp_s s (old_at k rows) ≡ false → new ≡ rows → after ≡ unfiled cmp_s pair_cmp (Some s) k (filed cmp_s pair_cmp (Some s) k pairs) → Fits new after
  back rows new pairs after k s files other made filed =
      subst (λ l. Fits l after) (sym made)
      (subst (Fits rows) (sym filed)
      (files_back cmp_s pair_cmp total_s pair_cmp_total exact_s exact_pair key place rows pairs k (old_at k rows) (Some s) files refl (apart s (old_at k rows) other)))

  -- a row was removed
  pub gone : (rows new : List R) (pairs after : Pairs) (k : Pair) → Fits rows pairs → new ≡ without (λ r. is_eq (pair_cmp k (key r))) rows → after ≡ unfiled cmp_s pair_cmp (old_at k rows) k pairs → Fits new after
  gone rows new pairs after k files made filed =
      subst (λ l. Fits l after) (sym made)
      (subst (Fits (without (λ r. is_eq (pair_cmp k (key r))) rows)) (sym filed)
      (files_gone cmp_s pair_cmp total_s pair_cmp_total exact_s exact_pair key place rows pairs k (old_at k rows) files refl))

-- what holds after a call that was done and after one that was not
pub either : {A E : Type 0} (r : Result A E) (P Q G : Type 0) → OnOk r P → OnErr r Q → (P → G) → (Q → G) → G
either (Ok x) P Q G done undone f g = f done
either (Err e) P Q G done undone f g = g undone
