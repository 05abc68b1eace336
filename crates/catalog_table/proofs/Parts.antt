-- Parts of tables.
use Rattle.std.proofs.Common.{◌≡◌, Bool, true, false, not, cond, List, [], ◌∷◌, ◌++◌, refl, sym, ◌∙◌, ap, Option, Some, None, ◌⊎◌, inl, inr, filter, ◌||◌}
use Rattle.std.specs.List.{AllByRecursion, list_any}
use Rattle.std.specs.Bool.{Decides}
use Rattle.std.specs.Cmp.{IsTotalOrder}
use Rattle.std.specs.declared.cmp.Ordering.{Ordering}
use Rattle.std.specs.Ordering.{is_eq, is_lt, is_gt}
use Rattle.std.proofs.lemmas.Map.Lookups.{CmpEqualImpliesEq}
use Rattle.std.proofs.lemmas.Bool.{true≢false, false≢true}
use Rattle.std.proofs.lemmas.List.Elements.{filter-append}
use Rattle.cat_model.specs.Tables.{row_at, put, Ascends, same_found}
use Rattle.cat_model.proofs.TableLemmas.{row_at-filter, equal_or_differs, Differs, eq_is}
use Rattle.cat_model.proofs.Elements.{sides}

-- of what passes p, the test q may be another one
pub filter_both : {R : Type 0} (p q r : R → Bool) → ((x : R) → p x ≡ true → q x ≡ r x) → (xs : List R) → filter p (filter q xs) ≡ filter r (filter p xs)
filter_both p q r h [] = refl
filter_both {R = R} p q r h (x ∷ xs) = go (p x) refl (q x) refl (r x) refl (filter_both p q r h xs)
  where
    go : (a : Bool) → p x ≡ a → (b : Bool) → q x ≡ b → (c : Bool) → r x ≡ c → filter p (filter q xs) ≡ filter r (filter p xs)
        → filter p (cond b (x ∷ filter q xs) (filter q xs)) ≡ filter r (cond a (x ∷ filter p xs) (filter p xs))
    go true e true f true g ih = ap (λ b. cond b (x ∷ filter p (filter q xs)) (filter p (filter q xs))) e ∙ ap (λ l. x ∷ l) ih ∙ ap (λ b. cond b (x ∷ filter r (filter p xs)) (filter r (filter p xs))) (sym g)
    go true e true f false g ih = absurd (true≢false (sym f ∙ h x e ∙ g))
    go true e false f true g ih = absurd (false≢true (sym f ∙ h x e ∙ g))
    go true e false f false g ih = ih ∙ ap (λ b. cond b (x ∷ filter r (filter p xs)) (filter r (filter p xs))) (sym g)
    go false e true f c g ih = ap (λ b. cond b (x ∷ filter p (filter q xs)) (filter p (filter q xs))) e ∙ ih
    go false e false f c g ih = ih

pub filter_all : {R : Type 0} (xs : List R) → filter (λ (x : R). true) xs ≡ xs
filter_all [] = refl
filter_all (x ∷ xs) = ap (λ l. x ∷ l) (filter_all xs)

-- a test that follows from the other keeps nothing out
pub filter_weaker : {R : Type 0} (p q : R → Bool) → ((x : R) → p x ≡ true → q x ≡ true) → (xs : List R) → filter p (filter q xs) ≡ filter p xs
filter_weaker p q h xs = filter_both p q (λ x. true) h xs ∙ filter_all (filter p xs)

pub filter_none : {R : Type 0} (xs : List R) → filter (λ (x : R). false) xs ≡ []
filter_none [] = refl
filter_none (x ∷ xs) = filter_none xs

-- where no element passes, none is kept
pub filter_no : {R : Type 0} (p : R → Bool) (xs : List R) → list_any p xs ≡ false → filter p xs ≡ []
filter_no p [] h = refl
filter_no {R = R} p (x ∷ xs) h = go (p x) h (filter_no p xs)
  where
    go : (b : Bool) → (b || list_any p xs) ≡ false → (list_any p xs ≡ false → filter p xs ≡ []) → cond b (x ∷ filter p xs) (filter p xs) ≡ []
    go true g ih = absurd (true≢false g)
    go false g ih = ih g

-- a test is passed among those that pass another one, or among those that fail it
pub any_parts : {R : Type 0} (p test : R → Bool) (xs : List R) → list_any test xs ≡ (list_any test (filter p xs) || list_any test (filter (λ x. not (p x)) xs))
any_parts p test [] = refl
any_parts {R = R} p test (x ∷ xs) = go (p x) (test x) refl (any_parts p test xs)
  where
    a : Bool
    a = list_any test (filter p xs)

    b : Bool
    b = list_any test (filter (λ x. not (p x)) xs)

    or_swap : (s t : Bool) → (s || true) ≡ true
    or_swap true t = refl
    or_swap false t = refl

    go : (c t : Bool) → test x ≡ t → list_any test xs ≡ (a || b)
        → (t || list_any test xs) ≡ (list_any test (cond c (x ∷ filter p xs) (filter p xs)) || list_any test (cond (not c) (x ∷ filter (λ x. not (p x)) xs) (filter (λ x. not (p x)) xs)))
    go true true e ih = ap (λ t. (t || a) || b) (sym e)
    go true false e ih = ih ∙ ap (λ t. (t || a) || b) (sym e)
    go false true e ih = sym (or_swap a true) ∙ ap (λ t. a || (t || b)) (sym e)
    go false false e ih = ih ∙ ap (λ t. a || (t || b)) (sym e)

module _ {K R : Type 0} (cmp : K → K → Ordering) (key : R → K) (total : IsTotalOrder cmp) (exact : CmpEqualImpliesEq cmp) (on : K → Bool) where
  abbrev of_key : R → Bool
  of_key r = on (key r)

  abbrev of_others : R → Bool
  of_others r = not (on (key r))

  module _ (same : R → R → Bool) (decides : (a b : R) → Decides (same a b) (a ≡ b)) where
    found_same : (a : Option R) → same_found same a a ≡ true
    found_same None = refl
    found_same (Some r) = (decides r r).1 refl

    -- two tables whose parts are equal are equal
    pub equal_by_parts : (xs ys : List R) → Ascends cmp key xs → Ascends cmp key ys → filter of_key xs ≡ filter of_key ys → filter of_others xs ≡ filter of_others ys → xs ≡ ys
    equal_by_parts xs ys ax ay here there = go (equal_or_differs cmp key total same decides (λ k. Unit {0}) xs ys ax ay (units xs) (units ys))
      where
        units : (rows : List R) → AllByRecursion (λ r. Unit {0}) rows
        units [] = tt
        units (r ∷ rows) = (tt, units rows)

        at : (k : K) → (b : Bool) → on k ≡ b → row_at cmp key k xs ≡ row_at cmp key k ys
        at k true e = sym (row_at-filter cmp key total exact on k e xs) ∙ ap (row_at cmp key k) here ∙ row_at-filter cmp key total exact on k e ys
        at k false e =
            let n : not (on k) ≡ true = ap not e in
            sym (row_at-filter cmp key total exact (λ q. not (on q)) k n xs) ∙ ap (row_at cmp key k) there ∙ row_at-filter cmp key total exact (λ q. not (on q)) k n ys

        go : (xs ≡ ys) ⊎ Differs cmp key same (λ k. Unit {0}) xs ys → xs ≡ ys
        go (inl e) = e
        go (inr d) = absurd (true≢false (sym (found_same (row_at cmp key d.at ys)) ∙ ap (λ o. same_found same o (row_at cmp key d.at ys)) (sym (at d.at (on d.at) refl)) ∙ d.differs))

  -- a row that is put changes nothing of the other part
  pub others_put : (new : R) → on (key new) ≡ true → (rows : List R) → Ascends cmp key rows → filter of_others (put cmp key new rows) ≡ filter of_others rows
  unfolding put
  others_put new here rows asc =
      filter-append of_others low (new ∷ high) ∙ ap (λ b. filter of_others low ++ cond (not b) (new ∷ filter of_others high) (filter of_others high)) here
      ∙ sym (filter-append of_others low high) ∙ ap (filter of_others) (sides cmp key total (key new) rows asc)
      ∙ filter_weaker of_others (λ r. not (is_eq (cmp (key new) (key r)))) apart rows
    where
      low : List R
      low = filter (λ r. is_lt (cmp (key r) (key new))) rows

      high : List R
      high = filter (λ r. is_gt (cmp (key r) (key new))) rows

      apart : (r : R) → not (on (key r)) ≡ true → not (is_eq (cmp (key new) (key r))) ≡ true
      apart r e = go (is_eq (cmp (key new) (key r))) refl
        where
          go : (b : Bool) → is_eq (cmp (key new) (key r)) ≡ b → not b ≡ true
          go true t = absurd (false≢true (ap not (sym (ap on (sym (exact (key new) (key r) (eq_is cmp key total _ t))) ∙ here)) ∙ e))
          go false t = refl
