-- Rows of a table that a sort brings into its order again.
use Rattle.std.proofs.Common.{◌≡◌, zero, suc, ◌+◌, Bool, true, false, List, [], ◌∷◌, ◌++◌, refl, sym, ◌∙◌, ap, subst, get_or, arith, ◌⊎◌, inl, inr, filter, ◌||◌, cond}
use Rattle.std.specs.List.{AllByRecursion, Contains, IsDistinct}
use Rattle.std.specs.List.Sorted.{IsPermutation, IsSortedBy, IsStrictlySortedBy}
use Rattle.std.specs.Cmp.{IsTotalOrder}
use Rattle.std.specs.declared.cmp.Ordering.{Ordering}
use Rattle.std.specs.declared.cmp.Ordering.TheVariants.{Less, Equal, Greater}
use Rattle.std.specs.Ordering.{is_eq, is_lt, ordering_reverse, eq_by_cmp}
use Rattle.std.proofs.lemmas.Bool.{true≢false, false≢true}
use Rattle.std.proofs.lemmas.Cmp.{tied_itself, on_total}
use Rattle.std.proofs.lemmas.List.Sorted.{IsPermutation-refl, IsPermutation-sym, IsPermutation-trans, IsPermutation-cons, IsPermutation-middle, Contains-permutation}
use Rattle.std.proofs.lemmas.Map.Keys.{sorted_from_all_adjacent, IsDistinct-from_sorted, IsDistinct-IsPermutation, apart_from_distinct}
use Rattle.cat_model.specs.Tables.{Ascends}

-- the row is one of these
abbrev pub Has : {R : Type 0} → R → List R → Type 0
Has r [] = ⊥
Has r (q ∷ rows) = (r ≡ q) ⊎ Has r rows

has_from : {R : Type 0} (r : R) (rows : List R) → Contains rows r → Has r rows
has_from r [] (k, low, is) = absurd (omega arith)
has_from r (q ∷ rows) (zero, low, is) = inl (sym is)
has_from r (q ∷ rows) (suc k, low, is) = inr (has_from r rows (k, omega (arith, low), is))

has_at : {R : Type 0} (r : R) (rows : List R) → Has r rows → Contains rows r
has_at r [] h = absurd h
has_at r (q ∷ rows) (inl e) = (zero, omega arith, sym e)
has_at r (q ∷ rows) (inr h) = let at = has_at r rows h in (suc at.0, omega (arith, at.1), at.2)

pub has_moved : {R : Type 0} (r : R) (xs ys : List R) → IsPermutation xs ys → Has r xs → Has r ys
has_moved r xs ys moved h = has_from r ys (Contains-permutation xs ys r moved (has_at r xs h))

module _ {K R : Type 0} (cmp : K → K → Ordering) (key : R → K) (total : IsTotalOrder cmp) where
  abbrev Above : R → List R → Type 0
  Above r rows = AllByRecursion (λ s. cmp (key r) (key s) ≡ Less) rows

  below : (r q : R) (rows : List R) → Above q rows → Has r rows → cmp (key q) (key r) ≡ Less
  below r q [] all h = absurd h
  below r q (s ∷ rows) all (inl e) = ap (λ t. cmp (key q) (key t)) e ∙ all.0
  below r q (s ∷ rows) all (inr h) = below r q rows all.1 h

  not_below : (r : R) → cmp (key r) (key r) ≡ Less → ⊥
  not_below r l = let clash : Equal ≡ Less = sym (tied_itself total (key r)) ∙ l in cc

  -- lists in order with the same rows are the same
  pub same_rows : (us vs : List R) → Ascends cmp key us → Ascends cmp key vs → ((r : R) → Has r us → Has r vs) → ((r : R) → Has r vs → Has r us) → us ≡ vs
  same_rows [] [] au av to from = refl
  same_rows [] (v ∷ vs) au av to from = absurd (from v (inl refl))
  same_rows (u ∷ us) [] au av to from = absurd (to u (inl refl))
  same_rows (u ∷ us) (v ∷ vs) au av to from = λ i. heads i ∷ same_rows us vs au.1 av.1 rest back i
    where
      first : Has u (v ∷ vs) → Has v (u ∷ us) → u ≡ v
      first (inl e) g = e
      first (inr h) (inl e) = sym e
      first (inr h) (inr g) = absurd (not_below u (total.trans (key u) (key v) (key u) (below v u us au.0 g) (below u v vs av.0 h)))

      heads : u ≡ v
      heads = first (to u (inl refl)) (from v (inl refl))

      rest : (r : R) → Has r us → Has r vs
      rest r h = go (to r (inr h))
        where
          go : Has r (v ∷ vs) → Has r vs
          go (inl e) = absurd (not_below u (below u u us au.0 (subst (λ x. Has x us) (e ∙ sym heads) h)))
          go (inr g) = g

      back : (r : R) → Has r vs → Has r us
      back r h = go (from r (inr h))
        where
          go : Has r (u ∷ us) → Has r us
          go (inl e) = absurd (not_below v (below v v vs av.0 (subst (λ x. Has x vs) (e ∙ heads) h)))
          go (inr g) = g

  abbrev pub before : R → R → Bool
  before a b = is_lt (cmp (key a) (key b))

  strictly : (rows : List R) → Ascends cmp key rows → IsStrictlySortedBy (λ a b. cmp (key a) (key b)) rows
  unfolding IsStrictlySortedBy
  strictly [] asc = tt
  strictly (r ∷ rows) asc = (asc.0, strictly rows asc.1)

  ascending : (rows : List R) → IsStrictlySortedBy (λ a b. cmp (key a) (key b)) rows → Ascends cmp key rows
  unfolding IsStrictlySortedBy
  ascending [] asc = tt
  ascending (r ∷ rows) asc = (asc.0, ascending rows asc.1)

  order : IsTotalOrder (λ a b. cmp (key a) (key b))
  order = on_total key total

  tied_back : (a b : R) → eq_by_cmp (λ x y. cmp (key x) (key y)) a b ≡ eq_by_cmp (λ x y. cmp (key x) (key y)) b a
  tied_back a b = ap is_eq (total.antisymm (key a) (key b)) ∙ turned (cmp (key b) (key a))
    where
      turned : (o : Ordering) → is_eq (ordering_reverse o) ≡ is_eq o
      turned Less = refl
      turned Equal = refl
      turned Greater = refl

  lower : (a b : R) → before b a ≡ false → is_eq (cmp (key a) (key b)) ≡ false → cmp (key a) (key b) ≡ Less
  lower a b high apart = go (cmp (key a) (key b)) refl
    where
      go : (o : Ordering) → cmp (key a) (key b) ≡ o → o ≡ Less
      go Less e = refl
      go Equal e = absurd (true≢false (sym (ap is_eq e) ∙ apart))
      go Greater e = absurd (true≢false (sym (ap is_lt (total.antisymm (key b) (key a) ∙ ap ordering_reverse e)) ∙ high))

  -- rows of different keys that are sorted are in order
  pub sorted_ascends : (rows : List R) → IsSortedBy before rows → IsDistinct (eq_by_cmp (λ a b. cmp (key a) (key b))) rows → Ascends cmp key rows
  sorted_ascends [] sorted apart = tt
  sorted_ascends (r ∷ rows) sorted apart =
      ascending (r ∷ rows)
      (sorted_from_all_adjacent order (r ∷ rows) r
      (λ k low. lower (get_or (r ∷ rows) k r) (get_or (r ∷ rows) (k + 1) r) (sorted k r (omega arith) low) (apart_from_distinct (eq_by_cmp (λ a b. cmp (key a) (key b))) (r ∷ rows) k (k + 1) r apart (omega arith) low)))

  -- what a sort makes of some rows of a table is these in its order
  pub sorted_is : (xs ys vs : List R) → IsPermutation xs ys → IsSortedBy before ys → IsPermutation xs vs → Ascends cmp key vs → ys ≡ vs
  sorted_is xs ys vs moved sorted those asc =
      same_rows ys vs (sorted_ascends ys sorted (IsDistinct-IsPermutation (eq_by_cmp (λ a b. cmp (key a) (key b))) tied_back vs ys across (IsDistinct-from_sorted (λ a b. cmp (key a) (key b)) vs (strictly vs asc)))) asc
      (λ r h. has_moved r ys vs (IsPermutation-sym vs ys across) h) (λ r h. has_moved r vs ys across h)
    where
      across : IsPermutation vs ys
      across = IsPermutation-trans vs xs ys (IsPermutation-sym xs vs those) moved

-- the rows that pass one of two tests that exclude each other
pub either_moved : {R : Type 0} (p q : R → Bool) → ((r : R) → p r ≡ true → q r ≡ false) → (rows : List R) → IsPermutation (filter p rows ++ filter q rows) (filter (λ r. p r || q r) rows)
either_moved p q other [] = IsPermutation-refl []
either_moved {R = R} p q other (r ∷ rows) = go (p r) refl (q r) refl (either_moved p q other rows)
  where
    ps : List R
    ps = filter p rows

    qs : List R
    qs = filter q rows

    both : List R
    both = filter (λ s. p s || q s) rows

    go : (a : Bool) → p r ≡ a → (b : Bool) → q r ≡ b → IsPermutation (ps ++ qs) both → IsPermutation (cond a (r ∷ ps) ps ++ cond b (r ∷ qs) qs) (cond (a || b) (r ∷ both) both)
    go true e true f rest = absurd (false≢true (sym (other r e) ∙ f))
    go true e false f rest = IsPermutation-cons r (ps ++ qs) both rest
    go false e true f rest = IsPermutation-trans (ps ++ r ∷ qs) (r ∷ (ps ++ qs)) (r ∷ both) (IsPermutation-middle ps r qs) (IsPermutation-cons r (ps ++ qs) both rest)
    go false e false f rest = rest
