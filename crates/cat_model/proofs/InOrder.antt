-- Rows that are put in order, and rows found in lists.
use Rattle.std.proofs.Common.{◌≡◌, Bool, true, false, cond, List, [], ◌∷◌, refl, sym, ◌∙◌, ap, subst, Option, Some, None, filter, find}
use Rattle.std.specs.List.{AllByRecursion}
use Rattle.std.specs.Cmp.{IsTotalOrder}
use Rattle.std.specs.declared.cmp.Ordering.{Ordering}
use Rattle.std.specs.declared.cmp.Ordering.TheVariants.{Less, Equal}
use Rattle.std.specs.Ordering.{is_eq, ordering_reverse}
use Rattle.std.proofs.lemmas.Cmp.{tied_itself}
use Rattle.std.proofs.lemmas.Map.Lookups.{CmpEqualImpliesEq}
use Rattle.std.proofs.lemmas.Bool.{false≢true}
use Rattle.cat_model.specs.Tables.{row_at, put, Ascends}
use Rattle.cat_model.specs.Syncs.{in_order}
use Rattle.cat_model.proofs.TableLemmas.{All-filter, All-append, All-weaker, Ascends-put, row_at-below, eq_is}
use Rattle.cat_model.proofs.Lookups.{row_at-put}

-- a row that passes and was found is one of those that pass
pub found_passes : {R : Type 0} (P : R → Type 0) (test passes : R → Bool) (rows : List R) → AllByRecursion P (filter passes rows) → (r : R) → find test rows ≡ Some r → passes r ≡ true → P r
found_passes {R = R} P test passes [] h r e t = let clash : None ≡ Some r = e in cc
found_passes {R = R} P test passes (x ∷ rows) h r e t = go (test x) e (passes x) refl h (λ g e'. found_passes P test passes rows g r e' t)
  where
    go : (b : Bool) → cond b (Some x) (find test rows) ≡ Some r → (p : Bool) → passes x ≡ p → AllByRecursion P (cond p (x ∷ filter passes rows) (filter passes rows)) → (AllByRecursion P (filter passes rows) → find test rows ≡ Some r → P r) → P r
    go true e' p is g rest = let same : x ≡ r = cc in subst P same (first p is g same)
      where
        first : (p : Bool) → passes x ≡ p → AllByRecursion P (cond p (x ∷ filter passes rows) (filter passes rows)) → x ≡ r → P x
        first true is g same = g.0
        first false is g same = absurd (false≢true (sym is ∙ ap passes same ∙ t))
    go false e' true is g rest = rest g.1 e'
    go false e' false is g rest = rest g e'

pub found_in : {R : Type 0} (P : R → Type 0) (test : R → Bool) (rows : List R) → AllByRecursion P rows → (r : R) → find test rows ≡ Some r → P r
found_in {R = R} P test [] h r e = let clash : None ≡ Some r = e in cc
found_in {R = R} P test (x ∷ rows) h r e = go (test x) e (λ e'. found_in P test rows h.1 r e')
  where
    go : (b : Bool) → cond b (Some x) (find test rows) ≡ Some r → (find test rows ≡ Some r → P r) → P r
    go true e' rest = let same : x ≡ r = cc in subst P same h.0
    go false e' rest = rest e'

-- what is found passes the test
pub found_by : {R : Type 0} (test : R → Bool) (rows : List R) (r : R) → find test rows ≡ Some r → test r ≡ true
found_by {R = R} test [] r e = let clash : None ≡ Some r = e in cc
found_by {R = R} test (x ∷ rows) r e = go (test x) refl e (λ e'. found_by test rows r e')
  where
    go : (b : Bool) → test x ≡ b → cond b (Some x) (find test rows) ≡ Some r → (find test rows ≡ Some r → test r ≡ true) → test r ≡ true
    go true is e' rest = let same : x ≡ r = cc in subst (λ y. test y ≡ true) same is
    go false is e' rest = rest e'

-- a row that passes, if it does
abbrev pub row_where : {R : Type 0} → (R → Bool) → Option R → Option R
row_where test None = None
row_where test (Some r) = cond (test r) (Some r) None

module _ {K R : Type 0} (cmp : K → K → Ordering) (key : R → K) (total : IsTotalOrder cmp) (exact : CmpEqualImpliesEq cmp) where
  -- the row of a key has that key
  pub key_of_found : (k : K) (rows : List R) (r : R) → row_at cmp key k rows ≡ Some r → k ≡ key r
  key_of_found k rows r e = exact k (key r) (eq_is cmp key total _ (found_by (λ s. is_eq (cmp k (key s))) rows r e))

  -- of a table, the rows that pass: the row of a key, if it passes
  pub row_at-where : (test : R → Bool) (k : K) (rows : List R) → Ascends cmp key rows → row_at cmp key k (filter test rows) ≡ row_where test (row_at cmp key k rows)
  row_at-where test k [] asc = refl
  row_at-where test k (r ∷ rows) asc = go (is_eq (cmp k (key r))) refl (test r) refl (row_at-where test k rows asc.1)
    where
      go : (e : Bool) → is_eq (cmp k (key r)) ≡ e → (t : Bool) → test r ≡ t → row_at cmp key k (filter test rows) ≡ row_where test (row_at cmp key k rows)
          → row_at cmp key k (cond t (r ∷ filter test rows) (filter test rows)) ≡ row_where test (cond e (Some r) (row_at cmp key k rows))
      go true same true t rest = ap (λ b. cond b (Some r) (row_at cmp key k (filter test rows))) same ∙ ap (λ b. cond b (Some r) None) (sym t)
      go true same false t rest =
          let here : cmp k (key r) ≡ Equal = eq_is cmp key total _ same in
          let none : row_at cmp key k rows ≡ None = row_at-below cmp key total k rows (All-weaker (λ s. cmp (key r) (key s) ≡ Less) (λ s. cmp k (key s) ≡ Less) (λ s l. total.congr k (key r) (key s) here ∙ l) rows asc.0) in
          rest ∙ ap (row_where test) none ∙ ap (λ b. cond b (Some r) None) (sym t)
      go false same true t rest = ap (λ b. cond b (Some r) (row_at cmp key k (filter test rows))) same ∙ rest
      go false same false t rest = rest

  pub in_order_ascends : (rows : List R) → Ascends cmp key (in_order cmp key rows)
  in_order_ascends [] = tt
  in_order_ascends (r ∷ rows) = Ascends-put cmp key total r (in_order cmp key rows) (in_order_ascends rows)

  -- the order of rows changes no row of a key
  pub row_at-in_order : (k : K) (rows : List R) → row_at cmp key k (in_order cmp key rows) ≡ row_at cmp key k rows
  row_at-in_order k [] = refl
  row_at-in_order k (r ∷ rows) = row_at-put cmp key total exact k r (in_order cmp key rows) ∙ ap (cond (is_eq (cmp k (key r))) (Some r)) (row_at-in_order k rows)

  pub All-put : (P : R → Type 0) (r : R) (rows : List R) → P r → AllByRecursion P rows → AllByRecursion P (put cmp key r rows)
  unfolding put
  All-put P r rows p h = All-append P _ (r ∷ _) (All-filter P _ rows h) (p, All-filter P _ rows h)

  pub All-in_order : (P : R → Type 0) (rows : List R) → AllByRecursion P rows → AllByRecursion P (in_order cmp key rows)
  All-in_order P [] h = tt
  All-in_order P (r ∷ rows) h = All-put P r (in_order cmp key rows) h.0 (All-in_order P rows h.1)

  -- each row of a table is the row of its key
  pub own_rows : (rows : List R) → Ascends cmp key rows → AllByRecursion (λ r. row_at cmp key (key r) rows ≡ Some r) rows
  own_rows [] asc = tt
  own_rows (x ∷ rows) asc = (ap (λ o. cond (is_eq o) (Some x) (row_at cmp key (key x) rows)) (tied_itself total (key x)), both rows asc.0 (own_rows rows asc.1))
    where
      both : (ys : List R) → AllByRecursion (λ s. cmp (key x) (key s) ≡ Less) ys → AllByRecursion (λ r. row_at cmp key (key r) rows ≡ Some r) ys → AllByRecursion (λ r. row_at cmp key (key r) (x ∷ rows) ≡ Some r) ys
      both [] l h = tt
      both (y ∷ ys) l h = (ap (λ o. cond (is_eq o) (Some x) (row_at cmp key (key y) rows)) (total.antisymm (key y) (key x) ∙ ap ordering_reverse l.0) ∙ h.0, both ys l.1 h.1)

  -- and so it is of the list that was put in order
  pub own_in_order : (rows : List R) → AllByRecursion (λ r. row_at cmp key (key r) rows ≡ Some r) (in_order cmp key rows)
  own_in_order rows = All-weaker _ _ (λ r e. sym (row_at-in_order (key r) rows) ∙ e) (in_order cmp key rows) (own_rows (in_order cmp key rows) (in_order_ascends rows))
