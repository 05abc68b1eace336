-- The place of a row among others, and rows that are in order.
use Rattle.std.proofs.Common.{◌≡◌, ◌∙◌, ◌<◌, ◌≤◌, ℕ, suc, zero, Bool, true, false, cond, List, [], ◌∷◌, ◌++◌, refl, sym, ap, Some, None, filter, length, get_or, arith}
use Rattle.std.specs.List.{AllByRecursion}
use Rattle.std.specs.List.Sorted.{IsPartitionedBy}
use Rattle.std.specs.Cmp.{IsTotalOrder}
use Rattle.std.specs.declared.cmp.Ordering.{Ordering}
use Rattle.std.specs.declared.cmp.Ordering.TheVariants.{Less, Equal, Greater}
use Rattle.std.specs.Ordering.{is_lt, is_gt, is_eq, ordering_reverse}
use Rattle.std.proofs.lemmas.Bool.{false≢true, and_parts}
use Rattle.cat_model.specs.Tables.{put, row_at, Ascends}
use Rattle.cat_model.specs.Syncs.{in_order}
use Rattle.cat_model.proofs.TableLemmas.{All-weaker, row_at-below}
use Rattle.node_rows.specs.Order.{ascends, is_before}

-- as many items pass as stand before the first that fails
pub point_is : {R : Type 0} (test : R → Bool) (rows : List R) (k : ℕ) → k ≤ length rows → ((i : ℕ) (d : R) → i < k → i < length rows → test (get_or rows i d) ≡ true) → ((i : ℕ) (d : R) → k ≤ i → i < length rows → test (get_or rows i d) ≡ false) → k ≡ length (filter test rows)
point_is test [] zero l f g = refl
point_is test [] (suc k) l f g = absurd (omega arith)
point_is test (r ∷ rows) zero l f g = point_is test rows zero (omega arith) (λ i d below within. absurd (omega arith)) (λ i d from within. g (suc i) d (omega arith) (omega arith)) ∙ ap (λ b. length (cond b (r ∷ filter test rows) (filter test rows))) (sym (g zero r (omega arith) (omega arith)))
point_is test (r ∷ rows) (suc k) l f g = ap suc (point_is test rows k (omega arith) (λ i d below within. f (suc i) d (omega arith) (omega arith)) (λ i d from within. g (suc i) d (omega arith) (omega arith))) ∙ ap (λ b. length (cond b (r ∷ filter test rows) (filter test rows))) (sym (f zero r (omega arith) (omega arith)))

lt_is : (o : Ordering) → is_lt o ≡ true → o ≡ Less
lt_is Less h = refl
lt_is Equal h = absurd (false≢true h)
lt_is Greater h = absurd (false≢true h)

module _ {K R : Type 0} (cmp : K → K → Ordering) (key : R → K) (total : IsTotalOrder cmp) where
  All-at : (P : R → Type 0) (rows : List R) (i : ℕ) (d : R) → AllByRecursion P rows → i < length rows → P (get_or rows i d)
  All-at P [] i d h l = absurd (omega arith)
  All-at P (r ∷ rows) zero d h l = h.0
  All-at P (r ∷ rows) (suc i) d h l = All-at P rows i d h.1 (omega arith)

  -- the rows of smaller keys stand first
  pub parted : (k : K) (rows : List R) → Ascends cmp key rows → IsPartitionedBy (λ r. is_lt (cmp (key r) k)) rows
  parted k [] asc i j d l w h = absurd (omega arith)
  parted k (r ∷ rows) asc zero zero d l w h = h
  parted k (r ∷ rows) asc zero (suc j) d l w h = ap is_lt (total.trans (key r) (key (get_or rows j d)) k (All-at (λ s. cmp (key r) (key s) ≡ Less) rows j d asc.0 (omega arith)) (lt_is _ h))
  parted k (r ∷ rows) asc (suc i) zero d l w h = absurd (omega arith)
  parted k (r ∷ rows) asc (suc i) (suc j) d l w h = parted k rows asc.1 i j d (omega arith) (omega arith) h

  before_all : (r : R) (rows : List R) → is_before cmp key (key r) rows ≡ true → Ascends cmp key rows → AllByRecursion (λ s. cmp (key r) (key s) ≡ Less) rows
  before_all r [] h asc = tt
  before_all r (s ∷ rows) h asc = (lt_is _ h, All-weaker (λ q. cmp (key s) (key q) ≡ Less) (λ q. cmp (key r) (key q) ≡ Less) (λ q l. total.trans (key r) (key s) (key q) (lt_is _ h) l) rows asc.0)

  -- what is told by neighbours
  pub is_ascending : (rows : List R) → ascends cmp key rows ≡ true → Ascends cmp key rows
  is_ascending [] h = tt
  is_ascending (r ∷ rows) h =
      let parts = and_parts _ _ h in
      let rest = is_ascending rows parts.1 in
      (before_all r rows parts.0 rest, rest)

  put_first : (r : R) (rows : List R) → AllByRecursion (λ s. cmp (key r) (key s) ≡ Less) rows → put cmp key r rows ≡ r ∷ rows
  unfolding put
  put_first r rows h = λ i. smaller rows h i ++ r ∷ greater rows h i
    where
      behind : (s : R) → cmp (key r) (key s) ≡ Less → cmp (key s) (key r) ≡ Greater
      behind s l = total.antisymm (key s) (key r) ∙ ap ordering_reverse l

      smaller : (ss : List R) → AllByRecursion (λ s. cmp (key r) (key s) ≡ Less) ss → filter (λ s. is_lt (cmp (key s) (key r))) ss ≡ []
      smaller [] l = refl
      smaller (s ∷ ss) l = ap (λ o. cond (is_lt o) (s ∷ filter (λ s. is_lt (cmp (key s) (key r))) ss) (filter (λ s. is_lt (cmp (key s) (key r))) ss)) (behind s l.0) ∙ smaller ss l.1

      greater : (ss : List R) → AllByRecursion (λ s. cmp (key r) (key s) ≡ Less) ss → filter (λ s. is_gt (cmp (key s) (key r))) ss ≡ ss
      greater [] l = refl
      greater (s ∷ ss) l = ap (λ o. cond (is_gt o) (s ∷ filter (λ s. is_gt (cmp (key s) (key r))) ss) (filter (λ s. is_gt (cmp (key s) (key r))) ss)) (behind s l.0) ∙ ap (λ l. s ∷ l) (greater ss l.1)

  -- rows in order are themselves in order
  pub in_order_already : (rows : List R) → Ascends cmp key rows → in_order cmp key rows ≡ rows
  in_order_already [] asc = refl
  in_order_already (r ∷ rows) asc = ap (put cmp key r) (in_order_already rows asc.1) ∙ put_first r rows asc.0

  module _ (k : K) where
    abbrev smaller_keys : List R → List R
    smaller_keys = filter (λ s. is_lt (cmp (key s) k))

    greater_is : (s : R) → cmp k (key s) ≡ Less → cmp (key s) k ≡ Greater
    greater_is s l = total.antisymm (key s) k ∙ ap ordering_reverse l

    none_smaller : (rows : List R) → AllByRecursion (λ s. cmp k (key s) ≡ Less) rows → smaller_keys rows ≡ []
    none_smaller [] h = refl
    none_smaller (s ∷ rows) h = ap (λ o. cond (is_lt o) (s ∷ smaller_keys rows) (smaller_keys rows)) (greater_is s h.0) ∙ none_smaller rows h.1

    behind_tied : (r : R) (rows : List R) → cmp (key r) k ≡ Equal → AllByRecursion (λ s. cmp (key r) (key s) ≡ Less) rows → AllByRecursion (λ s. cmp k (key s) ≡ Less) rows
    behind_tied r rows e = All-weaker (λ s. cmp (key r) (key s) ≡ Less) (λ s. cmp k (key s) ≡ Less) (λ s l. sym (total.congr (key r) k (key s) e) ∙ l) rows

    behind_greater : (r : R) (rows : List R) → cmp (key r) k ≡ Greater → AllByRecursion (λ s. cmp (key r) (key s) ≡ Less) rows → AllByRecursion (λ s. cmp k (key s) ≡ Less) rows
    behind_greater r rows e = All-weaker (λ s. cmp (key r) (key s) ≡ Less) (λ s. cmp k (key s) ≡ Less) (λ s l. total.trans k (key r) (key s) (total.antisymm k (key r) ∙ ap ordering_reverse e) l) rows

    none_then : (rows : List R) (at : ℕ) → smaller_keys rows ≡ [] → at ≡ length (smaller_keys rows) → at ≡ 0
    none_then rows at none is = is ∙ ap length none

    -- the row of the key stands where the smaller ones end
    pub found_there : (rows : List R) (at : ℕ) (r : R) → Ascends cmp key rows → at ≡ length (smaller_keys rows) → at < length rows → get_or rows at r ≡ r → cmp (key r) k ≡ Equal → row_at cmp key k rows ≡ Some r
    found_there [] at r asc is low here tie = absurd (omega arith)
    found_there (s ∷ rows) at r asc is low here tie = go (cmp (key s) k) refl at is low here (λ at' is' low' here'. found_there rows at' r asc.1 is' low' here' tie)
      where
        at_first : cmp (key s) k ≡ Equal → s ≡ r → row_at cmp key k (s ∷ rows) ≡ Some r
        at_first e same = ap (λ o. cond (is_eq o) (Some s) (row_at cmp key k rows)) (total.antisymm k (key s) ∙ ap ordering_reverse e) ∙ ap Some same

        go : (o : Ordering) → cmp (key s) k ≡ o → (at : ℕ) → at ≡ length (cond (is_lt o) (s ∷ smaller_keys rows) (smaller_keys rows)) → at < length (s ∷ rows) → get_or (s ∷ rows) at r ≡ r
            → ((at' : ℕ) → at' ≡ length (smaller_keys rows) → at' < length rows → get_or rows at' r ≡ r → row_at cmp key k rows ≡ Some r) → row_at cmp key k (s ∷ rows) ≡ Some r
        go Less e zero is low here rest = absurd (omega arith)
        go Less e (suc at) is low here rest = ap (λ o. cond (is_eq o) (Some s) (row_at cmp key k rows)) (total.antisymm k (key s) ∙ ap ordering_reverse e) ∙ rest at (omega arith) (omega arith) here
        go Equal e zero is low here rest = at_first e here
        go Equal e (suc at) is low here rest = let none : suc at ≡ 0 = none_then rows (suc at) (none_smaller rows (behind_tied s rows e asc.0)) is in absurd (omega arith)
        go Greater e zero is low here rest = let clash : Greater ≡ Equal = sym e ∙ ap (λ q. cmp (key q) k) here ∙ tie in cc
        go Greater e (suc at) is low here rest = let none : suc at ≡ 0 = none_then rows (suc at) (none_smaller rows (behind_greater s rows e asc.0)) is in absurd (omega arith)

    -- and there is none where another stands there
    pub found_none : (rows : List R) (at : ℕ) → Ascends cmp key rows → at ≡ length (smaller_keys rows) → ((r : R) → at < length rows → get_or rows at r ≡ r → cmp (key r) k ≡ Equal → ⊥) → row_at cmp key k rows ≡ None
    found_none [] at asc is other = refl
    found_none (s ∷ rows) at asc is other = go (cmp (key s) k) refl at is other (λ at' is' other'. found_none rows at' asc.1 is' other')
      where
        go : (o : Ordering) → cmp (key s) k ≡ o → (at : ℕ) → at ≡ length (cond (is_lt o) (s ∷ smaller_keys rows) (smaller_keys rows)) → ((r : R) → at < length (s ∷ rows) → get_or (s ∷ rows) at r ≡ r → cmp (key r) k ≡ Equal → ⊥)
            → ((at' : ℕ) → at' ≡ length (smaller_keys rows) → ((r : R) → at' < length rows → get_or rows at' r ≡ r → cmp (key r) k ≡ Equal → ⊥) → row_at cmp key k rows ≡ None) → row_at cmp key k (s ∷ rows) ≡ None
        go Less e zero is other rest = absurd (omega arith)
        go Less e (suc at) is other rest = ap (λ o. cond (is_eq o) (Some s) (row_at cmp key k rows)) (total.antisymm k (key s) ∙ ap ordering_reverse e) ∙ rest at (omega arith) (λ r low here tie. other r (omega arith) here tie)
        go Equal e zero is other rest = absurd (other s (omega arith) refl e)
        go Equal e (suc at) is other rest = let none : suc at ≡ 0 = none_then rows (suc at) (none_smaller rows (behind_tied s rows e asc.0)) is in absurd (omega arith)
        go Greater e at is other rest = row_at-below cmp key total k (s ∷ rows) (total.antisymm k (key s) ∙ ap ordering_reverse e, behind_greater s rows e asc.0)
