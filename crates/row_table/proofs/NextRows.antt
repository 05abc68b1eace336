-- The first row of the slots of a tree, and the first one of those from a key on.
use Rattle.std.proofs.Common.{◌≡◌, Bool, true, false, cond, List, [], ◌∷◌, ◌++◌, refl, sym, ◌∙◌, ap, subst, Option, Some, None}
use Rattle.std.specs.List.{AllByRecursion, cons_option}
use Rattle.std.specs.Cmp.{IsTotalOrder}
use Rattle.std.specs.declared.cmp.Ordering.{Ordering}
use Rattle.std.specs.declared.cmp.Ordering.TheVariants.{Less, Equal, Greater}
use Rattle.std.proofs.lemmas.Bool.{false≢true}
use Rattle.std.proofs.lemmas.Cmp.{tied_itself}
use Rattle.std.proofs.lemmas.List.Elements.{filter-append}
use Rattle.cat_model.specs.Tables.{Ascends}
use Rattle.row_table.specs.Slots.{slot_key, now_of, rows_now, InOrder}
use Rattle.row_table.specs.Walks.{first_row, or_first, belongs, rows_from, rows_left}
use Rattle.row_table.specs.declared.slot.Slot.{Slot}
use Rattle.row_table.specs.declared.walk.Start.{Start}
use Rattle.row_table.specs.declared.walk.Start.TheVariants.{At, Behind}
use Rattle.row_table.proofs.Sides.{Stand, filter_in, filter_out, low_side, high_side, below_more, below_tied, above_more, above_tied}
use Rattle.row_table.proofs.Edits.{around, cons_is, now_stand}

module _ {R : Type 0} where
  first_append : (a b : List R) → first_row (a ++ b) ≡ or_first (first_row a) (first_row b)
  first_append [] b = refl
  first_append (r ∷ a) b = refl

  first_cons : (o : Option R) (b : List R) → first_row (cons_option o b) ≡ or_first o (first_row b)
  first_cons None b = refl
  first_cons (Some r) b = refl

  pub first_around : (a : List (Slot R)) (s : Slot R) (b : List (Slot R)) → first_row (rows_now (a ++ s ∷ b)) ≡ or_first (first_row (rows_now a)) (or_first (now_of s) (first_row (rows_now b)))
  first_around a s b = ap first_row (around now_of a s b) ∙ first_append (rows_now a) (cons_option (now_of s) (rows_now b)) ∙ ap (or_first (first_row (rows_now a))) (first_cons (now_of s) (rows_now b))

belongs_below : (start : Start) → belongs start Less ≡ false
belongs_below At = refl
belongs_below Behind = refl

belongs_above : (start : Start) → belongs start Greater ≡ true
belongs_above At = refl
belongs_above Behind = refl

module _ {K R : Type 0} (cmp : K → K → Ordering) (key : R → K) (total : IsTotalOrder cmp) (start : Start) (k : K) where
  -- no row up to a slot that does not belong to the walk belongs to it
  pub from_right : (a : List (Slot R)) (s : Slot R) (b : List (Slot R)) → InOrder cmp key (a ++ s ∷ b) → belongs start (cmp (slot_key key s) k) ≡ false → rows_from start cmp key k (rows_now (a ++ s ∷ b)) ≡ rows_from start cmp key k (rows_now b)
  from_right a s b order h = go (cmp (slot_key key s) k) refl
    where
      part : (o : Ordering) → cmp (slot_key key s) k ≡ o → ((j : K) → cmp j (slot_key key s) ≡ Less → cmp j k ≡ Less) → rows_from start cmp key k (rows_now (a ++ s ∷ b)) ≡ rows_from start cmp key k (rows_now b)
      part o e on =
          let low = now_stand cmp key Less k a (low_side cmp (slot_key key) total k a s b order.ascend on) in
          let one = now_stand cmp key o k (s ∷ []) (e, tt) in
          ap (rows_from start cmp key k) (around now_of a s b) ∙ filter-append _ (rows_now a) (cons_option (now_of s) (rows_now b)) ∙ ap (λ l. l ++ rows_from start cmp key k (cons_option (now_of s) (rows_now b))) (filter_out cmp key (belongs start) Less k (belongs_below start) (rows_now a) low)
          ∙ ap (rows_from start cmp key k) (cons_is (now_of s) (rows_now b)) ∙ filter-append _ (cons_option (now_of s) []) (rows_now b) ∙ ap (λ l. l ++ rows_from start cmp key k (rows_now b)) (filter_out cmp key (belongs start) o k (ap (belongs start) (sym e) ∙ h) (cons_option (now_of s) []) one)

      go : (o : Ordering) → cmp (slot_key key s) k ≡ o → rows_from start cmp key k (rows_now (a ++ s ∷ b)) ≡ rows_from start cmp key k (rows_now b)
      go Less e = part Less e (below_more cmp (slot_key key) total k s e)
      go Equal e = part Equal e (below_tied cmp (slot_key key) total k s e)
      go Greater e = absurd (false≢true (sym h ∙ ap (belongs start) e ∙ belongs_above start))

  -- each row from a slot that belongs to the walk on belongs to it
  pub from_left : (a : List (Slot R)) (s : Slot R) (b : List (Slot R)) → InOrder cmp key (a ++ s ∷ b) → belongs start (cmp (slot_key key s) k) ≡ true → first_row (rows_from start cmp key k (rows_now (a ++ s ∷ b))) ≡ or_first (first_row (rows_from start cmp key k (rows_now a))) (or_first (now_of s) (first_row (rows_now b)))
  from_left a s b order h = ap (λ l. first_row (rows_from start cmp key k l)) (around now_of a s b) ∙ ap first_row (filter-append _ (rows_now a) (cons_option (now_of s) (rows_now b)) ∙ ap (λ l. rows_from start cmp key k (rows_now a) ++ l) (go (cmp (slot_key key s) k) refl)) ∙ first_append (rows_from start cmp key k (rows_now a)) (cons_option (now_of s) (rows_now b)) ∙ ap (or_first (first_row (rows_from start cmp key k (rows_now a)))) (first_cons (now_of s) (rows_now b))
    where
      part : (o : Ordering) → cmp (slot_key key s) k ≡ o → ((j : K) → cmp (slot_key key s) j ≡ Less → cmp j k ≡ Greater) → rows_from start cmp key k (cons_option (now_of s) (rows_now b)) ≡ cons_option (now_of s) (rows_now b)
      part o e on =
          let high = now_stand cmp key Greater k b (high_side cmp (slot_key key) total k a s b order.ascend on) in
          let one = now_stand cmp key o k (s ∷ []) (e, tt) in
          ap (rows_from start cmp key k) (cons_is (now_of s) (rows_now b)) ∙ filter-append _ (cons_option (now_of s) []) (rows_now b)
          ∙ ap (λ l. l ++ rows_from start cmp key k (rows_now b)) (filter_in cmp key (belongs start) o k (ap (belongs start) (sym e) ∙ h) (cons_option (now_of s) []) one)
          ∙ ap (λ l. cons_option (now_of s) [] ++ l) (filter_in cmp key (belongs start) Greater k (belongs_above start) (rows_now b) high) ∙ sym (cons_is (now_of s) (rows_now b))

      go : (o : Ordering) → cmp (slot_key key s) k ≡ o → rows_from start cmp key k (cons_option (now_of s) (rows_now b)) ≡ cons_option (now_of s) (rows_now b)
      go Less e = absurd (false≢true (sym (belongs_below start) ∙ ap (belongs start) (sym e) ∙ h))
      go Equal e = part Equal e (above_tied cmp (slot_key key) total k s e)
      go Greater e = part Greater e (above_more cmp (slot_key key) total k s e)

module _ {K R : Type 0} (cmp : K → K → Ordering) (key : R → K) (total : IsTotalOrder cmp) where
  -- the rows of greater keys than one belong to each walk from a key that it is not below
  greater : (k : K) (r : R) → ((j : K) → cmp (key r) j ≡ Less → cmp j k ≡ Greater) → (rows : List R) → AllByRecursion (λ q. cmp (key r) (key q) ≡ Less) rows → Stand cmp key Greater k rows
  greater k r on [] all = tt
  greater k r on (q ∷ rows) all = (on (key q) all.0, greater k r on rows all.1)

  all_from : (start : Start) (k : K) (r : R) (o : Ordering) → cmp (key r) k ≡ o → belongs start o ≡ true → (rows : List R) → AllByRecursion (λ q. cmp (key r) (key q) ≡ Less) rows → rows_from start cmp key k rows ≡ rows
  all_from start k r Less e h rows all = absurd (false≢true (sym (belongs_below start) ∙ h))
  all_from start k r Equal e h rows all = filter_in cmp key (belongs start) Greater k (belongs_above start) rows (greater k r (above_tied cmp key total k r e) rows all)
  all_from start k r Greater e h rows all = filter_in cmp key (belongs start) Greater k (belongs_above start) rows (greater k r (above_more cmp key total k r e) rows all)

  -- the rows behind the first one
  pub rest_behind : (r : R) (rows : List R) → AllByRecursion (λ q. cmp (key r) (key q) ≡ Less) rows → rows_from Behind cmp key (key r) (r ∷ rows) ≡ rows
  rest_behind r rows all =
      ap (λ o. cond (belongs Behind o) (r ∷ rows_from Behind cmp key (key r) rows) (rows_from Behind cmp key (key r) rows)) (tied_itself total (key r))
      ∙ filter_in cmp key (belongs Behind) Greater (key r) refl rows (greater (key r) r (above_tied cmp key total (key r) r (tied_itself total (key r))) rows all)

  same_some : (q r : R) → Some q ≡ Some r → q ≡ r
  same_some q r e = let same : q ≡ r = cc in same

  none_some : (r : R) → None ≡ Some r → ⊥
  none_some r f = cc

  first_found : (start : Start) (k : K) (r : R) (rows : List R) → first_row (rows_from start cmp key k rows) ≡ Some r → (P : R → Type 0) → AllByRecursion P rows → P r
  first_found start k r [] e P all = absurd (none_some r e)
  first_found start k r (q ∷ rows) e P all = go (belongs start (cmp (key q) k)) e (λ f. first_found start k r rows f P all.1)
    where
      go : (b : Bool) → first_row (cond b (q ∷ rows_from start cmp key k rows) (rows_from start cmp key k rows)) ≡ Some r → (first_row (rows_from start cmp key k rows) ≡ Some r → P r) → P r
      go true f rest = subst P (same_some q r f) all.0
      go false f rest = rest f

  -- where a row comes first, the others are those behind it
  pub first_then : (start : Start) (k : K) (r : R) (rows : List R) → Ascends cmp key rows → first_row (rows_from start cmp key k rows) ≡ Some r → rows_from start cmp key k rows ≡ r ∷ rows_from Behind cmp key (key r) rows
  first_then start k r [] asc e = absurd (none_some r e)
  first_then start k r (q ∷ rows) asc e = go (belongs start (cmp (key q) k)) refl (first_then start k r rows asc.1)
    where
      go : (b : Bool) → belongs start (cmp (key q) k) ≡ b → (first_row (rows_from start cmp key k rows) ≡ Some r → rows_from start cmp key k rows ≡ r ∷ rows_from Behind cmp key (key r) rows) → rows_from start cmp key k (q ∷ rows) ≡ r ∷ rows_from Behind cmp key (key r) (q ∷ rows)
      go false is rest =
          let skip : rows_from start cmp key k (q ∷ rows) ≡ rows_from start cmp key k rows = ap (λ b. cond b (q ∷ rows_from start cmp key k rows) (rows_from start cmp key k rows)) is in
          let f : first_row (rows_from start cmp key k rows) ≡ Some r = ap first_row (sym skip) ∙ e in
          let low : cmp (key q) (key r) ≡ Less = first_found start k r rows f (λ p. cmp (key q) (key p) ≡ Less) asc.0 in
          skip ∙ rest f ∙ ap (λ l. r ∷ l) (sym (ap (λ o. cond (belongs Behind o) (q ∷ rows_from Behind cmp key (key r) rows) (rows_from Behind cmp key (key r) rows)) low))
      go true is rest =
          let here : rows_from start cmp key k (q ∷ rows) ≡ q ∷ rows_from start cmp key k rows = ap (λ b. cond b (q ∷ rows_from start cmp key k rows) (rows_from start cmp key k rows)) is in
          let same : q ≡ r = same_some q r (ap first_row (sym here) ∙ e) in
          here ∙ ap (λ l. q ∷ l) (all_from start k q (cmp (key q) k) refl is rows asc.0 ∙ sym (rest_behind q rows asc.0)) ∙ ap (λ p. p ∷ rows_from Behind cmp key (key p) (q ∷ rows)) same

  -- the rows that are left where the next one is the first of a walk
  pub left_from : (start : Start) (k : K) (rows : List R) → Ascends cmp key rows → rows_left cmp key (first_row (rows_from start cmp key k rows)) rows ≡ rows_from start cmp key k rows
  left_from start k rows asc = go (first_row (rows_from start cmp key k rows)) refl
    where
      no_rows : (l : List R) → first_row l ≡ None → [] ≡ l
      no_rows [] e = refl
      no_rows (r ∷ l) e = absurd (none_some r (sym e))

      go : (o : Option R) → first_row (rows_from start cmp key k rows) ≡ o → rows_left cmp key o rows ≡ rows_from start cmp key k rows
      go None e = no_rows (rows_from start cmp key k rows) e
      go (Some r) e = sym (first_then start k r rows asc e)

  pub left_first : (rows : List R) → Ascends cmp key rows → rows_left cmp key (first_row rows) rows ≡ rows
  left_first [] asc = refl
  left_first (r ∷ rows) asc = ap (λ l. r ∷ l) (rest_behind r rows asc.0)
