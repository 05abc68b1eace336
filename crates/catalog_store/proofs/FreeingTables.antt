-- Tables of which each key has the same row are equal, and rows that a function makes of other rows.
use Rattle.std.proofs.Common.{◌≡◌, ℕ, ◌<◌, Bool, true, false, cond, List, [], ◌∷◌, refl, sym, ◌∙◌, ap, Option, Some, None, length, get_or, take, zero, suc, arith}
use Rattle.std.specs.List.{AllByRecursion, filter_map, cons_option}
use Rattle.std.specs.Cmp.{IsTotalOrder}
use Rattle.std.specs.declared.cmp.Ordering.{Ordering}
use Rattle.std.specs.declared.cmp.Ordering.TheVariants.{Less, Equal, Greater}
use Rattle.std.specs.Ordering.{is_eq, ordering_reverse}
use Rattle.std.proofs.lemmas.Cmp.{tied_itself, alike_right}
use Rattle.cat_model.specs.Tables.{row_at, Ascends}
use Rattle.cat_model.proofs.TableLemmas.{All-weaker, row_at-below, row_at-first, eq_is}
use Rattle.cat_model.proofs.Elements.{All-at}

-- the row, or else the other
abbrev pub or_row : {R : Type 0} → Option R → Option R → Option R
or_row None other = other
or_row (Some r) other = Some r

module _ {K R : Type 0} (cmp : K → K → Ordering) (key : R → K) (total : IsTotalOrder cmp) where
  -- a key tied to one below all rows has none
  none_tied : (k j : K) (rows : List R) → cmp k j ≡ Equal → AllByRecursion (λ s. cmp j (key s) ≡ Less) rows → row_at cmp key k rows ≡ None
  none_tied k j rows tie h = row_at-below cmp key total k rows (All-weaker (λ s. cmp j (key s) ≡ Less) (λ s. cmp k (key s) ≡ Less) (λ s l. total.congr k j (key s) tie ∙ l) rows h)

  -- a key below the first row has none
  none_before : (k : K) (r : R) (rows : List R) → cmp k (key r) ≡ Less → AllByRecursion (λ s. cmp (key r) (key s) ≡ Less) rows → row_at cmp key k (r ∷ rows) ≡ None
  none_before k r rows l h = row_at-below cmp key total k (r ∷ rows) (l, All-weaker (λ s. cmp (key r) (key s) ≡ Less) (λ s. cmp k (key s) ≡ Less) (λ s e. total.trans k (key r) (key s) l e) rows h)

  first : (r : R) (rows : List R) → row_at cmp key (key r) (r ∷ rows) ≡ Some r
  first r rows = row_at-first cmp key total (key r) r rows (tied_itself total (key r))

  pub same_table : (xs ys : List R) → Ascends cmp key xs → Ascends cmp key ys → ((q : K) → row_at cmp key q xs ≡ row_at cmp key q ys) → xs ≡ ys
  same_table [] [] ax ay h = refl
  same_table [] (y ∷ ys) ax ay h = let clash : None ≡ Some y = h (key y) ∙ first y ys in cc
  same_table (x ∷ xs) [] ax ay h = let clash : Some x ≡ None = sym (first x xs) ∙ h (key x) in cc
  same_table (x ∷ xs) (y ∷ ys) ax ay h = go (cmp (key x) (key y)) refl (same_table xs ys ax.1 ay.1)
    where
      tail : cmp (key x) (key y) ≡ Equal → (q : K) (b : Bool) → is_eq (cmp q (key x)) ≡ b → row_at cmp key q xs ≡ row_at cmp key q ys
      tail tie q true e =
          let here : cmp q (key x) ≡ Equal = eq_is cmp key total _ e in
          none_tied q (key x) xs here ax.0 ∙ sym (none_tied q (key y) ys (total.congr q (key x) (key y) here ∙ tie) ay.0)
      tail tie q false e =
          let other : is_eq (cmp q (key y)) ≡ false = ap is_eq (sym (alike_right total (key x) (key y) q tie)) ∙ e in
          sym (ap (λ b. cond b (Some x) (row_at cmp key q xs)) e) ∙ h q ∙ ap (λ b. cond b (Some y) (row_at cmp key q ys)) other

      go : (o : Ordering) → cmp (key x) (key y) ≡ o → (((q : K) → row_at cmp key q xs ≡ row_at cmp key q ys) → xs ≡ ys) → x ∷ xs ≡ y ∷ ys
      go Less o rest = let clash : Some x ≡ None = sym (first x xs) ∙ h (key x) ∙ none_before (key x) y ys o ay.0 in cc
      go Greater o rest =
          let back : cmp (key y) (key x) ≡ Less = total.antisymm (key y) (key x) ∙ ap ordering_reverse o in
          let clash : None ≡ Some y = sym (none_before (key y) x xs back ax.0) ∙ h (key y) ∙ first y ys in
          cc
      go Equal o rest =
          let heads : Some x ≡ Some y = sym (first x xs) ∙ h (key x) ∙ row_at-first cmp key total (key x) y ys o in
          let tails : xs ≡ ys = rest (λ q. tail o q (is_eq (cmp q (key x))) refl) in
          cc

  -- no row in front of one has its key
  pub none_in_front : (rows : List R) (n : ℕ) (d : R) → n < length rows → Ascends cmp key rows → row_at cmp key (key (get_or rows n d)) (take n rows) ≡ None
  none_in_front [] n d low asc = absurd (omega arith)
  none_in_front (r ∷ rows) zero d low asc = refl
  none_in_front (r ∷ rows) (suc n) d low asc =
      let less : cmp (key r) (key (get_or rows n d)) ≡ Less = All-at (λ s. cmp (key r) (key s) ≡ Less) rows n d (omega arith) asc.0 in
      ap (λ o. cond (is_eq o) (Some r) (row_at cmp key (key (get_or rows n d)) (take n rows))) (total.antisymm (key (get_or rows n d)) (key r) ∙ ap ordering_reverse less) ∙ none_in_front rows n d (omega arith) asc.1

module _ {K S R : Type 0} (cmp : K → K → Ordering) (slot_key : S → K) (key : R → K) (total : IsTotalOrder cmp) (f : S → Option R) (keeps : (s : S) (r : R) → f s ≡ Some r → key r ≡ slot_key s) where
  abbrev pub made_of : Option S → Option R
  made_of None = None
  made_of (Some s) = f s

  -- where the function keeps keys, the row of a key is what it makes of the row of that key
  pub row_at-made : (k : K) (rows : List S) → Ascends cmp slot_key rows → row_at cmp key k (filter_map f rows) ≡ made_of (row_at cmp slot_key k rows)
  row_at-made k [] asc = refl
  row_at-made k (s ∷ rows) asc = go (is_eq (cmp k (slot_key s))) refl (f s) refl (row_at-made k rows asc.1)
    where
      go : (e : Bool) → is_eq (cmp k (slot_key s)) ≡ e → (o : Option R) → f s ≡ o → row_at cmp key k (filter_map f rows) ≡ made_of (row_at cmp slot_key k rows)
          → row_at cmp key k (cons_option o (filter_map f rows)) ≡ made_of (cond e (Some s) (row_at cmp slot_key k rows))
      go true same None made rest = rest ∙ ap made_of (none_tied cmp slot_key total k (slot_key s) rows (eq_is cmp slot_key total _ same) asc.0) ∙ sym made
      go true same (Some r) made rest = ap (λ q. cond (is_eq (cmp k q)) (Some r) (row_at cmp key k (filter_map f rows))) (keeps s r made) ∙ ap (λ b. cond b (Some r) (row_at cmp key k (filter_map f rows))) same ∙ sym made
      go false same None made rest = rest
      go false same (Some r) made rest = ap (λ q. cond (is_eq (cmp k q)) (Some r) (row_at cmp key k (filter_map f rows))) (keeps s r made) ∙ ap (λ b. cond b (Some r) (row_at cmp key k (filter_map f rows))) same ∙ rest
