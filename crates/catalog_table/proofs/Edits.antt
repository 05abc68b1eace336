-- Which rows go and come where a table changes, and what that tells of a part of it.
use Rattle.std.proofs.Common.{◌≡◌, Bool, true, false, not, cond, List, [], ◌∷◌, ◌++◌, refl, sym, ◌∙◌, ap, Option, Some, None, ◌⊎◌, inl, inr, filter, ◌&&◌, ◌||◌}
use Rattle.std.specs.List.{AllByRecursion, list_any}
use Rattle.std.specs.Bool.{Decides}
use Rattle.std.specs.Cmp.{IsTotalOrder}
use Rattle.std.specs.Cmp.Lexicographic.{pointwise, pointwise_decides}
use Rattle.std.specs.declared.cmp.Ordering.{Ordering}
use Rattle.std.specs.declared.cmp.Ordering.TheVariants.{Less}
use Rattle.std.specs.Ordering.{is_eq}
use Rattle.std.proofs.lemmas.Bool.{true≢false, false≢true}
use Rattle.std.proofs.lemmas.Cmp.{tied_itself}
use Rattle.std.proofs.lemmas.List.Folds.{list_any-append}
use Rattle.std.proofs.lemmas.Map.Lookups.{CmpEqualImpliesEq}
use Rattle.std.proofs.lemmas.Map.Views.{any-filter_same}
use Rattle.cat_model.specs.Keys.{is_empty}
use Rattle.cat_model.specs.Tables.{row_at, put, without, Ascends, same_found}
use Rattle.cat_model.proofs.TableLemmas.{All-weaker, Ascends-put, eq_is, equal_or_differs, row_at-below, Differs}
use Rattle.cat_model.proofs.Lookups.{row_at-put}
use Rattle.cat_model.proofs.InOrder.{key_of_found}
use Rattle.catalog_table.specs.Edits.{differ, has_row, Edits}

differ_itself : (a : Bool) → differ a a ≡ false
differ_itself true = refl
differ_itself false = refl

differ_is : (a b : Bool) → differ a b ≡ false → a ≡ b
differ_is true true h = refl
differ_is false false h = refl
differ_is true false h = absurd (true≢false h)
differ_is false true h = absurd (true≢false h)

pub or_right : (a : Bool) {b : Bool} → b ≡ true → (a || b) ≡ true
or_right true h = refl
or_right false h = h

module _ {R : Type 0} (same : R → R → Bool) (decides : (a b : R) → Decides (same a b) (a ≡ b)) where
  pub same_itself : (r : R) → same r r ≡ true
  same_itself r = (decides r r).1 refl

  -- a row that passes a test, in a list some row of which does
  pub record Found (p : R → Bool) (rows : List R) : Type 0 where
    pub row : R
    pub there : has_row same rows row ≡ true
    pub passes : p row ≡ true

  pub found : (p : R → Bool) (rows : List R) → list_any p rows ≡ true → Found p rows
  found p [] h = absurd (false≢true h)
  found p (x ∷ rows) h = go (p x) refl h (found p rows)
    where
      go : (b : Bool) → p x ≡ b → (b || list_any p rows) ≡ true → (list_any p rows ≡ true → Found p rows) → Found p (x ∷ rows)
      go true e g rest = record { row = x; there = ap (λ b. b || has_row same rows x) (same_itself x); passes = e }
      go false e g rest = let f : Found p rows = rest g in record { row = f.row; there = or_right (same f.row x) f.there; passes = f.passes }

  pub any_row : (p : R → Bool) (rows : List R) (r : R) → has_row same rows r ≡ true → p r ≡ true → list_any p rows ≡ true
  any_row p [] r h e = absurd (false≢true h)
  any_row p (x ∷ rows) r h e = go (same r x) refl h (λ g. any_row p rows r g e)
    where
      go : (b : Bool) → same r x ≡ b → (b || has_row same rows r) ≡ true → (has_row same rows r ≡ true → list_any p rows ≡ true) → (p x || list_any p rows) ≡ true
      go true s g rest = ap (λ b. b || list_any p rows) (ap p (sym ((decides r x).0 s)) ∙ e)
      go false s g rest = or_right (p x) (rest g)

  pub has_filter : (p : R → Bool) (rows : List R) (r : R) → has_row same (filter p rows) r ≡ (p r && has_row same rows r)
  has_filter p rows r = any-filter_same (same r) p (p r) (λ k e. ap p (sym ((decides r k).0 e))) rows

  pub has_passing : (p : R → Bool) (rows : List R) (r : R) → p r ≡ true → has_row same (filter p rows) r ≡ has_row same rows r
  has_passing p rows r e = has_filter p rows r ∙ ap (λ b. b && has_row same rows r) e

  -- nothing goes and comes
  pub edits_none : (rows : List R) → Edits same rows rows []
  edits_none rows r = sym (differ_itself (has_row same rows r))

  -- rows that pass a test go
  pub edits_without : (test : R → Bool) (rows : List R) → Edits same rows (without test rows) (filter test rows)
  edits_without test rows r = has_filter test rows r ∙ go (test r) (has_row same rows r) ∙ ap (differ (has_row same rows r)) (sym (has_filter (λ q. not (test q)) rows r))
    where
      go : (t b : Bool) → (t && b) ≡ differ b (not t && b)
      go true true = refl
      go true false = refl
      go false true = refl
      go false false = refl

  -- one change after another, which have no row in common
  pub edits_both : (a b c xs ys : List R) → Edits same a b xs → Edits same b c ys → ((r : R) → has_row same xs r ≡ true → has_row same ys r ≡ false) → Edits same a c (xs ++ ys)
  edits_both a b c xs ys first second apart r =
      list_any-append (same r) xs ys ∙ go (has_row same a r) (has_row same b r) (has_row same c r) (has_row same xs r) (has_row same ys r) (first r) (second r) (apart r)
    where
      go : (a b c x y : Bool) → x ≡ differ a b → y ≡ differ b c → (x ≡ true → y ≡ false) → (x || y) ≡ differ a c
      go true true c x y p q h = (λ i. p i || y) ∙ q
      go false false c x y p q h = (λ i. p i || y) ∙ q
      go true false true x y p q h = absurd (true≢false (sym q ∙ h p))
      go true false false x y p q h = ap (λ x. x || y) p
      go false true true x y p q h = ap (λ x. x || y) p
      go false true false x y p q h = absurd (true≢false (sym q ∙ h p))

  module _ (old new edits : List R) (edited : Edits same old new edits) where
    -- a row that goes or comes is in just one of the two
    pub edited_differs : (r : R) → has_row same edits r ≡ true → has_row same old r ≡ has_row same new r → {X : Type 0} → X
    edited_differs r h e = absurd (true≢false (sym h ∙ edited r ∙ ap (differ (has_row same old r)) (sym e) ∙ differ_itself (has_row same old r)))

    pub unedited : (r : R) → has_row same edits r ≡ false → has_row same old r ≡ has_row same new r
    unedited r h = differ_is (has_row same old r) (has_row same new r) (sym (edited r) ∙ h)

    -- where one part stays, it is of the other one
    pub edited_here : (on : R → Bool) → filter (λ r. not (on r)) old ≡ filter (λ r. not (on r)) new → (r : R) → has_row same edits r ≡ true → on r ≡ true
    edited_here on others r h = go (on r) refl
      where
        go : (b : Bool) → on r ≡ b → b ≡ true
        go true e = refl
        go false e =
            let off : not (on r) ≡ true = ap not e in
            edited_differs r h (sym (has_passing (λ q. not (on q)) old r off) ∙ ap (λ l. has_row same l r) others ∙ has_passing (λ q. not (on q)) new r off)

module _ {K R : Type 0} (cmp : K → K → Ordering) (key : R → K) (total : IsTotalOrder cmp) (exact : CmpEqualImpliesEq cmp) (same : R → R → Bool) (decides : (a b : R) → Decides (same a b) (a ≡ b)) where
  own : (k : K) → is_eq (cmp k k) ≡ true
  own k = ap is_eq (tied_itself total k)

  pub has_is : (rows : List R) → Ascends cmp key rows → (r : R) → has_row same rows r ≡ same_found same (Some r) (row_at cmp key (key r) rows)
  has_is [] asc r = refl
  has_is (q ∷ rows) asc r = go (is_eq (cmp (key r) (key q))) refl (same r q) refl (has_is rows asc.1 r)
    where
      go : (e : Bool) → is_eq (cmp (key r) (key q)) ≡ e → (b : Bool) → same r q ≡ b → has_row same rows r ≡ same_found same (Some r) (row_at cmp key (key r) rows)
          → (b || has_row same rows r) ≡ same_found same (Some r) (cond e (Some q) (row_at cmp key (key r) rows))
      go true e true s rest = sym s
      go true e false s rest =
          let here : key r ≡ key q = exact (key r) (key q) (eq_is cmp key total _ e) in
          rest ∙ ap (same_found same (Some r)) (row_at-below cmp key total (key r) rows (All-weaker (λ p. cmp (key q) (key p) ≡ Less) (λ p. cmp (key r) (key p) ≡ Less) (λ p l. ap (λ k. cmp k (key p)) here ∙ l) rows asc.0)) ∙ sym s
      go false e true s rest = absurd (true≢false (sym (own (key r)) ∙ ap (λ p. is_eq (cmp (key r) (key p))) ((decides r q).0 s) ∙ e))
      go false e false s rest = rest

  -- the row of a key is in the table
  pub found_has : (k : K) (rows : List R) → Ascends cmp key rows → (r : R) → row_at cmp key k rows ≡ Some r → has_row same rows r ≡ true
  found_has k rows asc r e =
      has_is rows asc r ∙ ap (same_found same (Some r)) (ap (λ j. row_at cmp key j rows) (sym (key_of_found cmp key total exact k rows r e)) ∙ e) ∙ same_itself same decides r

  -- two tables with the same rows are equal
  pub same_rows : (xs ys : List R) → Ascends cmp key xs → Ascends cmp key ys → ((r : R) → has_row same xs r ≡ has_row same ys r) → xs ≡ ys
  same_rows xs ys ax ay h = go (equal_or_differs cmp key total same decides (λ k. Unit {0}) xs ys ax ay (units xs) (units ys))
    where
      units : (rows : List R) → AllByRecursion (λ r. Unit {0}) rows
      units [] = tt
      units (r ∷ rows) = (tt, units rows)

      in_both : (r : R) → same_found same (Some r) (row_at cmp key (key r) xs) ≡ same_found same (Some r) (row_at cmp key (key r) ys)
      in_both r = sym (has_is xs ax r) ∙ h r ∙ has_is ys ay r

      at : (k : K) (o p : Option R) → row_at cmp key k xs ≡ o → row_at cmp key k ys ≡ p → same_found same o p ≡ true
      at k None None e g = refl
      at k (Some a) p e g =
          let here : key a ≡ k = sym (key_of_found cmp key total exact k xs a e) in
          ap (same_found same (Some a)) (sym g ∙ ap (λ j. row_at cmp key j ys) (sym here)) ∙ sym (in_both a) ∙ ap (same_found same (Some a)) (ap (λ j. row_at cmp key j xs) here ∙ e) ∙ same_itself same decides a
      at k None (Some b) e g =
          let here : key b ≡ k = sym (key_of_found cmp key total exact k ys b g) in
          absurd (false≢true (ap (same_found same (Some b)) (sym e ∙ ap (λ j. row_at cmp key j xs) (sym here)) ∙ in_both b ∙ ap (same_found same (Some b)) (ap (λ j. row_at cmp key j ys) here ∙ g) ∙ same_itself same decides b))

      go : (xs ≡ ys) ⊎ Differs cmp key same (λ k. Unit {0}) xs ys → xs ≡ ys
      go (inl e) = e
      go (inr d) = absurd (true≢false (sym (at d.at (row_at cmp key d.at xs) (row_at cmp key d.at ys) refl refl) ∙ d.differs))

  -- a table differs from another one exactly where a row goes or comes
  pub edits_told : (old new edits : List R) → Ascends cmp key old → Ascends cmp key new → Edits same old new edits → not (is_empty edits) ≡ not (pointwise same old new)
  edits_told old new edits ao an edited = ap not (go edits refl)
    where
      equal : old ≡ new → pointwise same old new ≡ true
      equal e = (pointwise_decides decides old new).1 e

      go : (l : List R) → edits ≡ l → is_empty l ≡ pointwise same old new
      go [] e = sym (equal (same_rows old new ao an (λ r. unedited same decides old new edits edited r (ap (λ l. has_row same l r) e))))
      go (r ∷ l) e = unequal (pointwise same old new) refl
        where
          unequal : (b : Bool) → pointwise same old new ≡ b → false ≡ b
          unequal false p = refl
          unequal true p =
              let is : old ≡ new = (pointwise_decides decides old new).0 p in
              edited_differs same decides old new edits edited r (ap (λ l. has_row same l r) e ∙ ap (λ b. b || has_row same l r) (same_itself same decides r)) (ap (λ l. has_row same l r) is)

  module _ (new : R) (rows : List R) (asc : Ascends cmp key rows) where
    abbrev pub after : List R
    after = put cmp key new rows

    has_put : (r : R) → has_row same after r ≡ same_found same (Some r) (cond (is_eq (cmp (key r) (key new))) (Some new) (row_at cmp key (key r) rows))
    has_put r = has_is after (Ascends-put cmp key total new rows asc) r ∙ ap (same_found same (Some r)) (row_at-put cmp key total exact (key r) new rows)

    not_same : (r q : R) → key q ≡ key new → is_eq (cmp (key r) (key new)) ≡ false → same r q ≡ false
    not_same r q here apart = go (same r q) refl
      where
        go : (b : Bool) → same r q ≡ b → b ≡ false
        go false s = refl
        go true s = absurd (true≢false (sym (own (key r)) ∙ ap (λ k. is_eq (cmp (key r) k)) (ap key ((decides r q).0 s) ∙ here) ∙ apart))

    at_key : (r : R) → is_eq (cmp (key r) (key new)) ≡ true → (o : Option R) → row_at cmp key (key new) rows ≡ o → has_row same rows r ≡ same_found same (Some r) o
    at_key r e o is = has_is rows asc r ∙ ap (same_found same (Some r)) (ap (λ k. row_at cmp key k rows) (exact (key r) (key new) (eq_is cmp key total _ e)) ∙ is)

    here_put : (r : R) → is_eq (cmp (key r) (key new)) ≡ true → has_row same after r ≡ same r new
    here_put r e = has_put r ∙ ap (λ b. same_found same (Some r) (cond b (Some new) (row_at cmp key (key r) rows))) e

    elsewhere : (r : R) → is_eq (cmp (key r) (key new)) ≡ false → has_row same after r ≡ has_row same rows r
    elsewhere r e = has_put r ∙ ap (λ b. same_found same (Some r) (cond b (Some new) (row_at cmp key (key r) rows))) e ∙ sym (has_is rows asc r)

    or_false : (b : Bool) → (b || false) ≡ b
    or_false true = refl
    or_false false = refl

    -- a row comes whose key there was not
    pub edits_come : row_at cmp key (key new) rows ≡ None → Edits same rows after (new ∷ [])
    edits_come none r = or_false (same r new) ∙ go (is_eq (cmp (key r) (key new))) refl
      where
        first : (b : Bool) → b ≡ differ false b
        first true = refl
        first false = refl

        go : (e : Bool) → is_eq (cmp (key r) (key new)) ≡ e → same r new ≡ differ (has_row same rows r) (has_row same after r)
        go true e = first (same r new) ∙ λ i. differ (sym (at_key r e None none) i) (sym (here_put r e) i)
        go false e = not_same r new refl e ∙ sym (ap (differ (has_row same rows r)) (elsewhere r e) ∙ differ_itself (has_row same rows r))

    -- a row goes and another one comes
    pub edits_change : (old : R) → row_at cmp key (key new) rows ≡ Some old → same old new ≡ false → Edits same rows after (old ∷ new ∷ [])
    edits_change old there other r = ap (λ b. same r old || b) (or_false (same r new)) ∙ go (is_eq (cmp (key r) (key new))) refl
      where
        one : (a b : Bool) → same r old ≡ a → same r new ≡ b → (a || b) ≡ differ a b
        one true true p q = absurd (true≢false (sym ((decides old new).1 (sym ((decides r old).0 p) ∙ (decides r new).0 q)) ∙ other))
        one true false p q = refl
        one false true p q = refl
        one false false p q = refl

        go : (e : Bool) → is_eq (cmp (key r) (key new)) ≡ e → (same r old || same r new) ≡ differ (has_row same rows r) (has_row same after r)
        go true e = one (same r old) (same r new) refl refl ∙ λ i. differ (sym (at_key r e (Some old) there) i) (sym (here_put r e) i)
        go false e =
            (λ i. not_same r old (sym (key_of_found cmp key total exact (key new) rows old there)) e i || not_same r new refl e i)
            ∙ sym (ap (differ (has_row same rows r)) (elsewhere r e) ∙ differ_itself (has_row same rows r))
