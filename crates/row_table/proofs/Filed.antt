-- What a second index holds after its table and it were changed together.
use Rattle.std.proofs.Common.{◌≡◌, ◌≢◌, Bool, true, false, not, ◌&&◌, ◌||◌, cond, List, [], ◌∷◌, refl, sym, ◌∙◌, ap, Option, Some, None, is_some}
use Rattle.std.specs.Cmp.{IsTotalOrder}
use Rattle.std.specs.declared.cmp.Ordering.{Ordering}
use Rattle.std.specs.declared.cmp.Ordering.TheVariants.{Less, Equal, Greater}
use Rattle.std.specs.Ordering.{is_eq, ordering_then}
use Rattle.std.proofs.lemmas.Bool.{true≢false, false≢true}
use Rattle.std.proofs.lemmas.Cmp.{tied_itself}
use Rattle.std.proofs.lemmas.Map.Lookups.{CmpEqualImpliesEq, exact_pairs}
use Rattle.cat_model.specs.Tables.{row_at, put, without}
use Rattle.cat_model.proofs.Lookups.{row_at-put}
use Rattle.cat_model.proofs.Pairs.{both_total}
use Rattle.row_table.specs.Filing.{filed_cmp, filed_key, filed, unfiled, is_place, place_of, Files}

pub equal_is : (o : Ordering) → is_eq o ≡ true → o ≡ Equal
equal_is Less h = absurd (false≢true h)
equal_is Equal h = refl
equal_is Greater h = absurd (false≢true h)

pub then_equal : (a b : Ordering) → is_eq (ordering_then a b) ≡ (is_eq a && is_eq b)
then_equal Less b = refl
then_equal Equal b = refl
then_equal Greater b = refl

either_way : {A : Type 0} (b : Bool) (x : A) → x ≡ cond b x x
either_way true x = refl
either_way false x = refl

module _ {K R : Type 0} (cmp : K → K → Ordering) (key : R → K) (total : IsTotalOrder cmp) (exact : CmpEqualImpliesEq cmp) where
  -- the row of a key after that of one was taken out
  pub row_at-without : (k k0 : K) (rows : List R) → row_at cmp key k (without (λ r. is_eq (cmp k0 (key r))) rows) ≡ cond (is_eq (cmp k k0)) None (row_at cmp key k rows)
  row_at-without k k0 [] = either_way (is_eq (cmp k k0)) None
  row_at-without k k0 (r ∷ rows) = go (is_eq (cmp k0 (key r))) refl (is_eq (cmp k (key r))) refl (is_eq (cmp k k0)) refl (row_at-without k k0 rows)
    where
      left : List R
      left = without (λ s. is_eq (cmp k0 (key s))) rows

      go : (a : Bool) → is_eq (cmp k0 (key r)) ≡ a → (b : Bool) → is_eq (cmp k (key r)) ≡ b → (d : Bool) → is_eq (cmp k k0) ≡ d
          → row_at cmp key k left ≡ cond (is_eq (cmp k k0)) None (row_at cmp key k rows)
          → row_at cmp key k (cond (not a) (r ∷ left) left) ≡ cond d None (cond b (Some r) (row_at cmp key k rows))
      go true e true f true g rest = rest ∙ ap (λ x. cond x None (row_at cmp key k rows)) g
      go true e true f false g rest =
          let same : k ≡ k0 = exact k (key r) (equal_is (cmp k (key r)) f) ∙ sym (exact k0 (key r) (equal_is (cmp k0 (key r)) e)) in
          absurd (true≢false (sym (ap is_eq (ap (cmp k) (sym same) ∙ tied_itself total k)) ∙ g))
      go true e false f d g rest = rest ∙ ap (λ x. cond x None (row_at cmp key k rows)) g
      go false e true f true g rest = absurd (true≢false (sym f ∙ ap (λ j. is_eq (cmp j (key r))) (exact k k0 (equal_is (cmp k k0) g)) ∙ e))
      go false e true f false g rest = ap (λ x. cond x (Some r) (row_at cmp key k left)) f
      go false e false f d g rest = ap (λ x. cond x (Some r) (row_at cmp key k left)) f ∙ rest ∙ ap (λ x. cond x None (row_at cmp key k rows)) g

some_or : {A : Type 0} (b : Bool) (x : A) (o : Option A) → is_some (cond b (Some x) o) ≡ (b || is_some o)
some_or true x o = refl
some_or false x o = refl

some_unless : {A : Type 0} (b : Bool) (o : Option A) → is_some (cond b None o) ≡ (not b && is_some o)
some_unless true o = refl
some_unless false o = refl

module _ {S K : Type 0} (cmp_s : S → S → Ordering) (cmp : K → K → Ordering) (total_s : IsTotalOrder cmp_s) (total : IsTotalOrder cmp) (exact_s : CmpEqualImpliesEq cmp_s) (exact : CmpEqualImpliesEq cmp) where
  abbrev Pairs : Type 0
  Pairs = List (S × K)

  abbrev is_there : S → K → Pairs → Bool
  is_there s k pairs = is_some (row_at (filed_cmp cmp_s cmp) filed_key (s, k) pairs)

  look_filed : (o : Option S) (k0 : K) (pairs : Pairs) (s : S) (k : K) → is_there s k (filed cmp_s cmp o k0 pairs) ≡ ((is_place cmp_s s o && is_eq (cmp k k0)) || is_there s k pairs)
  look_filed None k0 pairs s k = refl
  look_filed (Some t) k0 pairs s k =
      ap is_some (row_at-put (filed_cmp cmp_s cmp) filed_key (both_total cmp_s cmp total_s total) (exact_pairs cmp_s cmp exact_s exact) (s, k) (t, k0) pairs)
      ∙ some_or (is_eq (filed_cmp cmp_s cmp (s, k) (t, k0))) (t, k0) (row_at (filed_cmp cmp_s cmp) filed_key (s, k) pairs) ∙ ap (λ b. b || is_there s k pairs) (then_equal (cmp_s s t) (cmp k k0))

  look_unfiled : (o : Option S) (k0 : K) (pairs : Pairs) (s : S) (k : K) → is_there s k (unfiled cmp_s cmp o k0 pairs) ≡ (not (is_place cmp_s s o && is_eq (cmp k k0)) && is_there s k pairs)
  look_unfiled None k0 pairs s k = refl
  look_unfiled (Some t) k0 pairs s k =
      ap is_some (row_at-without (filed_cmp cmp_s cmp) filed_key (both_total cmp_s cmp total_s total) (exact_pairs cmp_s cmp exact_s exact) (s, k) (t, k0) pairs)
      ∙ some_unless (is_eq (filed_cmp cmp_s cmp (s, k) (t, k0))) (row_at (filed_cmp cmp_s cmp) filed_key (s, k) pairs) ∙ ap (λ b. not b && is_there s k pairs) (then_equal (cmp_s s t) (cmp k k0))

  pub place_is : (s : S) (o : Option S) → is_place cmp_s s o ≡ true → o ≡ Some s
  place_is s None h = absurd (false≢true h)
  place_is s (Some t) h = ap (λ x. Some x) (sym (exact_s s t (equal_is (cmp_s s t) h)))

  -- what a row is filed under is not what the old one was
  abbrev pub Apart : Option S → Option S → Type 0
  Apart old new = (s : S) → new ≡ Some s → is_place cmp_s s old ≡ false

  pub apart_differ : (old new : Option S) → old ≢ new → Apart old new
  apart_differ old new differ s is = go (is_place cmp_s s old) refl
    where
      go : (b : Bool) → is_place cmp_s s old ≡ b → is_place cmp_s s old ≡ false
      go true e = absurd (differ (place_is s old e ∙ sym is))
      go false e = e

  both_places : (old new : Option S) → Apart old new → (s : S) → is_place cmp_s s new ≡ true → is_place cmp_s s old ≡ false
  both_places old new apart s e = apart s (place_is s new e)

  module _ {R : Type 0} (key : R → K) (place : R → Option S) where
    abbrev Fits : List R → Pairs → Type 0
    Fits = Files cmp_s cmp key place

    abbrev old_at : K → List R → Option S
    old_at k rows = place_of place (row_at cmp key k rows)

    abbrev placed : S → Option R → Bool
    placed s o = is_place cmp_s s (place_of place o)

    -- a row that is filed as the old one of its key was
    pub files_same : (rows : List R) (pairs : Pairs) (new : R) → Fits rows pairs → old_at (key new) rows ≡ place new → Fits (put cmp key new rows) pairs
    files_same rows pairs new fits same s k = fits s k ∙ go (is_eq (cmp k (key new))) refl ∙ sym (ap (placed s) (row_at-put cmp key total exact k new rows))
      where
        go : (b : Bool) → is_eq (cmp k (key new)) ≡ b → placed s (row_at cmp key k rows) ≡ placed s (cond (is_eq (cmp k (key new))) (Some new) (row_at cmp key k rows))
        go true e = ap (is_place cmp_s s) (ap (λ j. old_at j rows) (exact k (key new) (equal_is (cmp k (key new)) e)) ∙ same) ∙ sym (ap (λ b. placed s (cond b (Some new) (row_at cmp key k rows))) e)
        go false e = sym (ap (λ b. placed s (cond b (Some new) (row_at cmp key k rows))) e)

    -- a row that is filed elsewhere than the old one of its key
    pub files_moved : (rows : List R) (pairs : Pairs) (new : R) (old : Option S) → Fits rows pairs → old ≡ old_at (key new) rows → Apart old (place new) → Fits (put cmp key new rows) (unfiled cmp_s cmp old (key new) (filed cmp_s cmp (place new) (key new) pairs))
    files_moved rows pairs new old fits is apart s k =
        look_unfiled old (key new) (filed cmp_s cmp (place new) (key new) pairs) s k
        ∙ ap (λ x. not (is_place cmp_s s old && is_eq (cmp k (key new))) && x) (look_filed (place new) (key new) pairs s k ∙ ap (λ x. (is_place cmp_s s (place new) && is_eq (cmp k (key new))) || x) (fits s k))
        ∙ go (is_eq (cmp k (key new))) refl (is_place cmp_s s old) refl (is_place cmp_s s (place new)) refl
        ∙ sym (ap (placed s) (row_at-put cmp key total exact k new rows))
      where
        here : is_eq (cmp k (key new)) ≡ true → placed s (row_at cmp key k rows) ≡ is_place cmp_s s old
        here e = ap (is_place cmp_s s) (ap (λ j. old_at j rows) (exact k (key new) (equal_is (cmp k (key new)) e)) ∙ sym is)

        go : (e : Bool) → is_eq (cmp k (key new)) ≡ e → (a : Bool) → is_place cmp_s s old ≡ a → (b : Bool) → is_place cmp_s s (place new) ≡ b
            → (not (a && e) && ((b && e) || placed s (row_at cmp key k rows))) ≡ placed s (cond e (Some new) (row_at cmp key k rows))
        go true e true f true g = absurd (true≢false (sym f ∙ both_places old (place new) apart s g))
        go true e true f false g = sym g
        go true e false f true g = sym g
        go true e false f false g = here e ∙ f ∙ sym g
        go false e true f true g = refl
        go false e true f false g = refl
        go false e false f true g = refl
        go false e false f false g = refl

    -- a pair that was added and taken out again
    pub files_back : (rows : List R) (pairs : Pairs) (k0 : K) (old new : Option S) → Fits rows pairs → old ≡ old_at k0 rows → Apart old new → Fits rows (unfiled cmp_s cmp new k0 (filed cmp_s cmp new k0 pairs))
    files_back rows pairs k0 old new fits is apart s k =
        look_unfiled new k0 (filed cmp_s cmp new k0 pairs) s k
        ∙ ap (λ x. not (is_place cmp_s s new && is_eq (cmp k k0)) && x) (look_filed new k0 pairs s k ∙ ap (λ x. (is_place cmp_s s new && is_eq (cmp k k0)) || x) (fits s k))
        ∙ go (is_eq (cmp k k0)) refl (is_place cmp_s s new) refl
      where
        go : (e : Bool) → is_eq (cmp k k0) ≡ e → (b : Bool) → is_place cmp_s s new ≡ b → (not (b && e) && ((b && e) || placed s (row_at cmp key k rows))) ≡ placed s (row_at cmp key k rows)
        go true e true f = sym (ap (is_place cmp_s s) (ap (λ j. old_at j rows) (exact k k0 (equal_is (cmp k k0) e)) ∙ sym is) ∙ both_places old new apart s f)
        go true e false f = refl
        go false e true f = refl
        go false e false f = refl

    -- a row that was taken out
    pub files_gone : (rows : List R) (pairs : Pairs) (k0 : K) (old : Option S) → Fits rows pairs → old ≡ old_at k0 rows → Fits (without (λ r. is_eq (cmp k0 (key r))) rows) (unfiled cmp_s cmp old k0 pairs)
    files_gone rows pairs k0 old fits is s k =
        look_unfiled old k0 pairs s k ∙ ap (λ x. not (is_place cmp_s s old && is_eq (cmp k k0)) && x) (fits s k)
        ∙ go (is_eq (cmp k k0)) refl (is_place cmp_s s old) refl ∙ sym (ap (placed s) (row_at-without cmp key total exact k k0 rows))
      where
        go : (e : Bool) → is_eq (cmp k k0) ≡ e → (a : Bool) → is_place cmp_s s old ≡ a → (not (a && e) && placed s (row_at cmp key k rows)) ≡ placed s (cond e None (row_at cmp key k rows))
        go true e true f = refl
        go true e false f = ap (is_place cmp_s s) (ap (λ j. old_at j rows) (exact k k0 (equal_is (cmp k k0) e)) ∙ sym is) ∙ f
        go false e true f = refl
        go false e false f = refl
