-- Rows that are removed one after another.
use Rattle.std.proofs.Common.{◌≡◌, ℕ, Bool, true, false, not, cond, ◌||◌, List, [], ◌∷◌, ◌++◌, refl, sym, ◌∙◌, ap, subst, Option, Some, None, is_some, filter, find, map, nat_eq, length, arith}
use Rattle.std.specs.List.{AllByRecursion, list_any}
use Rattle.std.specs.Bool.{Decides}
use Rattle.std.specs.Ordering.{is_eq, nat_cmp}
use Rattle.std.specs.declared.cmp.Ordering.TheVariants.{Less}
use Rattle.std.specs.Cmp.Lexicographic.{pointwise, pointwise_decides}
use Rattle.std.proofs.lemmas.Bool.{false≢true, true≢false}
use Rattle.std.proofs.lemmas.Bool.Decides.{same_from_decides, Decides-eqb}
use Rattle.std.proofs.lemmas.Cmp.{nat_cmp_total, tied_itself}
use Rattle.std.proofs.lemmas.Map.Lookups.{exact_unsigned}
use Rattle.cat_model.specs.Tables.{Ascends, without}
use Rattle.cat_model.specs.Keys.{is_empty, same_option}
use Rattle.cat_model.specs.Catalog.{session_at, session_key, query_key}
use Rattle.cat_model.specs.Machine.{ended_holder}
use Rattle.cat_model.specs.declared.row.SessionRow.{SessionRow}
use Rattle.cat_model.specs.declared.row.QueryRow.{QueryRow}
use Rattle.cat_model.proofs.TableLemmas.{All-filter_test, eq_is}
use Rattle.query_table.specs.States.{is_bound_to}
use Rattle.std.proofs.lemmas.List.Folds.{list_any-append}
use Rattle.catalog_table.proofs.Parts.{filter_all}
use Rattle.catalog_store.specs.Ending.{is_gone, is_orphan}
use Rattle.catalog_store.proofs.Quiet.{no_orphan}

-- 1. One after the other is both at once.
pub without_twice : {A : Type 0} (p q : A → Bool) (xs : List A) → without q (without p xs) ≡ without (λ x. p x || q x) xs
without_twice p q [] = refl
without_twice p q (x ∷ xs) = go (p x) (q x) refl (without_twice p q xs)
  where
    go : (a b : Bool) → q x ≡ b → without q (without p xs) ≡ without (λ x. p x || q x) xs → filter (λ y. not (q y)) (cond (not a) (x ∷ without p xs) (without p xs)) ≡ cond (not (a || q x)) (x ∷ without (λ x. p x || q x) xs) (without (λ x. p x || q x) xs)
    go true b e ih = ih
    go false b e ih = ap (λ l. cond (not (q x)) (x ∷ l) l) ih

pub any_twice : {A : Type 0} (p q : A → Bool) (xs : List A) → (list_any p xs || list_any q (without p xs)) ≡ list_any (λ x. p x || q x) xs
any_twice p q [] = refl
any_twice p q (x ∷ xs) = go (p x) (q x) refl (list_any p xs) refl (any_twice p q xs)
  where
    late : (b : Bool) → (b || true) ≡ true
    late true = refl
    late false = refl

    go : (a b : Bool) → q x ≡ b → (d : Bool) → list_any p xs ≡ d → (list_any p xs || list_any q (without p xs)) ≡ list_any (λ x. p x || q x) xs → ((a || list_any p xs) || list_any q (cond (not a) (x ∷ without p xs) (without p xs))) ≡ ((a || q x) || list_any (λ x. p x || q x) xs)
    go true b e d is ih = refl
    go false true e d is ih = (λ j. list_any p xs || (e j || list_any q (without p xs))) ∙ late (list_any p xs) ∙ sym (ap (λ t. t || list_any (λ x. p x || q x) xs) e)
    go false false e d is ih = (λ j. list_any p xs || (e j || list_any q (without p xs))) ∙ ih ∙ sym (ap (λ t. t || list_any (λ x. p x || q x) xs) e)

-- 2. A list differs from one without some rows just where there is one.
kept_all : {A : Type 0} (p : A → Bool) (xs : List A) → list_any p xs ≡ false → without p xs ≡ xs
kept_all p [] h = refl
kept_all p (x ∷ xs) h = go (p x) refl h (kept_all p xs)
  where
    go : (b : Bool) → p x ≡ b → (b || list_any p xs) ≡ false → (list_any p xs ≡ false → without p xs ≡ xs) → cond (not b) (x ∷ without p xs) (without p xs) ≡ x ∷ xs
    go true e h ih = absurd (true≢false h)
    go false e h ih = ap (λ l. x ∷ l) (ih h)

none_of : {A : Type 0} (p : A → Bool) (xs : List A) → AllByRecursion (λ x. not (p x) ≡ true) xs → list_any p xs ≡ false
none_of p [] h = refl
none_of p (x ∷ xs) h = (λ j. (turn (p x) h.0) j || list_any p xs) ∙ none_of p xs h.1
  where
    turn : (b : Bool) → not b ≡ true → b ≡ false
    turn true e = absurd (false≢true e)
    turn false e = refl

pub differ_is : {A : Type 0} (same : A → A → Bool) (decides : (a b : A) → Decides (same a b) (a ≡ b)) (p : A → Bool) (xs : List A) → not (pointwise same xs (without p xs)) ≡ list_any p xs
differ_is same decides p xs = go (list_any p xs) refl
  where
    go : (b : Bool) → list_any p xs ≡ b → not (pointwise same xs (without p xs)) ≡ b
    go false e = ap not ((pointwise_decides decides xs (without p xs)).1 (sym (kept_all p xs e)))
    go true e = either (pointwise same xs (without p xs)) refl
      where
        either : (t : Bool) → pointwise same xs (without p xs) ≡ t → not t ≡ true
        either true is =
            let kept : AllByRecursion (λ x. not (p x) ≡ true) xs = subst (AllByRecursion (λ x. not (p x) ≡ true)) (sym ((pointwise_decides decides xs (without p xs)).0 is)) (All-filter_test (λ x. not (p x)) xs) in
            absurd (false≢true (sym (none_of p xs kept) ∙ e))
        either false is = refl

-- 3. One more session.
found_more : {A : Type 0} (p : A → Bool) (xs : List A) (s : A) → is_some (find p (xs ++ s ∷ [])) ≡ (is_some (find p xs) || p s)
found_more p [] s = go (p s)
  where
    go : (b : Bool) → is_some (cond b (Some s) None) ≡ b
    go true = refl
    go false = refl
found_more p (x ∷ xs) s = go (p x) (found_more p xs s)
  where
    go : (b : Bool) → is_some (find p (xs ++ s ∷ [])) ≡ (is_some (find p xs) || p s) → is_some (cond b (Some x) (find p (xs ++ s ∷ []))) ≡ (is_some (cond b (Some x) (find p xs)) || p s)
    go true ih = refl
    go false ih = ih

eq_turned : (a b : ℕ) → is_eq (nat_cmp a b) ≡ is_eq (nat_cmp b a)
eq_turned a b = same_from_decides _ _ (one a b) (λ e. sym ((one b a).0 e), λ e. (one b a).1 (sym e))
  where
    one : (a b : ℕ) → Decides (is_eq (nat_cmp a b)) (a ≡ b)
    one a b = (λ e. exact_unsigned a b (eq_is nat_cmp session_key nat_cmp_total _ e), λ e. subst (λ x. is_eq (nat_cmp a x) ≡ true) e (ap is_eq (tied_itself nat_cmp_total a)))

pub gone_more : (xs : List SessionRow) (s r : SessionRow) → is_gone (xs ++ s ∷ []) r ≡ (is_gone xs r || is_eq (nat_cmp s.id r.id))
gone_more xs s r = found_more (λ t. is_eq (nat_cmp r.id t.id)) xs s ∙ ap (λ b. is_gone xs r || b) (eq_turned r.id s.id)

pub eq_same : (a b : ℕ) → is_eq (nat_cmp a b) ≡ nat_eq a b
eq_same a b = same_from_decides _ _ (λ e. exact_unsigned a b (eq_is nat_cmp session_key nat_cmp_total _ e), λ e. subst (λ x. is_eq (nat_cmp a x) ≡ true) e (ap is_eq (tied_itself nat_cmp_total a))) (Decides-eqb a b)

pub orphan_more : (xs : List SessionRow) (s : SessionRow) (q : QueryRow) → is_orphan (xs ++ s ∷ []) q ≡ (is_orphan xs q || is_bound_to s.id q)
orphan_more xs s q = go q.session
  where
    go : (o : Option ℕ) → is_some (ended_holder (xs ++ s ∷ []) o) ≡ (is_some (ended_holder xs o) || same_option o (Some s.id))
    go None = refl
    go (Some id) = found_more (λ t. is_eq (nat_cmp id t.id)) xs s ∙ ap (λ b. is_some (session_at id xs) || b) (eq_same id s.id)

module _ (xs : List SessionRow) (s : SessionRow) where
  pub end_more : (rows : List SessionRow) → without (λ r. is_eq (nat_cmp s.id r.id)) (without (is_gone xs) rows) ≡ without (is_gone (xs ++ s ∷ [])) rows
  end_more rows = without_twice (is_gone xs) (λ r. is_eq (nat_cmp s.id r.id)) rows ∙ (λ j. without (λ r. sym (gone_more xs s r) j) rows)

  pub end_told : (rows : List SessionRow) → (list_any (is_gone xs) rows || list_any (λ r. is_eq (nat_cmp s.id r.id)) (without (is_gone xs) rows)) ≡ list_any (is_gone (xs ++ s ∷ [])) rows
  end_told rows = any_twice (is_gone xs) (λ r. is_eq (nat_cmp s.id r.id)) rows ∙ (λ j. list_any (λ r. sym (gone_more xs s r) j) rows)

  pub orphans_more : (rows : List QueryRow) → without (is_bound_to s.id) (without (is_orphan xs) rows) ≡ without (is_orphan (xs ++ s ∷ [])) rows
  orphans_more rows = without_twice (is_orphan xs) (is_bound_to s.id) rows ∙ (λ j. without (λ q. sym (orphan_more xs s q) j) rows)

  pub orphans_told : (rows : List QueryRow) → (list_any (is_orphan xs) rows || list_any (is_bound_to s.id) (without (is_orphan xs) rows)) ≡ list_any (is_orphan (xs ++ s ∷ [])) rows
  orphans_told rows = any_twice (is_orphan xs) (is_bound_to s.id) rows ∙ (λ j. list_any (λ q. sym (orphan_more xs s q) j) rows)

pub found_any : {A : Type 0} (p : A → Bool) (xs : List A) → is_some (find p xs) ≡ list_any p xs
found_any p [] = refl
found_any p (x ∷ xs) = go (p x) (found_any p xs)
  where
    go : (b : Bool) → is_some (find p xs) ≡ list_any p xs → is_some (cond b (Some x) (find p xs)) ≡ (b || list_any p xs)
    go true ih = refl
    go false ih = ih

-- 4. The rows of these identifiers are the rows that pass.
pub less_differs : (a b : ℕ) → nat_cmp a b ≡ Less → nat_eq a b ≡ false
less_differs a b less = go (nat_eq a b) refl
  where
    go : (t : Bool) → nat_eq a b ≡ t → t ≡ false
    go true e = absurd (true≢false (sym (ap is_eq (tied_itself nat_cmp_total a)) ∙ ap (λ x. is_eq (nat_cmp a x)) ((Decides-eqb a b).0 e) ∙ ap is_eq less))
    go false e = refl

pub eqb_turned : (a b : ℕ) → nat_eq a b ≡ nat_eq b a
eqb_turned a b = same_from_decides _ _ (Decides-eqb a b) (λ e. sym ((Decides-eqb b a).0 e), λ e. (Decides-eqb b a).1 (sym e))

agree : {A : Type 0} (f g : A → Bool) (xs : List A) → AllByRecursion (λ x. f x ≡ g x) xs → without f xs ≡ without g xs
agree f g [] h = refl
agree f g (x ∷ xs) h = (λ j. cond (not (h.0 j)) (x ∷ agree f g xs h.1 j) (agree f g xs h.1 j))

module _ (p : QueryRow → Bool) where
  abbrev ids : List QueryRow → List ℕ
  ids rows = map query_key (filter p rows)

  abbrev among : List QueryRow → QueryRow → Bool
  among rows q = list_any (λ i. nat_eq q.id i) (ids rows)

  later : (r : QueryRow) (rows : List QueryRow) → AllByRecursion (λ s. nat_cmp r.id s.id ≡ Less) rows → among rows r ≡ false
  later r [] h = refl
  later r (s ∷ rows) h = go (p s) (later r rows h.1)
    where
      go : (b : Bool) → among rows r ≡ false → list_any (λ i. nat_eq r.id i) (map query_key (cond b (s ∷ filter p rows) (filter p rows))) ≡ false
      go true ih = ap (λ t. t || among rows r) (less_differs r.id s.id h.0) ∙ ih
      go false ih = ih

  among_is : (rows : List QueryRow) → Ascends nat_cmp query_key rows → AllByRecursion (λ q. among rows q ≡ p q) rows
  among_is [] asc = tt
  among_is (r ∷ rows) asc = (own (p r) refl, behind rows asc.0 (among_is rows asc.1))
    where
      own : (b : Bool) → p r ≡ b → list_any (λ i. nat_eq r.id i) (map query_key (cond (p r) (r ∷ filter p rows) (filter p rows))) ≡ p r
      own true e = ap (λ b. list_any (λ i. nat_eq r.id i) (map query_key (cond b (r ∷ filter p rows) (filter p rows)))) e ∙ ap (λ t. t || among rows r) ((Decides-eqb r.id r.id).1 refl) ∙ sym e
      own false e = ap (λ b. list_any (λ i. nat_eq r.id i) (map query_key (cond b (r ∷ filter p rows) (filter p rows)))) e ∙ later r rows asc.0 ∙ sym e

      behind : (more : List QueryRow) → AllByRecursion (λ q. nat_cmp r.id q.id ≡ Less) more → AllByRecursion (λ q. among rows q ≡ p q) more → AllByRecursion (λ q. among (r ∷ rows) q ≡ p q) more
      behind [] less h = tt
      behind (q ∷ more) less h = (go (p r), behind more less.1 h.1)
        where
          go : (b : Bool) → list_any (λ i. nat_eq q.id i) (map query_key (cond b (r ∷ filter p rows) (filter p rows))) ≡ p q
          go true = ap (λ t. t || among rows q) (eqb_turned q.id r.id ∙ less_differs r.id q.id less.0) ∙ h.0
          go false = h.0

  pub ids_removed : (rows : List QueryRow) → Ascends nat_cmp query_key rows → without (among rows) rows ≡ without p rows
  ids_removed rows asc = agree (among rows) p rows (among_is rows asc)

or_last : (b : Bool) → (b || false) ≡ b
or_last true = refl
or_last false = refl

pub ids_more : (xs : List ℕ) (x : ℕ) (rows : List QueryRow) → without (λ r. is_eq (nat_cmp x r.id)) (without (λ q. list_any (λ i. nat_eq q.id i) xs) rows) ≡ without (λ q. list_any (λ i. nat_eq q.id i) (xs ++ x ∷ [])) rows
ids_more xs x rows = without_twice (λ q. list_any (λ i. nat_eq q.id i) xs) (λ r. is_eq (nat_cmp x r.id)) rows ∙ (λ j. without (λ q. each q j) rows)
  where
    each : (q : QueryRow) → (list_any (λ i. nat_eq q.id i) xs || is_eq (nat_cmp x q.id)) ≡ list_any (λ i. nat_eq q.id i) (xs ++ x ∷ [])
    each q = ap (λ b. list_any (λ i. nat_eq q.id i) xs || b) (eq_same x q.id ∙ eqb_turned x q.id ∙ sym (or_last (nat_eq q.id x))) ∙ sym (list_any-append (λ i. nat_eq q.id i) xs (x ∷ []))

pub ids_none : (rows : List QueryRow) → rows ≡ without (λ q. list_any (λ i. nat_eq q.id i) []) rows
ids_none rows = sym (filter_all rows)

-- 5. Before the first one.
none_any : {A : Type 0} (xs : List A) → false ≡ list_any (λ x. false) xs
none_any [] = refl
none_any (x ∷ xs) = none_any xs

pub gone_first : (rows : List SessionRow) → (rows ≡ without (is_gone []) rows) × (false ≡ list_any (is_gone []) rows)
gone_first rows = (sym (filter_all rows), none_any rows)

pub orphans_first : (rows : List QueryRow) → (rows ≡ without (is_orphan []) rows) × (false ≡ list_any (is_orphan []) rows)
orphans_first rows = (sym (no_orphan rows), none rows)
  where
    nobody : (o : Option ℕ) → false ≡ is_some (ended_holder [] o)
    nobody None = refl
    nobody (Some id) = refl

    none : (rows : List QueryRow) → false ≡ list_any (is_orphan []) rows
    none [] = refl
    none (q ∷ rows) = none rows ∙ ap (λ b. b || list_any (is_orphan []) rows) (nobody q.session)

pub told_ids : (p : QueryRow → Bool) (rows : List QueryRow) → not (is_empty (map query_key (filter p rows))) ≡ list_any p rows
told_ids p [] = refl
told_ids p (q ∷ rows) = go (p q) (told_ids p rows)
  where
    go : (b : Bool) → not (is_empty (map query_key (filter p rows))) ≡ list_any p rows → not (is_empty (map query_key (cond b (q ∷ filter p rows) (filter p rows)))) ≡ (b || list_any p rows)
    go true ih = refl
    go false ih = ih

-- 6. The first of these identifiers, and then the rest.
pub ids_next : (x : ℕ) (xs : List ℕ) (rows : List QueryRow) → without (λ q. list_any (λ i. nat_eq q.id i) xs) (without (λ r. is_eq (nat_cmp x r.id)) rows) ≡ without (λ q. list_any (λ i. nat_eq q.id i) (x ∷ xs)) rows
ids_next x xs rows = without_twice (λ r. is_eq (nat_cmp x r.id)) (λ q. list_any (λ i. nat_eq q.id i) xs) rows ∙ (λ j. without (λ q. (eq_same x q.id ∙ eqb_turned x q.id) j || list_any (λ i. nat_eq q.id i) xs) rows)

pub none_left : (l : List ℕ) → length l ≡ 0 → l ≡ []
none_left [] e = refl
none_left (x ∷ l) e = absurd (omega (arith, e))
