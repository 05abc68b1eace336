-- A stable sort by a number is the ascending order in which equal ones stay in their order.
use Rattle.std.proofs.Common.{◌≡◌, ℕ, zero, suc, ◌<◌, ◌≤◌, Bool, true, false, cond, List, [], ◌∷◌, length, get_or, filter, map, refl, sym, ap, ◌∙◌, arith, inl, inr, suc-le-suc, zero-le}
use Rattle.std.specs.Prelude.{nat_le}
use Rattle.std.specs.List.{AllByRecursion as Each}
use Rattle.std.specs.List.Sorted.{ties, IsNonDecreasingBy, IsStableByKey}
use Rattle.std.specs.Ordering.{is_lt, nat_cmp}
use Rattle.std.proofs.lemmas.Bool.{cond-true, cond-false, cases_Bool}
use Rattle.std.proofs.lemmas.Bool.Decides.{nat_tests}
use Rattle.cat_model.proofs.TableLemmas.{All-weaker}
use Rattle.cluster_rules.specs.Offices.{put_by, sorted_by}

ties_at : (m n : ℕ) → (ties (λ x y. is_lt (nat_cmp x y)) m n ≡ true → m ≡ n) × (m ≡ n → ties (λ x y. is_lt (nat_cmp x y)) m n ≡ true)
ties_at m n = (λ h. grind (arith, nat_tests), λ h. grind (arith, nat_tests))

le_is : (m n : ℕ) → nat_le m n ≡ true → m ≤ n
le_is m n e = grind (arith, nat_tests)

le_is_not : (m n : ℕ) → nat_le m n ≡ false → n < m
le_is_not m n e = grind (arith, nat_tests)

module _ {A : Type 0} (f : A → ℕ) where
  abbrev same : A → A → Bool
  same = ties (λ x y. is_lt (nat_cmp (f x) (f y)))

  same-true : (x y : A) → same x y ≡ true → f x ≡ f y
  same-true x y = (ties_at (f x) (f y)).0

  same_from : (x y : A) → f x ≡ f y → same x y ≡ true
  same_from x y = (ties_at (f x) (f y)).1

  filter-kept : (p : A → Bool) (y : A) (ys : List A) → p y ≡ true → filter p (y ∷ ys) ≡ y ∷ filter p ys
  filter-kept p y ys h = cond-true _ _ _ h

  filter-dropped : (p : A → Bool) (y : A) (ys : List A) → p y ≡ false → filter p (y ∷ ys) ≡ filter p ys
  filter-dropped p y ys h = cond-false _ _ _ h

  -- what ties with an element stays in its order
  filter-put_by : (x c : A) (ds : List A) → filter (same x) (put_by f c ds) ≡ filter (same x) (c ∷ ds)
  filter-put_by x c [] = refl
  filter-put_by x c (d ∷ ds) = go (filter-put_by x c ds) (nat_le (f c) (f d)) refl (same x c) refl (same x d) refl
    where
      rest : List A
      rest = filter (same x) ds

      go : filter (same x) (put_by f c ds) ≡ filter (same x) (c ∷ ds) → (le : Bool) → nat_le (f c) (f d) ≡ le → (b : Bool) → same x c ≡ b → (e : Bool) → same x d ≡ e
          → filter (same x) (cond le (c ∷ d ∷ ds) (d ∷ put_by f c ds)) ≡ filter (same x) (c ∷ d ∷ ds)
      go less true l b p e q = refl
      go less false l true p true q = absurd (omega (arith, le_is_not (f c) (f d) l, same-true x c p, same-true x d q))
      go less false l false p true q =
          filter-kept (same x) d (put_by f c ds) q ∙ ap (λ l. d ∷ l) (less ∙ filter-dropped (same x) c ds p)
          ∙ sym (filter-dropped (same x) c (d ∷ ds) p ∙ filter-kept (same x) d ds q)
      go less false l b p false q =
          filter-dropped (same x) d (put_by f c ds) q ∙ less
          ∙ ap (λ l. cond (same x c) (c ∷ l) l) (sym (filter-dropped (same x) d ds q))

  filter-sorted_by : (x : A) (cs : List A) → filter (same x) (sorted_by f cs) ≡ filter (same x) cs
  filter-sorted_by x [] = refl
  filter-sorted_by x (c ∷ cs) = filter-put_by x c (sorted_by f cs) ∙ ap (λ l. cond (same x c) (c ∷ l) l) (filter-sorted_by x cs)

  abbrev Rises : List A → Type 0
  Rises [] = Unit {0}
  Rises (y ∷ ys) = Each (λ z. f y ≤ f z) ys × Rises ys

  put_among : (P : A → Type 0) (x : A) (ys : List A) → P x → Each P ys → Each P (put_by f x ys)
  put_among P x [] p h = (p, tt)
  put_among P x (y ∷ ys) p h = go (put_among P x ys p h.1) (nat_le (f x) (f y))
    where
      go : Each P (put_by f x ys) → (b : Bool) → Each P (cond b (x ∷ y ∷ ys) (y ∷ put_by f x ys))
      go less true = (p, h)
      go less false = (h.0, less)

  put_rises : (x : A) (ys : List A) → Rises ys → Rises (put_by f x ys)
  put_rises x [] h = (tt, tt)
  put_rises x (y ∷ ys) h = go (put_rises x ys h.1) (nat_le (f x) (f y)) refl
    where
      go : Rises (put_by f x ys) → (b : Bool) → nat_le (f x) (f y) ≡ b → Rises (cond b (x ∷ y ∷ ys) (y ∷ put_by f x ys))
      go less true e =
          let le : f x ≤ f y = le_is (f x) (f y) e in
          ((le, All-weaker (λ z. f y ≤ f z) (λ z. f x ≤ f z) (λ z l. omega (arith, le, l)) ys h.0), h)
      go less false e =
          let lt : f y < f x = le_is_not (f x) (f y) e in
          (put_among (λ z. f y ≤ f z) x ys (omega (arith, lt)) h.0, less)

  sorted_rises : (xs : List A) → Rises (sorted_by f xs)
  sorted_rises [] = tt
  sorted_rises (x ∷ xs) = put_rises x (sorted_by f xs) (sorted_rises xs)

  each_at : (n : ℕ) (d : A) (ys : List A) → ((j : ℕ) → j < length ys → n ≤ f (get_or ys j d)) → Each (λ z. n ≤ f z) ys
  each_at n d [] h = tt
  each_at n d (y ∷ ys) h = (h zero (suc-le-suc zero-le), each_at n d ys (λ j lt. h (suc j) (suc-le-suc lt)))

  rises_from : (ys : List A) → IsNonDecreasingBy f ys → Rises ys
  rises_from [] h = tt
  rises_from (y ∷ ys) h = (
    each_at (f y) y ys (λ j lt. h zero (suc j) y zero-le (suc-le-suc lt)),
    rises_from ys (λ i j d le lt. h (suc i) (suc j) d (suc-le-suc le) (suc-le-suc lt)),
  )

  -- an element like x occurs among them
  found : (n : ℕ) (x : A) (ys : List A) (w : A) (ws : List A) → Each (λ z. n ≤ f z) ys → filter (same x) ys ≡ w ∷ ws → n ≤ f x
  found n x [] w ws h e = cc
  found n x (y ∷ ys) w ws h e =
      elim (cases_Bool (same x y)) [
        | inl with ↦ omega (arith, h.0, same-true x y with)
        | inr without ↦ found n x ys w ws h.1 (sym (filter-dropped (same x) y ys without) ∙ e)
      ]

  same_from_ties : (ys zs : List A) → Rises ys → Rises zs → ((x : A) → filter (same x) ys ≡ filter (same x) zs) → ys ≡ zs
  same_from_ties [] [] left right alike = refl
  same_from_ties [] (z ∷ zs) left right alike =
      let clash = alike z ∙ filter-kept (same z) z zs (same_from z z refl) in cc
  same_from_ties (y ∷ ys) [] left right alike =
      let clash = sym (alike y) ∙ filter-kept (same y) y ys (same_from y y refl) in cc
  same_from_ties (y ∷ ys) (z ∷ zs) left right alike =
      let at_y = filter-kept (same y) y ys (same_from y y refl) in
      let at_z = filter-kept (same z) z zs (same_from z z refl) in
      let up = found (f z) y (z ∷ zs) y _ (omega arith, right.0) (sym (alike y) ∙ at_y) in
      let down = found (f y) z (y ∷ ys) z _ (omega arith, left.0) (alike z ∙ at_z) in
      let heads = sym at_y ∙ alike y ∙ filter-kept (same y) z zs (same_from y z (omega arith)) in
      let head : y ≡ z = cc in
      let tails : (x : A) → filter (same x) ys ≡ filter (same x) zs =
      λ x. elim (cases_Bool (same x y)) [
        | inl with ↦
            let both = sym (filter-kept (same x) y ys with) ∙ alike x ∙ filter-kept (same x) z zs (ap (same x) (sym head) ∙ with) in cc
        | inr without ↦
            sym (filter-dropped (same x) y ys without) ∙ alike x ∙ filter-dropped (same x) z zs (ap (same x) (sym head) ∙ without)
      ] in
      ap (λ w. w ∷ ys) head ∙ ap (λ l. z ∷ l) (same_from_ties ys zs left.1 right.1 tails)

  pub sort_is : (xs ys : List A) → IsNonDecreasingBy f ys → IsStableByKey f nat_cmp xs ys → ys ≡ sorted_by f xs
  sort_is xs ys sorted stable = same_from_ties ys (sorted_by f xs) (rises_from ys sorted) (sorted_rises xs) (λ x. stable x ∙ sym (filter-sorted_by x xs))

-- a sort by what is noted of each element
put_map : {A B : Type 0} (f : A → ℕ) (h : B → A) (x : B) (ys : List B) → put_by f (h x) (map h ys) ≡ map h (put_by (λ b. f (h b)) x ys)
put_map f h x [] = refl
put_map f h x (y ∷ ys) = go (put_map f h x ys) (nat_le (f (h x)) (f (h y)))
  where
    go : put_by f (h x) (map h ys) ≡ map h (put_by (λ b. f (h b)) x ys) → (b : Bool) → cond b (h x ∷ h y ∷ map h ys) (h y ∷ put_by f (h x) (map h ys)) ≡ map h (cond b (x ∷ y ∷ ys) (y ∷ put_by (λ b. f (h b)) x ys))
    go less true = refl
    go less false = ap (λ l. h y ∷ l) less

pub sorted_map : {A B : Type 0} (f : A → ℕ) (h : B → A) (xs : List B) → sorted_by f (map h xs) ≡ map h (sorted_by (λ b. f (h b)) xs)
sorted_map f h [] = refl
sorted_map f h (x ∷ xs) = ap (put_by f (h x)) (sorted_map f h xs) ∙ put_map f h x (sorted_by (λ b. f (h b)) xs)
