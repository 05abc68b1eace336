-- Lists of numbers, totals over what passes know, and beginnings of lists.
use Rattle.std.proofs.Common.{◌≡◌, ℕ, zero, suc, ◌+◌, ◌≤◌, ◌⊎◌, List, [], ◌∷◌, ◌++◌, length, set, Option, Some, None, refl, ap, sym, ◌∙◌, subst, inl, inr, ⊎_elim, arith, append_assoc}
use mathlib.Core.Option.{some, some-injective, some-ne-none}
use lib.ListN.{get_elem?}
use Rattle.atomic_table.proofs.Lists.{at_set, at_snoc}
use Rattle.turn_lock.specs.Lists.{Among, AreFronts, EachOnce, ahead, numbers, total, Untouched, Extends}

pub among_append : (n : ℕ) (xs ys : List ℕ) → Among n (xs ++ ys) → Among n xs ⊎ Among n ys
among_append n [] ys h = inr h
among_append n (x ∷ xs) ys h = ⊎_elim (λ (e : x ≡ n). inl (inl e)) (λ (t : Among n (xs ++ ys)). ⊎_elim (λ (a : Among n xs). inl (inr a)) (λ (b : Among n ys). inr b) (among_append n xs ys t)) h

pub among_left : (n : ℕ) (xs ys : List ℕ) → Among n xs → Among n (xs ++ ys)
among_left n [] ys h = absurd h
among_left n (x ∷ xs) ys h = ⊎_elim (λ (e : x ≡ n). inl e) (λ (t : Among n xs). inr (among_left n xs ys t)) h

pub among_right : (n : ℕ) (xs ys : List ℕ) → Among n ys → Among n (xs ++ ys)
among_right n [] ys h = h
among_right n (x ∷ xs) ys h = inr (among_right n xs ys h)

ahead_append : (o : Option ℕ) (xs ys : List ℕ) → ahead o (xs ++ ys) ≡ ahead o xs ++ ys
ahead_append None xs ys = refl
ahead_append (Some n) xs ys = refl

pub numbers_append : {I : Type 0} (f : I → Option ℕ) (xs ys : List I) → numbers f (xs ++ ys) ≡ numbers f xs ++ numbers f ys
numbers_append f [] ys = refl
numbers_append f (x ∷ xs) ys = ap (ahead (f x)) (numbers_append f xs ys) ∙ ahead_append (f x) (numbers f xs) (numbers f ys)

-- what stands twice in two parts of a list whose numbers stand once
pub once_apart : (n : ℕ) (xs ys : List ℕ) → EachOnce (xs ++ ys) → Among n xs → Among n ys → ⊥
once_apart n [] ys once h k = h
once_apart n (x ∷ xs) ys once h k =
    ⊎_elim (λ (e : x ≡ n). once.0 (among_right x xs ys (subst (λ (z : ℕ). Among z ys) (sym e) k))) (λ (t : Among n xs). once_apart n xs ys once.1 t k) h

pub total_set : {V : Type 0} (f : V → ℕ) (vs : List V) (i : ℕ) (v w : V) → get_elem? vs i ≡ some v → total f (set vs i w) + f v ≡ total f vs + f w
total_set f [] i v w at = absurd (some-ne-none v (sym at))
total_set f (x ∷ xs) zero v w at = let e : f x ≡ f v = ap f (some-injective x v at) in omega arith
total_set f (x ∷ xs) (suc i) v w at = let r = total_set f xs i v w at in omega arith

pub total_snoc : {V : Type 0} (f : V → ℕ) (vs : List V) (w : V) → total f (vs ++ w ∷ []) ≡ total f vs + f w
total_snoc f [] w = omega arith
total_snoc f (x ∷ xs) w = let r = total_snoc f xs w in omega arith

pub total_le : {V : Type 0} (f g : V → ℕ) (vs : List V) → ((j : ℕ) (v : V) → get_elem? vs j ≡ some v → f v ≤ g v) → total f vs ≤ total g vs
total_le f g [] h = omega arith
total_le f g (x ∷ xs) h = let a = h 0 x refl in let r = total_le f g xs (λ j v at. h (suc j) v at) in omega arith

total_one : {V : Type 0} (f : V → ℕ) (vs : List V) (i : ℕ) (v : V) → get_elem? vs i ≡ some v → f v ≤ total f vs
total_one f [] i v at = absurd (some-ne-none v (sym at))
total_one f (x ∷ xs) zero v at = let e : f x ≡ f v = ap f (some-injective x v at) in omega arith
total_one f (x ∷ xs) (suc i) v at = let r = total_one f xs i v at in omega arith

-- two of them are no more than all
pub total_two : {V : Type 0} (f : V → ℕ) (vs : List V) (i j : ℕ) (v w : V) → (i ≡ j → ⊥) → get_elem? vs i ≡ some v → get_elem? vs j ≡ some w → f v + f w ≤ total f vs
total_two f [] i j v w ne at bt = absurd (some-ne-none v (sym at))
total_two f (x ∷ xs) zero zero v w ne at bt = absurd (ne refl)
total_two f (x ∷ xs) zero (suc j) v w ne at bt = let e : f x ≡ f v = ap f (some-injective x v at) in let r = total_one f xs j w bt in omega arith
total_two f (x ∷ xs) (suc i) zero v w ne at bt = let e : f x ≡ f w = ap f (some-injective x w bt) in let r = total_one f xs i v at in omega arith
total_two f (x ∷ xs) (suc i) (suc j) v w ne at bt = let r = total_two f xs i j v w (λ e. ne (ap suc e)) at bt in omega arith

pub set_at : {V : Type 0} (vs : List V) (i : ℕ) (v w : V) → get_elem? vs i ≡ some v → get_elem? (set vs i w) i ≡ some w
set_at [] i v w at = absurd (some-ne-none v (sym at))
set_at (x ∷ xs) zero v w at = refl
set_at (x ∷ xs) (suc i) v w at = set_at xs i v w at

-- a fact of all of them, after one has changed
pub each_set : {V : Type 0} (P : V → Type 0) (vs : List V) (i : ℕ) (w : V) → P w → ((j : ℕ) (v : V) → (j ≡ i → ⊥) → get_elem? vs j ≡ some v → P v) → (j : ℕ) (v : V) → get_elem? (set vs i w) j ≡ some v → P v
each_set P vs i w mine others j v at = ⊎_elim (λ (t : (j ≡ i) × (w ≡ v)). subst P t.1 mine) (λ (t : (j ≡ i → ⊥) × (get_elem? vs j ≡ some v)). others j v t.0 t.1) (at_set vs i j w v at)

pub each_snoc : {V : Type 0} (P : V → Type 0) (vs : List V) (w : V) → P w → ((j : ℕ) (v : V) → get_elem? vs j ≡ some v → P v) → (j : ℕ) (v : V) → get_elem? (vs ++ w ∷ []) j ≡ some v → P v
each_snoc P vs w mine others j v at = ⊎_elim (λ (t : get_elem? vs j ≡ some v). others j v t) (λ (e : w ≡ v). subst P e mine) (at_snoc vs w v j at)

-- of two beginnings of one list the shorter begins the longer
pub beginnings : {I : Type 0} (xs ys r t : List I) → xs ++ r ≡ ys ++ t → length xs ≤ length ys → (d : List I) × (ys ≡ xs ++ d) × (r ≡ d ++ t)
beginnings [] ys r t e le = (ys, refl, e)
beginnings (x ∷ xs) [] r t e le = absurd (omega arith)
beginnings (x ∷ xs) (y ∷ ys) r t e le =
    let heads : x ≡ y = cc e in
    let tails : xs ++ r ≡ ys ++ t = cc e in
    let b = beginnings xs ys r t tails (omega arith) in (b.0, cc (heads, b.1), b.2)

-- beginnings of a list begin a longer one
pub fronts_longer : {I : Type 0} (xss : List (List I)) (ys more : List I) → AreFronts xss ys → AreFronts xss (ys ++ more)
fronts_longer [] ys more f = tt
fronts_longer (xs ∷ xss) ys more f = ((f.0.0 ++ more, ap (λ (l : List _). l ++ more) f.0.1 ∙ append_assoc xs f.0.0 more), fronts_longer xss ys more f.1)

pub fronts_both : {I : Type 0} (xss yss : List (List I)) (log : List I) → AreFronts xss log → AreFronts yss log → AreFronts (xss ++ yss) log
fronts_both [] yss log f g = g
fronts_both (xs ∷ xss) yss log f g = (f.0, fronts_both xss yss log f.1 g)

module _ {I : Type 0} (opens takes : I → Option ℕ) where
  pub untouched_append : (mine : List ℕ) (xs ys : List I) → Untouched opens takes mine xs → Untouched opens takes mine ys → Untouched opens takes mine (xs ++ ys)
  untouched_append mine xs ys a b n h = (
    (λ k. ⊎_elim (a n h).0 (b n h).0 (among_append n (numbers opens xs) (numbers opens ys) (subst (Among n) (numbers_append opens xs ys) k))),
    (λ k. ⊎_elim (a n h).1 (b n h).1 (among_append n (numbers takes xs) (numbers takes ys) (subst (Among n) (numbers_append takes xs ys) k))),
  )

  pub extends_more : (mine : List ℕ) (xs ys rest : List I) → Extends opens takes mine xs ys → Untouched opens takes mine rest → Extends opens takes mine xs (ys ++ rest)
  extends_more mine xs ys rest e b = (e.0 ++ rest, ap (λ (l : List I). l ++ rest) e.1 ∙ append_assoc xs e.0 rest, untouched_append mine e.0 rest e.2 b)

  -- of two who have seen parts of one list, the numbers of the one are untouched behind what the other has seen, if that is no less
  pub untouched_longer : (mine : List ℕ) (xs ys log : List I) → Extends opens takes mine xs log → (t : List I) → log ≡ ys ++ t → length xs ≤ length ys → (ys' : (d : List I) × (ys ≡ xs ++ d)) × Untouched opens takes mine t
  untouched_longer mine xs ys log e t is le = let b = beginnings xs ys e.0 t (sym e.1 ∙ is) le in (
    (b.0, b.1),
    λ n h. let u = subst (Untouched opens takes mine) b.2 e.2 in (
      (λ a. (u n h).0 (subst (Among n) (sym (numbers_append opens b.0 t)) (among_right n (numbers opens b.0) (numbers opens t) a))),
      (λ a. (u n h).1 (subst (Among n) (sym (numbers_append takes b.0 t)) (among_right n (numbers takes b.0) (numbers takes t) a))),
    ),
  )
