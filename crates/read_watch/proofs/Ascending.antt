-- Ascending numbers, where one is added or taken out.
use Rattle.std.proofs.Common.{◌≡◌, ◌≢◌, ℕ, zero, suc, ◌<◌, ◌≤◌, ◌⊎◌, inl, inr, Bool, true, false, cond, not, List, [], ◌∷◌, ◌++◌, length, get_or, take, drop, filter, refl, sym, ◌∙◌, ap, subst, arith, Contains, nat_eq}
use Rattle.std.specs.List.{AllByRecursion, insert}
use Rattle.std.proofs.lemmas.Bool.{eq-eqb}
use Rattle.std.proofs.lemmas.Bool.Decides.{nat_tests}
use Rattle.std.proofs.lemmas.List.{take-append-drop}
use Rattle.std.proofs.lemmas.List.Elements.{Contains-append_cases, Contains-append_left, Contains-append_right}
use Rattle.std.specs.List.Sorted.{IsNonDecreasingBy}
use Rattle.read_watch.specs.Watch.{Rises, without}

-- where the first number stands that is not below this one
pub record Place (number : ℕ) (ns : List ℕ) (at : ℕ) : Type 0 where
  pub within : at ≤ length ns
  pub below : (k d : ℕ) → k < at → get_or ns k d < number
  pub above : (k d : ℕ) → at ≤ k → k < length ns → number ≤ get_or ns k d

-- the number does not stand there
abbrev pub Absent : ℕ → List ℕ → ℕ → Type 0
Absent number ns at = (d : ℕ) → at < length ns → get_or ns at d ≢ number

place_behind : (number n : ℕ) (ns : List ℕ) (at : ℕ) → Place number (n ∷ ns) (suc at) → Place number ns at
place_behind number n ns at p = record {
  within = omega (arith, p.within);
  below = λ k d l. p.below (suc k) d (omega arith);
  above = λ k d l m. p.above (suc k) d (omega arith) (omega arith);
}

each_of : (P Q : ℕ → Type 0) → ((n : ℕ) → P n → Q n) → (ns : List ℕ) → AllByRecursion P ns → AllByRecursion Q ns
each_of P Q f [] a = tt
each_of P Q f (n ∷ ns) a = (f n a.0, each_of P Q f ns a.1)

each_at : (P : ℕ → Type 0) (ns : List ℕ) (k d : ℕ) → AllByRecursion P ns → k < length ns → P (get_or ns k d)
each_at P [] k d a l = absurd (omega arith)
each_at P (n ∷ ns) zero d a l = a.0
each_at P (n ∷ ns) (suc k) d a l = each_at P ns k d a.1 (omega arith)

each_more : (P : ℕ → Type 0) (ns : List ℕ) (at n : ℕ) → AllByRecursion P ns → P n → AllByRecursion P (take at ns ++ n ∷ drop at ns)
each_more P ns zero n a p = (p, a)
each_more P [] (suc at) n a p = (p, tt)
each_more P (m ∷ ns) (suc at) n a p = (a.0, each_more P ns at n a.1 p)

each_kept : (b : Bool) (P : ℕ → Type 0) (n : ℕ) (ns : List ℕ) → P n → AllByRecursion P ns → AllByRecursion P (cond b (n ∷ ns) ns)
each_kept true P n ns p a = (p, a)
each_kept false P n ns p a = a

each_filter : (P : ℕ → Type 0) (test : ℕ → Bool) (ns : List ℕ) → AllByRecursion P ns → AllByRecursion P (filter test ns)
each_filter P test [] a = tt
each_filter P test (n ∷ ns) a = each_kept (test n) P n (filter test ns) a.0 (each_filter P test ns a.1)

-- in order, as `partition_point` asks
pub in_order : (ns : List ℕ) → Rises ns → IsNonDecreasingBy (λ n. n) ns
in_order [] a i j d below l = absurd (omega arith)
in_order (n ∷ ns) a zero zero d below l = omega arith
in_order (n ∷ ns) a zero (suc j) d below l = let first = each_at (λ m. n < m) ns j d a.0 (omega arith) in omega (arith, first)
in_order (n ∷ ns) a (suc i) zero d below l = absurd (omega arith)
in_order (n ∷ ns) a (suc i) (suc j) d below l = in_order ns a.1 i j d (omega arith) (omega arith)

-- one more stands at its place
pub rises_more : (number : ℕ) (ns : List ℕ) (at : ℕ) → Rises ns → Place number ns at → Absent number ns at → Rises (take at ns ++ number ∷ drop at ns)
rises_more number [] zero a p none = (tt, tt)
rises_more number [] (suc at) a p none = absurd (omega (arith, p.within))
rises_more number (n ∷ ns) zero a p none =
    let least = p.above zero 0 (omega arith) (omega arith) in
    let other : n ≢ number = none 0 (omega arith) in
    let low : number < n = omega arith in
    ((low, each_of (λ m. n < m) (λ m. number < m) (λ m h. omega (arith, h, low)) ns a.0), a)
rises_more number (n ∷ ns) (suc at) a p none =
    (each_more (λ m. n < m) ns at number a.0 (p.below zero 0 (omega arith)), rises_more number ns at a.1 (place_behind number n ns at p) (λ d l. none d (omega arith)))

rises_kept : (b : Bool) (n : ℕ) (ns : List ℕ) → AllByRecursion (λ m. n < m) ns → Rises ns → Rises (cond b (n ∷ ns) ns)
rises_kept true n ns p a = (p, a)
rises_kept false n ns p a = a

pub rises_without : (number : ℕ) (ns : List ℕ) → Rises ns → Rises (without number ns)
rises_without number [] a = tt
rises_without number (n ∷ ns) a = rises_kept (not (nat_eq n number)) n (without number ns) (each_filter (λ m. n < m) (λ m. not (nat_eq m number)) ns a.0) (rises_without number ns a.1)

differs : (a b : ℕ) → a ≢ b → nat_eq a b ≡ false
differs a b e = grind (arith, nat_tests)

stays : (b : Bool) (n : ℕ) (ns : List ℕ) → b ≡ false → n ∷ ns ≡ cond (not b) (n ∷ ns) ns
stays true n ns e = absurd cc
stays false n ns e = refl

goes : (b : Bool) (n : ℕ) (ns : List ℕ) → b ≡ true → ns ≡ cond (not b) (n ∷ ns) ns
goes true n ns e = refl
goes false n ns e = absurd cc

-- of greater numbers none is taken out
all_stay : (number : ℕ) (ns : List ℕ) → AllByRecursion (λ m. number < m) ns → ns ≡ without number ns
all_stay number [] a = refl
all_stay number (n ∷ ns) a = ap (λ l. n ∷ l) (all_stay number ns a.1) ∙ stays (nat_eq n number) n (without number ns) (differs n number (λ e. omega (arith, e, a.0)))

-- the number is taken out of its place
pub taken_out : (number : ℕ) (ns : List ℕ) (at : ℕ) → Rises ns → Place number ns at → at < length ns → ((d : ℕ) → get_or ns at d ≡ number) → take at ns ++ drop (suc at) ns ≡ without number ns
taken_out number [] at a p l there = absurd (omega arith)
taken_out number (n ∷ ns) zero a p l there =
    let is : n ≡ number = there 0 in
    all_stay number ns (each_of (λ m. n < m) (λ m. number < m) (λ m h. omega (arith, h, is)) ns a.0) ∙ goes (nat_eq n number) n (without number ns) (eq-eqb n number is)
taken_out number (n ∷ ns) (suc at) a p l there =
    ap (λ l. n ∷ l) (taken_out number ns at a.1 (place_behind number n ns at p) (omega arith) there) ∙ stays (nat_eq n number) n (without number ns) (differs n number (λ e. let low = p.below zero 0 (omega arith) in omega (arith, e, low)))

-- the number is not among them
pub not_there : (number : ℕ) (ns : List ℕ) (at : ℕ) → Rises ns → Place number ns at → Absent number ns at → ns ≡ without number ns
not_there number [] at a p none = refl
not_there number (n ∷ ns) zero a p none =
    let least = p.above zero 0 (omega arith) (omega arith) in
    let other : n ≢ number = none 0 (omega arith) in
    let low : number < n = omega arith in
    all_stay number (n ∷ ns) (low, each_of (λ m. n < m) (λ m. number < m) (λ m h. omega (arith, h, low)) ns a.0)
not_there number (n ∷ ns) (suc at) a p none =
    ap (λ l. n ∷ l) (not_there number ns at a.1 (place_behind number n ns at p) (λ d l. none d (omega arith))) ∙ stays (nat_eq n number) n (without number ns) (differs n number (λ e. let low = p.below zero 0 (omega arith) in omega (arith, e, low)))

-- who is among them, where one more stands at a place
module _ (number : ℕ) (ns : List ℕ) (at : ℕ) where
  pub more_there : Contains (take at ns ++ number ∷ drop at ns) number
  more_there = Contains-append_right (take at ns) (number ∷ drop at ns) number (zero, omega arith, refl)

  pub more_alone : (n : ℕ) → Contains (take at ns ++ number ∷ drop at ns) n → Contains ns n ⊎ (n ≡ number)
  more_alone n h = go (Contains-append_cases (take at ns) (number ∷ drop at ns) n h)
    where
      whole : take at ns ++ drop at ns ≡ ns
      whole = take-append-drop at ns

      go : Contains (take at ns) n ⊎ Contains (number ∷ drop at ns) n → Contains ns n ⊎ (n ≡ number)
      go (inl c) = inl (subst (λ l. Contains l n) whole (Contains-append_left (take at ns) (drop at ns) n c))
      go (inr (zero, l, e)) = inr (sym e)
      go (inr (suc k, l, e)) = inl (subst (λ l. Contains l n) whole (Contains-append_right (take at ns) (drop at ns) n (k, omega (arith, l), e)))

  pub more_kept : (n : ℕ) → Contains ns n → Contains (take at ns ++ number ∷ drop at ns) n
  more_kept n h = go (Contains-append_cases (take at ns) (drop at ns) n (subst (λ l. Contains l n) (sym (take-append-drop at ns)) h))
    where
      go : Contains (take at ns) n ⊎ Contains (drop at ns) n → Contains (take at ns ++ number ∷ drop at ns) n
      go (inl c) = Contains-append_left (take at ns) (number ∷ drop at ns) n c
      go (inr c) = Contains-append_right (take at ns) (number ∷ drop at ns) n (suc c.0, omega (arith, c.1), c.2)

-- where one more was tried, for which there may be no memory
module _ (b : Bool) (number : ℕ) (ns ms : List ℕ) (at : ℕ) (is : ms ≡ cond b (insert ns at number) ns) where
  pub rises_tried : Rises ns → Place number ns at → Absent number ns at → Rises ms
  rises_tried a p none = subst Rises (sym is) (go b)
    where
      go : (t : Bool) → Rises (cond t (take at ns ++ number ∷ drop at ns) ns)
      go true = rises_more number ns at a p none
      go false = a

  pub kept_tried : (n : ℕ) → Contains ns n → Contains ms n
  kept_tried n h = subst (λ l. Contains l n) (sym is) (go b)
    where
      go : (t : Bool) → Contains (cond t (take at ns ++ number ∷ drop at ns) ns) n
      go true = more_kept number ns at n h
      go false = h

  pub alone_tried : (n : ℕ) → Contains ms n → Contains ns n ⊎ (n ≡ number)
  alone_tried n h = go b (subst (λ l. Contains l n) is h)
    where
      go : (t : Bool) → Contains (cond t (take at ns ++ number ∷ drop at ns) ns) n → Contains ns n ⊎ (n ≡ number)
      go true c = more_alone number ns at n c
      go false c = inl c
