-- The outs of an event keep their order.
use Rattle.std.proofs.Common.{◌≡◌, ℕ, zero, suc, ◌+◌, ◌<◌, ◌≤◌, ◌++◌, Bool, true, false, not, cond, List, [], ◌∷◌, length, get_or, Option, Some, None, refl, arith}
use Rattle.std.specs.List.{AllByRecursion as Each, position_or_len}
use Rattle.std.specs.List.Sorted.{IsPartitionedBy}
use Rattle.std.proofs.lemmas.Bool.Decides.{nat_tests}
use Rattle.cluster_rules.specs.Replies.{Out, number_of}
use Rattle.cluster_rules.specs.Due.{is_before, put_out}
use Rattle.cluster_requests.specs.Ordered.{IsOrdered}

-- what is before the first of two in order is before the second
before_both : (a b c : Option ℕ) → is_before a b ≡ true → is_before c b ≡ false → is_before a c ≡ true
before_both None b c h k = absurd cc
before_both (Some a) None None h k = refl
before_both (Some a) None (Some c) h k = absurd cc
before_both (Some a) (Some b) None h k = refl
before_both (Some a) (Some b) (Some c) h k = grind (arith, nat_tests)

-- of two numbers one is not before the other
not_both : (a b : Option ℕ) → is_before a b ≡ true → is_before b a ≡ false
not_both None b h = absurd cc
not_both (Some a) None h = refl
not_both (Some a) (Some b) h = grind (arith, nat_tests)

each_at : (P : Out → Type 0) (os : List Out) (k : ℕ) (d : Out) → Each P os → k < length os → P (get_or os k d)
each_at P [] k d a l = absurd (omega arith)
each_at P (o ∷ os) zero d a l = a.0
each_at P (o ∷ os) (suc k) d a l = each_at P os k d a.1 (omega arith)

each_of : (P Q : Out → Type 0) (f : (o : Out) → P o → Q o) (os : List Out) → Each P os → Each Q os
each_of P Q f [] a = tt
each_of P Q f (o ∷ os) a = (f o a.0, each_of P Q f os a.1)

-- it is not to stand behind one of this number
abbrev pub stands_first : Option ℕ → Out → Bool
stands_first number o = not (is_before number (number_of o))

is_not : (b : Bool) → not b ≡ true → b ≡ false
is_not true h = absurd cc
is_not false h = refl

is_so : (b : Bool) → not b ≡ false → b ≡ true
is_so true h = refl
is_so false h = absurd cc

so_not : (b : Bool) → b ≡ false → not b ≡ true
so_not true h = absurd cc
so_not false h = refl

first_stands : (b : Bool) (number : Option ℕ) (o p : Out) → is_before number (number_of o) ≡ b → is_before (number_of p) (number_of o) ≡ false → not (is_before number (number_of p)) ≡ true → not b ≡ true
first_stands true number o p e order h =
    let later = before_both number (number_of o) (number_of p) e order in
    let stands = is_not (is_before number (number_of p)) h in
    absurd cc
first_stands false number o p e order h = refl

pub parted_outs : (number : Option ℕ) (os : List Out) → IsOrdered os → IsPartitionedBy (stands_first number) os
parted_outs number [] a i j d below l t = absurd (omega arith)
parted_outs number (o ∷ os) a zero zero d below l t = t
parted_outs number (o ∷ os) a zero (suc j) d below l t =
    let order = each_at (λ (p : Out). is_before (number_of p) (number_of o) ≡ false) os j d a.0 (omega arith) in
    first_stands (is_before number (number_of o)) number o (get_or os j d) refl order t
parted_outs number (o ∷ os) a (suc i) zero d below l t = absurd (omega arith)
parted_outs number (o ∷ os) a (suc i) (suc j) d below l t = parted_outs number os a.1 i j d (omega arith) (omega arith) t

-- the partition point is the place
place_step : (b : Bool) (n k : ℕ) → b ≡ false → k ≡ n → suc k ≡ cond (not b) (1 + n) 0
place_step true n k e h = absurd cc
place_step false n k e h = omega arith

place_here : (b : Bool) (n : ℕ) → b ≡ true → 0 ≡ cond (not b) (1 + n) 0
place_here true n e = refl
place_here false n e = absurd cc

pub point_is : (number : Option ℕ) (os : List Out) (k : ℕ) → k ≤ length os →
    ((i : ℕ) (d : Out) → i < k → i < length os → stands_first number (get_or os i d) ≡ true) →
    ((i : ℕ) (d : Out) → k ≤ i → i < length os → stands_first number (get_or os i d) ≡ false) →
    k ≡ position_or_len (λ (o : Out). is_before number (number_of o)) os
point_is number [] zero l f g = refl
point_is number [] (suc k) l f g = absurd (omega arith)
point_is number (o ∷ os) zero l f g = place_here (is_before number (number_of o)) _ (is_so (is_before number (number_of o)) (g zero o (omega arith) (omega arith)))
point_is number (o ∷ os) (suc k) l f g =
    place_step (is_before number (number_of o)) _ k (is_not (is_before number (number_of o)) (f zero o (omega arith) (omega arith)))
    (point_is number os k (omega arith) (λ i d below within. f (suc i) d (omega arith) (omega arith)) (λ i d from within. g (suc i) d (omega arith) (omega arith)))

-- an out more in its place
each_put_step : (b : Bool) (P : Out → Type 0) (out o : Out) (os rest : List Out) → P out → P o → Each P os → Each P rest → Each P (cond b (out ∷ o ∷ os) (o ∷ rest))
each_put_step true P out o os rest p q a r = (p, (q, a))
each_put_step false P out o os rest p q a r = (q, r)

each_put : (P : Out → Type 0) (out : Out) (os : List Out) → P out → Each P os → Each P (put_out out os)
each_put P out [] p a = (p, tt)
each_put P out (o ∷ os) p a = each_put_step (is_before (number_of out) (number_of o)) P out o os (put_out out os) p a.0 a.1 (each_put P out os p a.1)

after : (out o p : Out) → is_before (number_of out) (number_of o) ≡ true → is_before (number_of p) (number_of o) ≡ false → is_before (number_of p) (number_of out) ≡ false
after out o p e h = not_both (number_of out) (number_of p) (before_both (number_of out) (number_of o) (number_of p) e h)

put_step : (b : Bool) (out o : Out) (os : List Out) → is_before (number_of out) (number_of o) ≡ b → IsOrdered (o ∷ os) → IsOrdered (put_out out os) → IsOrdered (cond b (out ∷ o ∷ os) (o ∷ put_out out os))
put_step true out o os e a r = (
  (
    not_both (number_of out) (number_of o) e,
    each_of (λ (p : Out). is_before (number_of p) (number_of o) ≡ false) (λ (p : Out). is_before (number_of p) (number_of out) ≡ false) (λ p h. after out o p e h) os a.0,
  ),
  a,
)
put_step false out o os e a r = (each_put (λ (p : Out). is_before (number_of p) (number_of o) ≡ false) out os e a.0, r)

pub put_ordered : (out : Out) (os : List Out) → IsOrdered os → IsOrdered (put_out out os)
put_ordered out [] a = (tt, tt)
put_ordered out (o ∷ os) a = put_step (is_before (number_of out) (number_of o)) out o os refl a (put_ordered out os a.1)

-- those before the last one
each_front : (P : Out → Type 0) (os ps : List Out) → Each P (os ++ ps) → Each P os
each_front P [] ps a = tt
each_front P (o ∷ os) ps a = (a.0, each_front P os ps a.1)

pub front_ordered : (os ps : List Out) → IsOrdered (os ++ ps) → IsOrdered os
front_ordered [] ps a = tt
front_ordered (o ∷ os) ps a = (each_front (λ (p : Out). is_before (number_of p) (number_of o) ≡ false) os ps a.0, front_ordered os ps a.1)
