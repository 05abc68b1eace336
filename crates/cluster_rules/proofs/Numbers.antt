-- Numbers in the marks of a cluster whose books hold.
use Rattle.std.proofs.Common.{◌≡◌, ℕ, suc, ◌+◌, ◌<◌, ◌≤◌, ◌⊎◌, inl, inr, ⊎_elim, Bool, true, false, List, [], ◌∷◌, ◌++◌, refl, sym, ◌∙◌, ap, subst, arith, append_assoc}
use Rattle.std.specs.Prelude.{◌==◌, nat_lt, nat_le, ◌&&◌}
use Rattle.std.specs.List.{AllByRecursion as Each}
use Rattle.std.proofs.lemmas.Bool.Decides.{nat_tests}
use Rattle.cat_model.specs.declared.request.Event.{Event}
use Rattle.cat_model.specs.declared.request.Event.TheVariants as event
use Rattle.cat_model.specs.declared.reply.Mark.{Mark}
use Rattle.cat_model.specs.declared.reply.Mark.TheVariants as mark
use Rattle.cluster_rules.specs.Cluster.{Cluster}
use Rattle.cluster_rules.specs.Step.{ClusterStep}
use Rattle.cluster_rules.specs.Reached.{moves_of, Settling, none, pair, Making, no_more, one}
use Rattle.cluster_rules.specs.Sound.{IsOpen, asked_in, one_if, taken_times}
use Rattle.cluster_rules.specs.Booked.{Booked, IsNumbered}
use Rattle.cluster_rules.specs.Past.{AddsQuiet, AsksNothing, Among, AreKept, EachOnce, event_mark, answered_of, asked_of, taken_of}
use Rattle.cluster_rules.proofs.Adding.{step_adds}

-- the numbers that were asked are those up to their count
pub asked_low : (past : List Mark) → IsNumbered past → (n : ℕ) → Among n (asked_of past) → (0 < n) × (n ≤ asked_in past)
asked_low [] s n a = absurd a
asked_low (mark.Asked number agent asked draw ∷ past) s n (inl e) = let f = s.0 in (omega (arith, e, f), omega (arith, e, f))
asked_low (mark.Asked number agent asked draw ∷ past) s n (inr a) = let i = asked_low past s.1 n a in (i.0, omega (arith, i.1))
asked_low (mark.Answered number kind known contact ∷ past) s n a = asked_low past s.1 n a
asked_low (mark.Made made ∷ past) s n a = asked_low past s n a
asked_low (mark.Advanced ms made ∷ past) s n a = asked_low past s n a
asked_low (mark.Settled pairs whole ∷ past) s n a = asked_low past s n a
asked_low (mark.Halted server ∷ past) s n a = asked_low past s n a
asked_low (mark.Entry entry ∷ past) s n a = asked_low past s n a
asked_low (mark.Taken number ∷ past) s n a = asked_low past s n a

pub asked_once : (past : List Mark) → IsNumbered past → EachOnce (asked_of past)
asked_once [] s = tt
asked_once (mark.Asked number agent asked draw ∷ past) s = (λ a. let l = (asked_low past s.1 number a).1 in let f = s.0 in absurd (omega (arith, l, f)), asked_once past s.1)
asked_once (mark.Answered number kind known contact ∷ past) s = asked_once past s.1
asked_once (mark.Made made ∷ past) s = asked_once past s
asked_once (mark.Advanced ms made ∷ past) s = asked_once past s
asked_once (mark.Settled pairs whole ∷ past) s = asked_once past s
asked_once (mark.Halted server ∷ past) s = asked_once past s
asked_once (mark.Entry entry ∷ past) s = asked_once past s
asked_once (mark.Taken number ∷ past) s = asked_once past s

last_or : (n number count : ℕ) (rest : List ℕ) → 0 < n → n ≤ suc count → number ≡ suc count → (b : Bool) → (n == number) ≡ b → (n ≤ count → Among n rest) → (number ≡ n) ⊎ Among n rest
last_or n number count rest l k e true t f = inl (grind (arith, nat_tests, t))
last_or n number count rest l k e false t f = inr (f (grind (arith, nat_tests, t, e, k)))

all_asked : (past : List Mark) → IsNumbered past → (n : ℕ) → 0 < n → n ≤ asked_in past → Among n (asked_of past)
all_asked [] s n l k = absurd (omega (arith, l, k))
all_asked (mark.Asked number agent asked draw ∷ past) s n l k = last_or n number (asked_in past) (asked_of past) l k s.0 (n == number) refl (all_asked past s.1 n l)
all_asked (mark.Answered number kind known contact ∷ past) s n l k = all_asked past s.1 n l k
all_asked (mark.Made made ∷ past) s n l k = all_asked past s n l k
all_asked (mark.Advanced ms made ∷ past) s n l k = all_asked past s n l k
all_asked (mark.Settled pairs whole ∷ past) s n l k = all_asked past s n l k
all_asked (mark.Halted server ∷ past) s n l k = all_asked past s n l k
all_asked (mark.Entry entry ∷ past) s n l k = all_asked past s n l k
all_asked (mark.Taken number ∷ past) s n l k = all_asked past s n l k

open_not : (n : ℕ) (past : List Mark) → IsOpen n past → Among n (answered_of past) → ⊥
open_not n [] o a = a
open_not n (mark.Answered number kind known contact ∷ past) o (inl e) = o.0 e
open_not n (mark.Answered number kind known contact ∷ past) o (inr a) = open_not n past o.1 a
open_not n (mark.Asked number agent asked draw ∷ past) o a = open_not n past o a
open_not n (mark.Made made ∷ past) o a = open_not n past o a
open_not n (mark.Advanced ms made ∷ past) o a = open_not n past o a
open_not n (mark.Settled pairs whole ∷ past) o a = open_not n past o a
open_not n (mark.Halted server ∷ past) o a = open_not n past o a
open_not n (mark.Entry entry ∷ past) o a = open_not n past o a
open_not n (mark.Taken number ∷ past) o a = open_not n past o a

answered_once : (past : List Mark) → IsNumbered past → EachOnce (answered_of past)
answered_once [] s = tt
answered_once (mark.Answered number kind known contact ∷ past) s = (open_not number past s.0.1, answered_once past s.1)
answered_once (mark.Asked number agent asked draw ∷ past) s = answered_once past s.1
answered_once (mark.Made made ∷ past) s = answered_once past s
answered_once (mark.Advanced ms made ∷ past) s = answered_once past s
answered_once (mark.Settled pairs whole ∷ past) s = answered_once past s
answered_once (mark.Halted server ∷ past) s = answered_once past s
answered_once (mark.Entry entry ∷ past) s = answered_once past s
answered_once (mark.Taken number ∷ past) s = answered_once past s

pub one_true : (n : ℕ) → one_if (n == n) ≡ 1
one_true n = let t : (n == n) ≡ true = grind (arith, nat_tests) in ap one_if t

taken_some : (n : ℕ) (past : List Mark) → Among n (taken_of past) → 0 < taken_times n past
taken_some n [] a = absurd a
taken_some n (mark.Taken number ∷ past) (inl e) = let t = one_true n in subst (λ (z : ℕ). 0 < one_if (z == n) + taken_times n past) (sym e) (omega (arith, t))
taken_some n (mark.Taken number ∷ past) (inr a) = let i = taken_some n past a in omega (arith, i)
taken_some n (mark.Asked number agent asked draw ∷ past) a = taken_some n past a
taken_some n (mark.Answered number kind known contact ∷ past) a = taken_some n past a
taken_some n (mark.Made made ∷ past) a = taken_some n past a
taken_some n (mark.Advanced ms made ∷ past) a = taken_some n past a
taken_some n (mark.Settled pairs whole ∷ past) a = taken_some n past a
taken_some n (mark.Halted server ∷ past) a = taken_some n past a
taken_some n (mark.Entry entry ∷ past) a = taken_some n past a

pub counted : (n asked : ℕ) → 0 < one_if (nat_lt 0 n && nat_le n asked) → (0 < n) × (n ≤ asked)
counted n asked l = grind (arith, nat_tests, l)

-- whatever the stores held
pub booked_kept : (c : Cluster) → Booked c → AreKept c.past
booked_kept c s =
    let m = s.parts.marks in
    let e = s.parts.asked_is in record {
      once = asked_once c.past m;
      only = answered_once c.past m;
      taken = λ n a.
          let some = taken_some n c.past a in
          let whole = s.none_lost n in
          let k = counted n c.asked (omega (arith, some, whole)) in
          all_asked c.past m n k.0 (omega (arith, k.1, e));
    }

-- Deliveries and losses.
asked_append : (xs ys : List Mark) → asked_of xs ≡ [] → asked_of (xs ++ ys) ≡ asked_of ys
asked_append [] ys e = refl
asked_append (mark.Asked number agent asked draw ∷ xs) ys e = cc e
asked_append (mark.Answered number kind known contact ∷ xs) ys e = asked_append xs ys e
asked_append (mark.Made made ∷ xs) ys e = asked_append xs ys e
asked_append (mark.Advanced ms made ∷ xs) ys e = asked_append xs ys e
asked_append (mark.Settled pairs whole ∷ xs) ys e = asked_append xs ys e
asked_append (mark.Halted server ∷ xs) ys e = asked_append xs ys e
asked_append (mark.Entry entry ∷ xs) ys e = asked_append xs ys e
asked_append (mark.Taken number ∷ xs) ys e = asked_append xs ys e

taken_append : (xs ys : List Mark) → taken_of xs ≡ [] → taken_of (xs ++ ys) ≡ taken_of ys
taken_append [] ys e = refl
taken_append (mark.Taken number ∷ xs) ys e = cc e
taken_append (mark.Asked number agent asked draw ∷ xs) ys e = taken_append xs ys e
taken_append (mark.Answered number kind known contact ∷ xs) ys e = taken_append xs ys e
taken_append (mark.Made made ∷ xs) ys e = taken_append xs ys e
taken_append (mark.Advanced ms made ∷ xs) ys e = taken_append xs ys e
taken_append (mark.Settled pairs whole ∷ xs) ys e = taken_append xs ys e
taken_append (mark.Halted server ∷ xs) ys e = taken_append xs ys e
taken_append (mark.Entry entry ∷ xs) ys e = taken_append xs ys e

no_moves_quiet : (xs : List Mark) → moves_of xs ≡ [] → (asked_of xs ≡ []) × (taken_of xs ≡ [])
no_moves_quiet [] e = (refl, refl)
no_moves_quiet (mark.Asked number agent asked draw ∷ xs) e = cc e
no_moves_quiet (mark.Made made ∷ xs) e = cc e
no_moves_quiet (mark.Taken number ∷ xs) e = cc e
no_moves_quiet (mark.Settled pairs whole ∷ xs) e = cc e
no_moves_quiet (mark.Advanced ms made ∷ xs) e = cc e
no_moves_quiet (mark.Halted server ∷ xs) e = no_moves_quiet xs e
no_moves_quiet (mark.Entry entry ∷ xs) e = no_moves_quiet xs e
no_moves_quiet (mark.Answered number kind known contact ∷ xs) e = no_moves_quiet xs e

quiet_on : (a b c : List Mark) → AddsQuiet a b → AddsQuiet b c → AddsQuiet a c
quiet_on a b c x y = record {
  more = y.more ++ x.more;
  are = y.are ∙ (ap (λ (l : List Mark). y.more ++ l) x.are ∙ sym (append_assoc y.more x.more a));
  asked = asked_append y.more x.more y.asked ∙ x.asked;
  taken = taken_append y.more x.more y.taken ∙ x.taken;
}

-- an event whose mark asks nothing
event_quiet : (own : Mark) (more past past' : List Mark) → asked_of (own ∷ []) ≡ [] → taken_of (own ∷ []) ≡ [] → past' ≡ more ++ own ∷ past → moves_of more ≡ [] → AddsQuiet past past'
event_quiet own more past past' a t e q = let n = no_moves_quiet more q in record {
  more = more ++ own ∷ [];
  are = e ∙ sym (append_assoc more (own ∷ []) past);
  asked = asked_append more (own ∷ []) n.0 ∙ a;
  taken = taken_append more (own ∷ []) n.1 ∙ t;
}

-- the mark of an event that is no request's
mark_asks : (made : Event) (asked : ℕ) → AsksNothing made → asked_of (event_mark made asked ∷ []) ≡ []
mark_asks (event.Ask agent request draw) asked x = absurd x
mark_asks other asked x = refl

mark_takes : (made : Event) (asked : ℕ) → AsksNothing made → taken_of (event_mark made asked ∷ []) ≡ []
mark_takes (event.Ask agent request draw) asked x = absurd x
mark_takes other asked x = refl

step_quiet : (c c' : Cluster) (made : Event) (whole : Bool) → AsksNothing made → ClusterStep c made c' whole → AddsQuiet c.past c'.past
step_quiet c c' made whole x s = let a = step_adds c c' made whole s in
    event_quiet a.own a.more c.past c'.past
    (⊎_elim (λ (e : a.own ≡ event_mark made c.asked). ap (λ (z : Mark). asked_of (z ∷ [])) e ∙ mark_asks made c.asked x) (λ (e : a.own ≡ mark.Made made). ap (λ (z : Mark). asked_of (z ∷ [])) e) a.own_is)
    (⊎_elim (λ (e : a.own ≡ event_mark made c.asked). ap (λ (z : Mark). taken_of (z ∷ [])) e ∙ mark_takes made c.asked x) (λ (e : a.own ≡ mark.Made made). ap (λ (z : Mark). taken_of (z ∷ [])) e) a.own_is)
    a.are a.quiet

pub settling_adds : (n : ℕ) (c c' : Cluster) → Settling n c c' → AddsQuiet c.past c'.past
settling_adds n c c' none = record { more = []; are = refl; asked = refl; taken = refl }
settling_adds n c c' (pair {n = m} p c₁ c₂ low fits d fits' l more) =
    quiet_on c.past c₁.past c'.past (step_quiet c c₁ (event.Deliver p.number) true tt d) (quiet_on c₁.past c₂.past c'.past (step_quiet c₁ c₂ (event.Drop p.number) true tt l) (settling_adds m c₂ c' more))

pub making_adds : (events : List Event) (c c' : Cluster) → Each AsksNothing events → Making events c c' → AddsQuiet c.past c'.past
making_adds events c c' x no_more = record { more = []; are = refl; asked = refl; taken = refl }
making_adds (made ∷ events) c c' x (one made' c₁ fits s more) = quiet_on c.past c₁.past c'.past (step_quiet c c₁ made true x.0 s) (making_adds events c₁ c' x.1 more)
