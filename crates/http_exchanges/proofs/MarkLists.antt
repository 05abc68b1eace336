-- Lists of marks, one behind another.
use Rattle.std.proofs.Common.{◌≡◌, ℕ, inl, inr, List, [], ◌∷◌, ◌++◌, length, ◌≤◌, refl, sym, ap, ◌∙◌, subst, arith, append_assoc, append-nil, Option, Some, None, Result, Ok, Err}
use Rattle.std.specs.Prelude.{MatchResult, IfOk, OnErr}
use Rattle.cat_model.specs.declared.memory.Memory.{Memory}
use Rattle.cat_model.specs.declared.reply.Mark.{Mark}
use Rattle.turn_lock.specs.Lists.{numbers}
use Rattle.turn_lock.proofs.Lists.{numbers_append}
use Rattle.http_exchanges.specs.declared.cluster.Ask.{Ask}
use Rattle.http_exchanges.specs.Marks.{AddsAsked, AddsCut, AddsQuiet, asked_mark, opens, takes}
use Rattle.cluster_rules.specs.Sound.{IsAmong}
use Rattle.http_exchanges.specs.Turns.{FallsShort, Makes}

pub none_append : {I : Type 0} → (f : I → Option ℕ) (xs ys : List I) → numbers f xs ≡ [] → numbers f (xs ++ ys) ≡ numbers f ys
none_append f xs ys e = numbers_append f xs ys ∙ ap (λ (l : List ℕ). l ++ numbers f ys) e

pub append_none : {I : Type 0} → (f : I → Option ℕ) (xs ys : List I) → numbers f ys ≡ [] → numbers f (xs ++ ys) ≡ numbers f xs
append_none f xs ys e = numbers_append f xs ys ∙ (ap (λ (l : List ℕ). numbers f xs ++ l) e ∙ append-nil (numbers f xs))

pub in_left : {A : Type 0} → (x : A) (xs ys : List A) → IsAmong x xs → IsAmong x (xs ++ ys)
in_left x [] ys a = absurd a
in_left x (y ∷ xs) ys (inl e) = inl e
in_left x (y ∷ xs) ys (inr a) = inr (in_left x xs ys a)

pub in_right : {A : Type 0} → (x : A) (xs ys : List A) → IsAmong x ys → IsAmong x (xs ++ ys)
in_right x [] ys a = a
in_right x (y ∷ xs) ys a = inr (in_right x xs ys a)

pub quiet_none : (old : List Mark) → AddsQuiet old old
quiet_none old = record { rest = []; are = sym (append-nil old); opens_none = refl; takes_none = refl }

pub joined : (a b c xs ys : List Mark) → b ≡ a ++ xs → c ≡ b ++ ys → c ≡ a ++ (xs ++ ys)
joined a b c xs ys e f = f ∙ (ap (λ (l : List Mark). l ++ ys) e ∙ append_assoc a xs ys)

pub quiet_quiet : (a b c : List Mark) → AddsQuiet a b → AddsQuiet b c → AddsQuiet a c
quiet_quiet a b c x y = record {
  rest = x.rest ++ y.rest;
  are = joined a b c x.rest y.rest x.are y.are;
  opens_none = none_append opens x.rest y.rest x.opens_none ∙ y.opens_none;
  takes_none = none_append takes x.rest y.rest x.takes_none ∙ y.takes_none;
}

pub quiet_asked : (n : ℕ) (ask : Ask) (a b c : List Mark) → AddsQuiet a b → AddsAsked n ask b c → AddsAsked n ask a c
quiet_asked n ask a b c x w = record {
  rest = x.rest ++ w.rest;
  are = joined a b c x.rest w.rest x.are w.are;
  opens_it = none_append opens x.rest w.rest x.opens_none ∙ w.opens_it;
  takes_none = none_append takes x.rest w.rest x.takes_none ∙ w.takes_none;
  asked = in_right (asked_mark n ask) x.rest w.rest w.asked;
}

pub asked_quiet : (n : ℕ) (ask : Ask) (a b c : List Mark) → AddsAsked n ask a b → AddsQuiet b c → AddsAsked n ask a c
asked_quiet n ask a b c w y = record {
  rest = w.rest ++ y.rest;
  are = joined a b c w.rest y.rest w.are y.are;
  opens_it = append_none opens w.rest y.rest y.opens_none ∙ w.opens_it;
  takes_none = append_none takes w.rest y.rest y.takes_none ∙ w.takes_none;
  asked = in_left (asked_mark n ask) w.rest y.rest w.asked;
}

pub quiet_makes : (ask : Option Ask) (number n : ℕ) (a b c : List Mark) → AddsQuiet a b → Makes ask number n b c → Makes ask number n a c
quiet_makes None number n a b c q m = (m.0, quiet_quiet a b c q m.1)
quiet_makes (Some ask) number n a b c q m = quiet_asked n ask a b c q m

pub makes_quiet : (ask : Option Ask) (number n : ℕ) (a b c : List Mark) → Makes ask number n a b → AddsQuiet b c → Makes ask number n a c
makes_quiet None number n a b c m q = (m.0, quiet_quiet a b c m.1 q)
makes_quiet (Some ask) number n a b c m q = asked_quiet n ask a b c m q

-- a list is no longer than one that it equals
pub few_as : (xs ys : List ℕ) → xs ≡ ys → length ys ≤ 1 → length xs ≤ 1
few_as xs ys e f = subst (λ (l : List ℕ). length l ≤ 1) (sym e) f

pub quiet_cut : (a b : List Mark) → AddsQuiet a b → AddsCut a b
quiet_cut a b x = record { rest = x.rest; are = x.are; opens_few = few_as (numbers opens x.rest) [] x.opens_none (omega arith); takes_none = x.takes_none }

cut_behind : (a b c : List Mark) → AddsQuiet a b → AddsCut b c → AddsCut a c
cut_behind a b c q y = record {
  rest = q.rest ++ y.rest;
  are = joined a b c q.rest y.rest q.are y.are;
  opens_few = few_as (numbers opens (q.rest ++ y.rest)) (numbers opens y.rest) (none_append opens q.rest y.rest q.opens_none) y.opens_few;
  takes_none = none_append takes q.rest y.rest q.takes_none ∙ y.takes_none;
}

cut_before : (a b c : List Mark) → AddsCut a b → AddsQuiet b c → AddsCut a c
cut_before a b c x q = record {
  rest = x.rest ++ q.rest;
  are = joined a b c x.rest q.rest x.are q.are;
  opens_few = few_as (numbers opens (x.rest ++ q.rest)) (numbers opens x.rest) (append_none opens x.rest q.rest q.opens_none) x.opens_few;
  takes_none = append_none takes x.rest q.rest q.takes_none ∙ x.takes_none;
}

-- memory that ran out, behind what was made, or beside what is quiet
pub makes_short : (ask : Option Ask) (number n : ℕ) (a b : List Mark) → Makes ask number n a b → FallsShort ask a b
makes_short None number n a b m = m.1
makes_short (Some ask) number n a b m = record { rest = m.rest; are = m.are; opens_few = few_as (numbers opens m.rest) (n ∷ []) m.opens_it (omega arith); takes_none = m.takes_none }

pub quiet_short : (ask : Option Ask) (a b : List Mark) → AddsQuiet a b → FallsShort ask a b
quiet_short None a b q = q
quiet_short (Some ask) a b q = quiet_cut a b q

pub short_behind : (ask : Option Ask) (a b c : List Mark) → AddsQuiet a b → FallsShort ask b c → FallsShort ask a c
short_behind None a b c q x = quiet_quiet a b c q x
short_behind (Some ask) a b c q x = cut_behind a b c q x

pub short_before : (ask : Option Ask) (a b c : List Mark) → FallsShort ask a b → AddsQuiet b c → FallsShort ask a c
short_before None a b c x q = quiet_quiet a b c x q
short_before (Some ask) a b c x q = cut_before a b c x q

pub asks : (r : Result ℕ Memory) (ask : Ask) (number : ℕ) (a b : List Mark) → IfOk r (λ n. AddsAsked n ask a b) → OnErr r (AddsCut a b)
    → MatchResult r (λ n. Makes (Some ask) number n a b) (λ _. FallsShort (Some ask) a b)
asks (Ok n) ask number a b i o = i
asks (Err e) ask number a b i o = o
