-- Requests that are to be closed, found by their numbers.
use Rattle.std.proofs.Common.{◌≡◌, ◌∙◌, ℕ, zero, suc, ◌+◌, ◌<◌, ◌≤◌, ◌==◌, Bool, true, false, cond, Contains, List, [], ◌∷◌, drop, get_or, length, map, refl, sym, ap, arith}
use Rattle.raft_model.proofs.Tests.{at_bool, eq_tells}
use Rattle.cluster_rules.specs.Cluster.{Ended, Pending}
use Rattle.cluster_rules.specs.Step.{ended}
use Rattle.cluster_requests.specs.Held.{NumbersAll, ended_numbered}
use Rattle.cluster_requests.proofs.Slots.{passed, same, taken}

rest_of : (ns : List ℕ) (k : ℕ) → k < length ns → drop k ns ≡ get_or ns k 0 ∷ drop (suc k) ns
rest_of [] k l = absurd (omega arith)
rest_of (n ∷ ns) zero l = refl
rest_of (n ∷ ns) (suc k) l = rest_of ns k (omega arith)

none_of : (ns : List ℕ) (k : ℕ) → length ns ≤ k → drop k ns ≡ []
none_of [] zero l = refl
none_of [] (suc k) l = refl
none_of (n ∷ ns) zero l = absurd (omega arith)
none_of (n ∷ ns) (suc k) l = none_of ns k (omega arith)

module _ (i made : ℕ) where
  -- the request once those of each of these numbers are to be closed
  abbrev pub ended_each : List ℕ → Pending → Pending
  ended_each [] h = h
  ended_each (n ∷ ns) h = ended_each ns (ended_numbered n i made h)

  none_ended : (hs : List Pending) → map (ended_each []) hs ≡ hs
  none_ended [] = refl
  none_ended (h ∷ hs) = ap (λ l. h ∷ l) (none_ended hs)

  first_ended : (n : ℕ) (ns : List ℕ) (hs : List Pending) → map (ended_each ns) (map (ended_numbered n i made) hs) ≡ map (ended_each (n ∷ ns)) hs
  first_ended n ns [] = refl
  first_ended n ns (h ∷ hs) = ap (λ l. ended_each ns (ended_numbered n i made h) ∷ l) (first_ended n ns hs)

  pub ended_next : (ns : List ℕ) (k : ℕ) (hs new all : List Pending) → k < length ns → new ≡ map (ended_numbered (get_or ns k 0) i made) hs → map (ended_each (drop k ns)) hs ≡ all → map (ended_each (drop (k + 1) ns)) new ≡ all
  ended_next ns k hs new all l one before =
      let more : k + 1 ≡ suc k = omega arith in
      ap (λ m. map (ended_each (drop m ns)) new) more ∙ ap (map (ended_each (drop (suc k) ns))) one ∙ first_ended (get_or ns k 0) (drop (suc k) ns) hs
      ∙ ap (λ r. map (ended_each r) hs) (sym (rest_of ns k l)) ∙ before

  pub ended_last : (ns : List ℕ) (k : ℕ) (hs all : List Pending) → length ns ≤ k → map (ended_each (drop k ns)) hs ≡ all → hs ≡ all
  ended_last ns k hs all l before = sym (none_ended hs) ∙ ap (λ r. map (ended_each r) hs) (sym (none_of ns k l)) ∙ before

  -- those of other servers stay as they are
  other_ended : (n : ℕ) (h : Pending) → (h.server == i) ≡ false → ended_numbered n i made h ≡ h
  other_ended n h e = at_bool (λ b. cond b (ended i made h) h ≡ h) (h.question.number == n) (λ _. passed (h.server == i) _ h e) (λ _. refl)

  others_ended : (ns : List ℕ) (h : Pending) → (h.server == i) ≡ false → ended_each ns h ≡ h
  others_ended [] h e = refl
  others_ended (n ∷ ns) h e = ap (ended_each ns) (other_ended n h e) ∙ others_ended ns h e

  -- what is to be closed stays so
  abbrev closed : Pending → Pending
  closed h = record h { stand = Ended made }

  stays_closed : (n : ℕ) (h : Pending) → ended_numbered n i made (closed h) ≡ closed h
  stays_closed n h = at_bool (λ b. cond b (ended i made (closed h)) (closed h) ≡ closed h) (h.question.number == n) (λ _. at_bool (λ b. cond b (closed h) (closed h) ≡ closed h) (h.server == i) (λ _. refl) (λ _. refl)) (λ _. refl)

  stay_closed : (ns : List ℕ) (h : Pending) → ended_each ns (closed h) ≡ closed h
  stay_closed [] h = refl
  stay_closed (n ∷ ns) h = ap (ended_each ns) (stays_closed n h) ∙ stay_closed ns h

  own_ended : (ns : List ℕ) (h : Pending) → (h.server == i) ≡ true → Contains ns h.question.number → ended_each ns h ≡ closed h
  own_ended [] h e c = absurd (omega (arith, c.1))
  own_ended (n ∷ ns) h e c = by (own_ended ns h e) (h.question.number == n) refl c
    where
      by : (Contains ns h.question.number → ended_each ns h ≡ closed h) → (b : Bool) → (h.question.number == n) ≡ b → Contains (n ∷ ns) h.question.number → ended_each (n ∷ ns) h ≡ closed h
      by more true q there = ap (ended_each ns) (taken (h.question.number == n) (ended i made h) h q ∙ taken (h.server == i) (closed h) h e) ∙ stay_closed ns h
      by more false q (zero, low, is) = absurd cc (sym (same h.question.number n (sym is)) ∙ q)
      by more false q (suc k, low, is) = ap (ended_each ns) (passed (h.question.number == n) (ended i made h) h q) ∙ more (k, omega (arith, low), is)

  one_ended : (ns : List ℕ) (h : Pending) → (h.server ≡ i → Contains ns h.question.number) → ended_each ns h ≡ ended i made h
  one_ended ns h c = at_bool (λ b. (h.server == i) ≡ b → ended_each ns h ≡ cond b (closed h) h) (h.server == i) (λ _ e. own_ended ns h e (c (eq_tells h.server i e))) (λ _ e. others_ended ns h e) refl

  pub all_ended : (ns : List ℕ) (hs : List Pending) → NumbersAll i ns hs → map (ended_each ns) hs ≡ map (ended i made) hs
  all_ended ns [] all = refl
  all_ended ns (h ∷ hs) all = ap (λ g. g ∷ map (ended_each ns) hs) (one_ended ns h all.0) ∙ ap (λ l. ended i made h ∷ l) (all_ended ns hs all.1)
