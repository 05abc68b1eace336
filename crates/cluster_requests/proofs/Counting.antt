-- The counts of those that wait, when the request of a slot changes.
use Rattle.std.proofs.Common.{◌≡◌, ◌≢◌, ℕ, zero, suc, ◌+◌, ◌^◌, ◌<◌, ◌≤◌, ◌==◌, ◌&&◌, Bool, true, false, cond, List, [], ◌∷◌, ◌++◌, length, map, get_or, set, refl, sym, ap, ◌∙◌, subst, arith, nat_eq}
use Rattle.std.specs.List.{filter}
use Rattle.std.proofs.lemmas.Bool.{eqb-true, eqb-false}
use Rattle.std.proofs.lemmas.Bool.Decides.{nat_tests}
use Rattle.std.proofs.Math.ListN.{length-set}
use Rattle.std.proofs.lemmas.List.{get_or-set_same, get_or-set_other}
use Rattle.cluster_rules.specs.Cluster.{Ended, Pending}
use Rattle.cluster_rules.specs.Due.{has_looked, waiting, waits}
use Rattle.cluster_rules.specs.Step.{ended}
use Rattle.cluster_requests.specs.declared.slot.HeldSlot.{HeldSlot}
use Rattle.cluster_requests.specs.declared.slot.HeldSlot.TheVariants.{Held, LetGo}
use Rattle.cluster_requests.specs.Held.{held_in}
use Rattle.cluster_requests.specs.Counts.{AreCounts, Joins, counted, slot_waits}

-- a test's answer, with no item twice
one_more : {X Y : Type 0} (b : Bool) (x : X) (xs : List X) (y : Y) (ys : List Y) → length xs ≡ length ys → length (cond b (x ∷ xs) xs) ≡ length (cond b (y ∷ ys) ys)
one_more true x xs y ys e = ap suc e
one_more false x xs y ys e = e

pub waiting_slots : (i : ℕ) (ss : List HeldSlot) → length (filter (slot_waits i) ss) ≡ waiting i (held_in ss)
waiting_slots i [] = refl
waiting_slots i (Held h ∷ ss) = one_more (waits i h) (Held h) (filter (slot_waits i) ss) h (filter (waits i) (held_in ss)) (waiting_slots i ss)
waiting_slots i (LetGo n ∷ ss) = waiting_slots i ss

-- the first one, and the others
first_beside : {X : Type 0} (b : Bool) (x : X) (xs : List X) → length (cond b (x ∷ xs) xs) ≡ length (cond b (x ∷ []) []) + length xs
first_beside true x xs = omega arith
first_beside false x xs = omega arith

waiting_first : (i : ℕ) (s : HeldSlot) (ss : List HeldSlot) → waiting i (held_in (s ∷ ss)) ≡ counted i s + waiting i (held_in ss)
waiting_first i (Held h) ss = first_beside (waits i h) h (filter (waits i) (held_in ss))
waiting_first i (LetGo n) ss = omega arith

at_most_one : {X : Type 0} (b : Bool) (x : X) → length (cond b (x ∷ []) []) ≤ 1
at_most_one true x = omega arith
at_most_one false x = omega arith

counted_most : (i : ℕ) (s : HeldSlot) → counted i s ≤ 1
counted_most i (Held h) = at_most_one (waits i h) h
counted_most i (LetGo n) = omega arith

waiting_most : (i : ℕ) (ss : List HeldSlot) → waiting i (held_in ss) ≤ length ss
waiting_most i [] = omega arith
waiting_most i (s ∷ ss) = let first = waiting_first i s ss in let most = counted_most i s in let rest = waiting_most i ss in omega (arith, first, most, rest)

-- another slot stands at a place
pub waiting_set : (i : ℕ) (ss : List HeldSlot) (k : ℕ) (d s : HeldSlot) → k < length ss → waiting i (held_in (set ss k s)) + counted i (get_or ss k d) ≡ waiting i (held_in ss) + counted i s
waiting_set i [] k d s l = absurd (omega arith)
waiting_set i (t ∷ ss) zero d s l = let before = waiting_first i t ss in let after = waiting_first i s ss in omega (arith, before, after)
waiting_set i (t ∷ ss) (suc k) d s l =
    let before = waiting_first i t ss in
    let after = waiting_first i t (set ss k s) in
    let rest = waiting_set i ss k d s (omega arith) in
    omega (arith, before, after, rest)

-- the request of a slot is among those that are counted
pub counted_there : (i : ℕ) (ss : List HeldSlot) (k : ℕ) (d : HeldSlot) → k < length ss → counted i (get_or ss k d) ≤ waiting i (held_in ss)
counted_there i [] k d l = absurd (omega arith)
counted_there i (s ∷ ss) zero d l = let first = waiting_first i s ss in omega (arith, first)
counted_there i (s ∷ ss) (suc k) d l = let first = waiting_first i s ss in let rest = counted_there i ss k d (omega arith) in omega (arith, first, rest)

-- one more stands last
pub waiting_last : (i : ℕ) (ss : List HeldSlot) (s : HeldSlot) → waiting i (held_in (ss ++ s ∷ [])) ≡ waiting i (held_in ss) + counted i s
waiting_last i [] s = omega arith
waiting_last i (t ∷ ss) s =
    let before = waiting_first i t ss in
    let after = waiting_first i t (ss ++ s ∷ []) in
    let rest = waiting_last i ss s in
    omega (arith, before, after, rest)

module _ (before : List ℕ) (ss : List HeldSlot) (k : ℕ) (old : HeldSlot) (low : k < length ss) (read : old ≡ get_or ss k old) (are : AreCounts before (held_in ss)) where
  -- one that is counted can be taken out
  pub can_leave : (i : ℕ) → i < length before → counted i old ≤ get_or before i 0
  can_leave i l = let there = counted_there i ss k old low in let was = are i l in let same = ap (counted i) read in omega (arith, there, was, same)

  module _ (mid : List ℕ) (left : Joins old mid before) (new : HeldSlot) where
    -- what is left, with the one that comes instead
    pub changed : (i : ℕ) → i < length mid → get_or mid i 0 + counted i new ≡ waiting i (held_in (set ss k new))
    changed i l =
        let was = are i (omega (arith, left.len)) in
        let out = left.each i l in
        let is = waiting_set i ss k old new low in
        let same = ap (counted i) read in
        omega (arith, was, out, is, same)

    -- there are no more than slots
    pub can_join : length ss < 2 ^ 64 → (i : ℕ) → i < length mid → get_or mid i 0 + counted i new < 2 ^ 64
    can_join few i l =
        let is = changed i l in
        let most = waiting_most i (set ss k new) in
        let same = length-set ss k new in
        omega (arith, is, most, same, few)

    pub changed_counts : (after : List ℕ) → Joins new mid after → AreCounts after (held_in (set ss k new))
    changed_counts after joined = λ i l. joined.each i (omega (arith, joined.len)) ∙ changed i (omega (arith, joined.len))

-- one that was dropped is not counted
pub left_counts : (before after : List ℕ) (ss : List HeldSlot) (k n : ℕ) (old : HeldSlot) → k < length ss → old ≡ get_or ss k old → AreCounts before (held_in ss) → Joins old after before → AreCounts after (held_in (set ss k (LetGo n)))
left_counts before after ss k n old low read are left = λ i l. let is = changed before ss k old low read are after left (LetGo n) i l in omega (arith, is)

-- one more is held
pub more_counts : (before after : List ℕ) (ss : List HeldSlot) (s : HeldSlot) → AreCounts before (held_in ss) → Joins s before after → AreCounts after (held_in (ss ++ s ∷ []))
more_counts before after ss s are joined = λ i l.
    let is = waiting_last i ss s in
    let was = are i (omega (arith, joined.len)) in
    let more = joined.each i (omega (arith, joined.len)) in
    omega (arith, is, was, more)

pub can_come : (before : List ℕ) (ss : List HeldSlot) (s : HeldSlot) → length ss + 1 < 2 ^ 64 → AreCounts before (held_in ss) → (i : ℕ) → i < length before → get_or before i 0 + counted i s < 2 ^ 64
can_come before ss s few are i l =
    let was = are i l in
    let most = waiting_most i ss in
    let one = counted_most i s in
    omega (arith, was, most, one, few)

-- a slot's request is counted where it waits
one_where : {X : Type 0} (b : Bool) (x : X) → length (cond b (x ∷ []) []) ≡ cond b 1 0
one_where true x = refl
one_where false x = refl

counted_is : (i : ℕ) (s : HeldSlot) → counted i s ≡ cond (slot_waits i s) 1 0
counted_is i (Held h) = one_where (waits i h) h
counted_is i (LetGo n) = refl

counted_by : (i : ℕ) (s : HeldSlot) (b : Bool) → slot_waits i s ≡ b → counted i s ≡ cond b 1 0
counted_by i s b e = counted_is i s ∙ ap (λ t. cond t 1 0) e

module _ (s : HeldSlot) (server : ℕ) (at : (i : ℕ) → slot_waits i s ≡ (server == i)) where
  pub counted_here : counted server s ≡ 1
  counted_here = counted_by server s true (at server ∙ equal server)
    where
      equal : (a : ℕ) → (a == a) ≡ true
      equal a = grind (arith, nat_tests)

  pub joins_at : (before after : List ℕ) → length after ≡ length before → (server < length before → get_or after server 0 ≡ get_or before server 0 + 1) → ((i : ℕ) → i ≢ server → get_or after i 0 ≡ get_or before i 0) → Joins s before after
  joins_at before after len there others = record { len = len; each = λ i l. go i l (server == i) refl }
    where
      go : (i : ℕ) → i < length before → (b : Bool) → (server == i) ≡ b → get_or after i 0 ≡ get_or before i 0 + counted i s
      go i l true e =
          let is : server ≡ i = eqb-true server i e in
          let one = counted_by i s true (at i ∙ e) in
          let more = subst (λ n. n < length before → get_or after n 0 ≡ get_or before n 0 + 1) is there l in
          omega (arith, one, more)
      go i l false e =
          let none = counted_by i s false (at i ∙ e) in
          let same = others i (λ q. eqb-false server i e (sym q)) in
          omega (arith, none, same)

pub joins_nowhere : (s : HeldSlot) (counts : List ℕ) → ((i : ℕ) → slot_waits i s ≡ false) → Joins s counts counts
joins_nowhere s counts at = record { len = refl; each = λ i l. let none = counted_by i s false (at i) in omega (arith, none) }

-- of a server that restarted none waits
and_false : (b : Bool) → (b && false) ≡ false
and_false true = refl
and_false false = refl

pub and_true : (b : Bool) → (b && true) ≡ b
and_true true = refl
and_true false = refl

passed : {X : Type 0} (b : Bool) (x y : X) → b ≡ false → cond b x y ≡ y
passed true x y e = absurd cc
passed false x y e = refl

ended_waits : (b : Bool) (server event : ℕ) (h : Pending) → (h.server == server) ≡ b → waits server (cond b (record h { stand = Ended event }) h) ≡ false
ended_waits true server event h e = and_false (h.server == server)
ended_waits false server event h e = ap (λ c. c && has_looked h.stand) e

others_wait : (b : Bool) (i server event : ℕ) (h : Pending) → i ≢ server → (h.server == server) ≡ b → waits i (cond b (record h { stand = Ended event }) h) ≡ waits i h
others_wait true i server event h d e =
    let other : (h.server == i) ≡ false = subst (λ n. (n == i) ≡ false) (sym (eqb-true h.server server e)) (unequal server i (λ q. d (sym q))) in
    ap (λ c. c && false) other ∙ sym (ap (λ c. c && has_looked h.stand) other)
  where
    unequal : (a b : ℕ) → a ≢ b → (a == b) ≡ false
    unequal a b d = grind (arith, nat_tests)
others_wait false i server event h d e = refl

pub none_waits : (server event : ℕ) (hs : List Pending) → waiting server (map (ended server event) hs) ≡ 0
none_waits server event [] = refl
none_waits server event (h ∷ hs) = ap length (passed _ (ended server event h ∷ filter (waits server) (map (ended server event) hs)) _ (ended_waits (h.server == server) server event h refl)) ∙ none_waits server event hs

pub others_waiting : (i server event : ℕ) → i ≢ server → (hs : List Pending) → waiting i (map (ended server event) hs) ≡ waiting i hs
others_waiting i server event d [] = refl
others_waiting i server event d (h ∷ hs) =
    ap (λ b. length (cond b (ended server event h ∷ filter (waits i) (map (ended server event) hs)) (filter (waits i) (map (ended server event) hs)))) (others_wait (h.server == server) i server event h d refl)
    ∙ one_more (waits i h) (ended server event h) (filter (waits i) (map (ended server event) hs)) h (filter (waits i) hs) (others_waiting i server event d hs)

module _ (counts after : List ℕ) (server : ℕ) where
  pub none_left : server < length counts → after ≡ set counts server 0 → (held : List Pending) (event : ℕ) → AreCounts counts held → AreCounts after (map (ended server event) held)
  none_left low is held event are = λ i l. ap (λ c. get_or c i 0) is ∙ go i (omega (arith, l, ap length is, length-set counts server 0)) (nat_eq i server) refl
    where
      go : (i : ℕ) → i < length counts → (b : Bool) → nat_eq i server ≡ b → get_or (set counts server 0) i 0 ≡ waiting i (map (ended server event) held)
      go i l true e = subst (λ n. get_or (set counts server 0) n 0 ≡ waiting n (map (ended server event) held)) (sym (eqb-true i server e)) (get_or-set_same counts server 0 0 low ∙ sym (none_waits server event held))
      go i l false e = let d = eqb-false i server e in get_or-set_other counts server i 0 0 d ∙ are i l ∙ sym (others_waiting i server event d held)

  pub none_counted : length counts ≤ server → (held : List Pending) (event : ℕ) → AreCounts counts held → AreCounts counts (map (ended server event) held)
  none_counted past held event are = λ i l. are i l ∙ sym (others_waiting i server event (λ q. omega (arith, q, l, past)) held)
