-- No request is lost, and none is in two places.
use Rattle.std.proofs.Common.{◌≡◌, ◌≢◌, ℕ, suc, ◌+◌, ◌≤◌, inl, inr, Bool, true, false, cond, not, List, [], ◌∷◌, ◌++◌, map, refl, sym, ◌∙◌, ap, subst, arith, Option, Some}
use Rattle.std.specs.Prelude.{◌==◌, nat_lt, nat_le, ◌&&◌}
use Rattle.std.specs.List.{AllByRecursion as Each}
use Rattle.std.proofs.lemmas.Bool.Decides.{nat_tests}
use Rattle.cat_model.specs.declared.reply.Kind.{Kind}
use Rattle.cat_model.specs.declared.reply.Mark.{Mark}
use Rattle.cat_model.specs.declared.reply.Mark.TheVariants as mark
use Rattle.raft_model.specs.Log.{Log}
use Rattle.raft_model.specs.World.{World}
use Rattle.raft_model.proofs.Tests.{at_bool, eq_tells}
use Rattle.cluster_rules.specs.Replies.{Question, Out, Replied, Synced, number_of, reply_of}
use Rattle.cluster_rules.specs.Proposals.{synced}
use Rattle.cluster_rules.specs.Cluster.{Stand, ForIndex, Ended, Pending, Start, Cluster}
use Rattle.cluster_rules.specs.Due.{Work, Replies, Holds, Closes, Applies, without, with_held, is_before, put_out, answered, did, IsDue, Works, none, work}
use Rattle.cluster_rules.specs.Requests.{entries_past, halts_past, joined, moved_with, holding}
use Rattle.cluster_rules.specs.Step.{events_in, ended, begun_anew}
use Rattle.cluster_rules.specs.Sound.{IsAmong, one_if, is_of, held_times, out_times, taken_times, found, NoneLost}
use Rattle.cluster_rules.proofs.Cases.{due_cases}
use Rattle.cluster_rules.proofs.Tools.{eq_tells_not, eq_self}
use Rattle.cluster_rules.proofs.Works.{with_number}

-- How often a number is in a list that changes.
without_same : (k : ℕ) (hs : List Pending) → held_times k (without k hs) ≡ 0
without_same k [] = refl
without_same k (h ∷ hs) = at_bool (λ b. (h.question.number == k) ≡ b → held_times k (cond (not b) (h ∷ without k hs) (without k hs)) ≡ 0) (h.question.number == k)
    (λ _ _. without_same k hs) (λ _ e. ap (λ b. one_if b + held_times k (without k hs)) e ∙ plus (held_times k (without k hs)) ∙ without_same k hs) refl
  where
    plus : (n : ℕ) → 0 + n ≡ n
    plus n = omega arith

without_other : (k m : ℕ) → m ≢ k → (hs : List Pending) → held_times k (without m hs) ≡ held_times k hs
without_other k m d [] = refl
without_other k m d (h ∷ hs) = at_bool (λ b. (h.question.number == m) ≡ b → held_times k (cond (not b) (h ∷ without m hs) (without m hs)) ≡ one_if (h.question.number == k) + held_times k hs) (h.question.number == m)
    (λ _ e. without_other k m d hs ∙ sym (ap (λ b. one_if b + held_times k hs) (not_it (eq_tells h.question.number m e)) ∙ plus (held_times k hs)))
    (λ _ _. ap (λ n. one_if (h.question.number == k) + n) (without_other k m d hs)) refl
  where
    plus : (n : ℕ) → 0 + n ≡ n
    plus n = omega arith

    differ : (a b c : ℕ) → b ≢ c → a ≡ b → (a == c) ≡ false
    differ a b c d e = grind (arith, nat_tests)

    not_it : h.question.number ≡ m → (h.question.number == k) ≡ false
    not_it e = differ h.question.number m k d e

with_times : (k : ℕ) (new : Pending) (hs : List Pending) → held_times k (with_held new hs) ≡ held_times k hs
with_times k new [] = refl
with_times k new (h ∷ hs) = (λ j. one_if (with_number new h j == k) + with_times k new hs j)

ended_times : (k i number : ℕ) (hs : List Pending) → held_times k (map (ended i number) hs) ≡ held_times k hs
ended_times k i number [] = refl
ended_times k i number (h ∷ hs) =
    (λ j. one_if (one h j == k) + ended_times k i number hs j)
  where
    one : (h : Pending) → (ended i number h).question.number ≡ h.question.number
    one h = at_bool (λ b. (cond b (record h { stand = Ended number }) h).question.number ≡ h.question.number) (h.server == i) (λ _. refl) (λ _. refl)

append_times : (k : ℕ) (hs gs : List Pending) → held_times k (hs ++ gs) ≡ held_times k hs + held_times k gs
append_times k [] gs = omega arith
append_times k (h ∷ hs) gs = let r = append_times k hs gs in omega (arith, r)

put_times : (k : ℕ) (o : Out) (os : List Out) → out_times k (put_out o os) ≡ one_if (is_of k (number_of o)) + out_times k os
put_times k o [] = refl
put_times k o (p ∷ os) =
    let r = put_times k o os in
    at_bool (λ b. out_times k (cond b (o ∷ p ∷ os) (p ∷ put_out o os)) ≡ one_if (is_of k (number_of o)) + (one_if (is_of k (number_of p)) + out_times k os)) (is_before (number_of o) (number_of p))
    (λ _. refl) (λ _. omega (arith, r))

pub outs_times : (k : ℕ) (os ps : List Out) → out_times k (os ++ ps) ≡ out_times k os + out_times k ps
outs_times k [] ps = omega arith
outs_times k (o ∷ os) ps = let r = outs_times k os ps in omega (arith, r)

entries_times : (k : ℕ) (es : Log) (past : List Mark) → taken_times k (entries_past es past) ≡ taken_times k past
entries_times k [] past = refl
entries_times k (e ∷ es) past = entries_times k es (mark.Entry e ∷ past)

halts_times : (k i : ℕ) (b : Bool) (past : List Mark) → taken_times k (halts_past i b past) ≡ taken_times k past
halts_times k i true past = refl
halts_times k i false past = refl

-- a held request is found
there_once : (hs : List Pending) → Each (λ (h : Pending). 1 ≤ held_times h.question.number hs) hs
there_once hs = go hs (λ h m. m) hs (λ h m. m)
  where
    count : (h : Pending) (hs : List Pending) → IsAmong h hs → 1 ≤ held_times h.question.number hs
    count h [] m = absurd m
    count h (g ∷ gs) (inl e) = let k = ap (λ (z : Pending). one_if (z.question.number == h.question.number)) (sym e) in let q = ap one_if (eq_self h.question.number) in omega (arith, k, q)
    count h (g ∷ gs) (inr m) = let k = count h gs m in omega (arith, k)

    go : (hs : List Pending) → ((h : Pending) → IsAmong h hs → IsAmong h hs) → (gs : List Pending) → ((h : Pending) → IsAmong h gs → IsAmong h hs) → Each (λ (h : Pending). 1 ≤ held_times h.question.number hs) gs
    go hs f [] g = tt
    go hs f (h ∷ gs) g = (count h hs (g h (inl refl)), go hs f gs (λ x m. g x (inr m)))

one_most : (b : Bool) → one_if b ≤ 1
one_most true = omega arith
one_most false = omega arith

-- Works move requests and lose none.
module _ (n : ℕ) (c : Cluster) (lost : NoneLost n c) where
  most : (k : ℕ) → found k c ≤ 1
  most k = let e = lost k in let l = one_most (nat_lt 0 k && nat_le k n) in omega (arith, e, l)

  -- a held request whose out is put in its place
  gives : (m : ℕ) (o : Out) → number_of o ≡ Some m → 1 ≤ held_times m c.held →
      (k : ℕ) → held_times k (without m c.held) + out_times k (put_out o c.fresh) + out_times k c.tray + taken_times k c.past ≡ found k c
  gives m o is l k =
      at_bool (λ b. (m == k) ≡ b → held_times k (without m c.held) + out_times k (put_out o c.fresh) + out_times k c.tray + taken_times k c.past ≡ found k c) (m == k)
      (λ _ e. let z = eq_tells m k e in
      let h = ap (λ y. held_times k (without y c.held)) z ∙ without_same k c.held in
      let p = put_times k o c.fresh in
      let q = ap (λ (y : Option ℕ). one_if (is_of k y)) is ∙ ap one_if e in
      let f = most k in
      let g : 1 ≤ held_times k c.held = subst (λ y. 1 ≤ held_times y c.held) z l in
      omega (arith, h, p, q, f, g))
      (λ _ e.
      let h = without_other k m (eq_tells_not m k e) c.held in
      let p = put_times k o c.fresh in
      let q = ap (λ (y : Option ℕ). one_if (is_of k y)) is ∙ ap one_if e in
      omega (arith, h, p, q)) refl

  keeps : (k : ℕ) (new : Pending) → held_times k (with_held new c.held) + out_times k c.fresh + out_times k c.tray + taken_times k c.past ≡ found k c
  keeps k new = let e = with_times k new c.held in omega (arith, e)

  work_keeps : (i : ℕ) (w : Work) → IsDue i c w → (k : ℕ) → found k (did i w c) ≡ found k c
  unfolding did
  work_keeps i w d = due_cases c i (λ w. (k : ℕ) → found k (did i w c) ≡ found k c) (λ (h : Pending). 1 ≤ held_times h.question.number c.held) (there_once c.held)
      (λ h l at. record {
        halted = λ _ _. gives h.question.number _ refl l;
        closes = λ _ _. gives h.question.number _ refl l;
        lands = λ _ _ _ _. gives h.question.number _ refl l;
        rises = λ _ _ _ _. gives h.question.number _ refl l;
        answers = λ _ _ _ _ _ _ _ _ _ _. gives h.question.number _ refl l;
        refuses = λ _ _ _ _ _ _ _ _ _ _ _. gives h.question.number _ refl l;
        sees = λ deadline _ _ _ _ _ _ _ _. λ k. keeps k (record h { stand = ForIndex deadline true });
        runs = λ _ _ _ _ _ _ _. gives h.question.number _ refl l;
        turns = λ _ deadline _ _ _ _. λ k. keeps k (record h { stand = ForIndex deadline false });
      })
      (λ _ k. refl) w d

did_asked : (i : ℕ) (w : Work) (c : Cluster) → (did i w c).asked ≡ c.asked
unfolding did
did_asked i (Replies q kind) c = refl
did_asked i (Holds h) c = refl
did_asked i (Closes number event) c = refl
did_asked i Applies c = refl

pub works_asked : (i : ℕ) (c c' : Cluster) → Works i c c' → c'.asked ≡ c.asked
works_asked i c c' none = refl
works_asked i c c' (work w e more) = works_asked i (did i w c) c' more ∙ did_asked i w c

pub works_keep : (n i : ℕ) (c c' : Cluster) → Works i c c' → NoneLost n c → NoneLost n c'
works_keep n i c c' none l = l
works_keep n i c c' (work w e more) l = works_keep n i (did i w c) c' more (λ k. work_keeps n c l i w e k ∙ l k)

-- the works of an event keep those of all that were asked
pub made_up_keep : (i : ℕ) (c c' : Cluster) → Works i c c' → NoneLost c.asked c → NoneLost c'.asked c'
made_up_keep i c c' w l = subst (λ z. NoneLost z c') (sym (works_asked i c c' w)) (works_keep c.asked i c c' w l)

-- A step of the world moves no request.
pub moved_keeps : (failed : Bool) (i : ℕ) (w' : World) (c : Cluster) (k : ℕ) → found k (moved_with failed i w' c) ≡ found k c
moved_keeps failed i w' c k = let e = entries_times k (joined c.world w') (halts_past i failed c.past) in let d = halts_times k i failed c.past in omega (arith, e, d)

pub restart_keeps : (failed : Bool) (i : ℕ) (w' : World) (c : Cluster) (k : ℕ) → found k (begun_anew i (moved_with failed i w' c)) ≡ found k c
restart_keeps failed i w' c k =
    let e = ended_times k i (events_in (moved_with failed i w' c).past) c.held in
    let m = moved_keeps failed i w' c k in
    omega (arith, e, m)

-- the out of a sync is of no request
pub synced_keeps : (a : ℕ) (count : Option ℕ) (c : Cluster) (k : ℕ) → found k (synced a count c) ≡ found k c
synced_keeps a count c k = let p = put_times k (Synced a count) c.fresh in omega (arith, p)

-- the next request is in its place
next_place : (n k : ℕ) → one_if (nat_lt 0 k && nat_le k n) + one_if (suc n == k) ≡ one_if (nat_lt 0 k && nat_le k (suc n))
next_place n k = at_bool (λ b. (suc n == k) ≡ b → one_if (nat_lt 0 k && nat_le k n) + one_if b ≡ one_if (nat_lt 0 k && nat_le k (suc n))) (suc n == k)
    (λ _ e. let z = eq_tells (suc n) k e in subst (λ y. one_if (nat_lt 0 y && nat_le y n) + 1 ≡ one_if (nat_lt 0 y && nat_le y (suc n))) z (at_next n))
    (λ _ e. ap (λ b. one_if (nat_lt 0 k && b) + 0) (sym (not_next n k (eq_tells_not (suc n) k e))) ∙ plus (one_if (nat_lt 0 k && nat_le k (suc n)))) refl
  where
    plus : (a : ℕ) → a + 0 ≡ a
    plus a = omega arith

    below : (n : ℕ) → nat_le (suc n) n ≡ false
    below n = grind (arith, nat_tests)

    within : (n : ℕ) → nat_le (suc n) (suc n) ≡ true
    within n = grind (arith, nat_tests)

    some : (n : ℕ) → nat_lt 0 (suc n) ≡ true
    some n = grind (arith, nat_tests)

    at_next : (n : ℕ) → one_if (nat_lt 0 (suc n) && nat_le (suc n) n) + 1 ≡ one_if (nat_lt 0 (suc n) && nat_le (suc n) (suc n))
    at_next n =
        ap (λ b. one_if (nat_lt 0 (suc n) && b) + 1) (below n) ∙ ap (λ b. one_if (b && false) + 1) (some n)
        ∙ sym (ap (λ b. one_if (nat_lt 0 (suc n) && b)) (within n) ∙ ap (λ b. one_if (b && true)) (some n))

    not_next : (n k : ℕ) → suc n ≢ k → nat_le k (suc n) ≡ nat_le k n
    not_next n k d = at_bool (λ b. nat_le k n ≡ b → nat_le k (suc n) ≡ b) (nat_le k n) (λ _ e. yes k n e) (λ _ e. no k n d e) refl
      where
        yes : (k n : ℕ) → nat_le k n ≡ true → nat_le k (suc n) ≡ true
        yes k n e = grind (arith, nat_tests)

        no : (k n : ℕ) → suc n ≢ k → nat_le k n ≡ false → nat_le k (suc n) ≡ false
        no k n d e = grind (arith, nat_tests)

-- a request that was just asked begins to be held
pub holding_places : (n : ℕ) (c : Cluster) (q : Question) (i : ℕ) (stand : Stand) (start : Start) → q.number ≡ suc n → NoneLost n c → NoneLost (suc n) (holding q i stand start c)
holding_places n c q i stand start e l k =
    let a = append_times k c.held (record { question = q; server = i; stand = stand } ∷ []) in
    let m = ap (λ z. one_if (z == k)) e in
    let f = l k in
    omega (arith, a, m, f) ∙ next_place n k

-- or is answered
pub answered_places : (n : ℕ) (c : Cluster) (q : Question) (kind : Kind) (log : Log) → q.number ≡ suc n → NoneLost n c → NoneLost (suc n) (answered q kind false 0 log c)
answered_places n c q kind log e l k =
    let p = put_times k (Replied (reply_of q kind false 0 log)) c.fresh in
    let m = ap (λ z. one_if (z == k)) e in
    let f = l k in
    let w = at_bool (λ b. (q.number == k) ≡ b → held_times k (without q.number c.held) ≡ held_times k c.held) (q.number == k)
    (λ _ t. let z = eq_tells q.number k t in ap (λ y. held_times k (without y c.held)) z ∙ without_same k c.held ∙ sym (none_held k (sym z ∙ e)))
    (λ _ t. without_other k q.number (eq_tells_not q.number k t) c.held) refl in
    omega (arith, p, m, f, w) ∙ next_place n k
  where
    above : (n : ℕ) → nat_le (suc n) n ≡ false
    above n = grind (arith, nat_tests)

    some : (n : ℕ) → nat_lt 0 (suc n) ≡ true
    some n = grind (arith, nat_tests)

    none_held : (k : ℕ) → k ≡ suc n → held_times k c.held ≡ 0
    none_held k e =
        let f = l k in
        let z : one_if (nat_lt 0 k && nat_le k n) ≡ 0 = ap (λ y. one_if (nat_lt 0 y && nat_le y n)) e ∙ ap (λ b. one_if (nat_lt 0 (suc n) && b)) (above n) ∙ ap (λ b. one_if (b && false)) (some n) in
        omega (arith, f, z)
