-- What is done at one server leaves all others as they are: what is due there stays the same.
use Rattle.std.proofs.Common.{◌≡◌, ◌≢◌, ℕ, suc, ◌<◌, inl, inr, Bool, true, false, cond, not, List, [], ◌∷◌, length, filter, refl, sym, ◌∙◌, ap, subst, arith, Option, Some, None}
use Rattle.std.specs.Prelude.{◌==◌, nat_lt, nat_le, ◌&&◌}
use Rattle.std.specs.List.{AllByRecursion as Each}
use Rattle.std.proofs.lemmas.Bool.Decides.{nat_tests}
use Rattle.cat_model.specs.declared.reply.Kind.{Kind}
use Rattle.cat_model.specs.declared.reply.Kind.TheVariants.{Refused}
use Rattle.cat_model.specs.declared.reply.Refusal.TheVariants as refusal
use Rattle.raft_model.specs.Log.{Log}
use Rattle.raft_model.specs.Node.{Node}
use Rattle.raft_model.specs.Rules.{is_confirmed}
use Rattle.raft_model.proofs.Tests.{at_bool, eq_tells}
use Rattle.cluster_rules.specs.Cluster.{Stand, AtPlace, InRound, ForIndex, Ended, Pending, Cluster, no_server, node_of, applied_of, clock_of}
use Rattle.cluster_rules.specs.Due.{Work, Replies, Holds, Closes, Applies, or_work, first_work, landed, has_looked, waits, waiting, asks_read, early_stand, is_ended, early_work, late_stand, late_work, next_work, due, without, with_held, did, IsDue, Works, none, work}
use Rattle.cluster_rules.specs.Sound.{IsAmong, Ascends}
use Rattle.cluster_rules.proofs.Cases.{Leaves, due_cases}
use Rattle.cluster_rules.proofs.Steps.{or_left, or_right}
use Rattle.cluster_rules.proofs.Tools.{each_map, each_among, all_among, item_other}
use Rattle.cluster_rules.proofs.Works.{each_kept, each_with, ascends_without, ascends_with}

-- what is due at server j reads no more than this
pub record SameAt (j : ℕ) (c c' : Cluster) : Type 0 where
  pub node : node_of c'.world j ≡ node_of c.world j
  pub applied : applied_of c' j ≡ applied_of c j
  pub clock : clock_of c'.world j ≡ clock_of c.world j
  pub waits_same : waiting j c'.held ≡ waiting j c.held
  pub held : Each (λ (h : Pending). h.server ≡ j → IsAmong h c.held) c'.held

pub same_on : (j : ℕ) (a b c : Cluster) → SameAt j a b → SameAt j b c → SameAt j a c
same_on j a b c p q = record {
  node = q.node ∙ p.node;
  applied = q.applied ∙ p.applied;
  clock = q.clock ∙ p.clock;
  waits_same = q.waits_same ∙ p.waits_same;
  held = each_map (λ (h : Pending). h.server ≡ j → IsAmong h b.held) (λ (h : Pending). h.server ≡ j → IsAmong h a.held) (λ h f at. each_among (λ (h : Pending). h.server ≡ j → IsAmong h a.held) b.held h p.held (f at) at) c.held q.held;
}

-- what is due, by just that
early_stand_at : ℕ → Node → Log → ℕ → ℕ → Pending → Stand → Option Work
early_stand_at j n a k o h (Ended event) = Some (Closes h.question.number event)
early_stand_at j n a k o h (AtPlace index term) = cond (nat_le index (length a)) (Some (Replies h.question (landed index term a))) None
early_stand_at j n a k o h (InRound round deadline) = cond (nat_lt round.term n.term) (Some (Replies h.question (Refused (refusal.Lost round.term n.term)))) None
early_stand_at j n a k o h (ForIndex deadline looked) = asks_read h o k a deadline looked h.question.asked

early_stand_is : (c : Cluster) (j : ℕ) (h : Pending) (st : Stand) → early_stand c j h st ≡ early_stand_at j (node_of c.world j) (applied_of c j) (clock_of c.world j) (waiting j c.held) h st
unfolding early_stand_at
early_stand_is c j h (Ended event) = refl
early_stand_is c j h (AtPlace index term) = refl
early_stand_is c j h (InRound round deadline) = refl
early_stand_is c j h (ForIndex deadline looked) = refl

early_at : ℕ → Node → Log → ℕ → ℕ → Pending → Option Work
early_at j n a k o h = cond (h.server == j) (cond (n.halted && not (is_ended h.stand)) (Some (Replies h.question (Refused (refusal.Halted j)))) (early_stand_at j n a k o h h.stand)) None

early_is : (c : Cluster) (j : ℕ) (h : Pending) → early_work c j h ≡ early_at j (node_of c.world j) (applied_of c j) (clock_of c.world j) (waiting j c.held) h
unfolding early_at
early_is c j h = ap (λ z. cond (h.server == j) (cond ((node_of c.world j).halted && not (is_ended h.stand)) (Some (Replies h.question (Refused (refusal.Halted j)))) z) None) (early_stand_is c j h h.stand)

late_stand_at : ℕ → Node → Log → Pending → Stand → Option Work
late_stand_at j n a h (InRound round deadline) = cond (not n.halted && (is_confirmed n round && nat_le round.commit (length a))) (Some (Holds (record h { stand = ForIndex deadline false }))) None
late_stand_at j n a h other = None

late_stand_is : (c : Cluster) (j : ℕ) (h : Pending) (st : Stand) → late_stand c j h st ≡ late_stand_at j (node_of c.world j) (applied_of c j) h st
unfolding late_stand_at
late_stand_is c j h (Ended event) = refl
late_stand_is c j h (AtPlace index term) = refl
late_stand_is c j h (InRound round deadline) = refl
late_stand_is c j h (ForIndex deadline looked) = refl

late_at : ℕ → Node → Log → Pending → Option Work
late_at j n a h = cond (h.server == j) (late_stand_at j n a h h.stand) None

late_is : (c : Cluster) (j : ℕ) (h : Pending) → late_work c j h ≡ late_at j (node_of c.world j) (applied_of c j) h
unfolding late_at
late_is c j h = ap (λ z. cond (h.server == j) z None) (late_stand_is c j h h.stand)

next_at : Node → Log → Option Work
next_at n a = cond (nat_lt (length a) n.commit) (Some Applies) None

first_none : (f : Pending → Option Work) (hs : List Pending) → first_work f hs ≡ None → Each (λ h. f h ≡ None) hs
first_none f [] e = tt
first_none f (h ∷ hs) e = (or_left (f h) (first_work f hs) e, first_none f hs (or_right (f h) (first_work f hs) e))

none_both : (a b : Option Work) → a ≡ None → b ≡ None → or_work a b ≡ None
none_both None b e f = f
none_both (Some w) b e f = absurd (cc e)

first_of_none : (f : Pending → Option Work) (hs : List Pending) → Each (λ h. f h ≡ None) hs → first_work f hs ≡ None
first_of_none f [] e = refl
first_of_none f (h ∷ hs) e = none_both (f h) (first_work f hs) e.0 (first_of_none f hs e.1)

-- nothing at a server of another number
elsewhere : (j : ℕ) (h : Pending) (x : Option Work) → (h.server ≡ j → x ≡ None) → cond (h.server == j) x None ≡ None
elsewhere j h x f = at_bool (λ b. (h.server == j) ≡ b → cond b x None ≡ None) (h.server == j) (λ _ e. f (eq_tells h.server j e)) (λ _ _. refl) refl

-- Nothing due stays so.
pub same_due : (j : ℕ) (c c' : Cluster) → SameAt j c c' → due j c ≡ None → due j c' ≡ None
unfolding early_at late_at next_at
same_due j c c' s e =
    none_both _ _
    (first_of_none (early_work c' j) c'.held (each_map (λ (h : Pending). h.server ≡ j → IsAmong h c.held) (λ (h : Pending). early_work c' j h ≡ None) (λ h f. early_is c' j h ∙ elsewhere j h _ (λ at. inner h at (sym (early_is c j h) ∙ early h (f at)))) c'.held s.held))
    (none_both _ _ ((λ k. next_at (s.node k) (s.applied k)) ∙ or_left (next_work c j) _ (or_right (first_work (early_work c j) c.held) _ e))
    (first_of_none (late_work c' j) c'.held (each_map (λ (h : Pending). h.server ≡ j → IsAmong h c.held) (λ (h : Pending). late_work c' j h ≡ None) (λ h f. late_is c' j h ∙ elsewhere j h _ (λ at. inner_late h at (sym (late_is c j h) ∙ later h (f at)))) c'.held s.held)))
  where
    early : (h : Pending) → IsAmong h c.held → early_work c j h ≡ None
    early h m = each_among (λ (h : Pending). early_work c j h ≡ None) c.held h (first_none (early_work c j) c.held (or_left (first_work (early_work c j) c.held) _ e)) m

    later : (h : Pending) → IsAmong h c.held → late_work c j h ≡ None
    later h m = each_among (λ (h : Pending). late_work c j h ≡ None) c.held h (first_none (late_work c j) c.held (or_right (next_work c j) _ (or_right (first_work (early_work c j) c.held) _ e))) m

    here : (a b : ℕ) → a ≡ b → (a == b) ≡ true
    here a b e = grind (arith, nat_tests)

    on_true : (b : Bool) (x : Option Work) → b ≡ true → cond b x None ≡ None → x ≡ None
    on_true true x t p = p
    on_true false x t p = absurd (cc t)

    inner : (h : Pending) → h.server ≡ j → early_at j (node_of c.world j) (applied_of c j) (clock_of c.world j) (waiting j c.held) h ≡ None →
        cond ((node_of c'.world j).halted && not (is_ended h.stand)) (Some (Replies h.question (Refused (refusal.Halted j)))) (early_stand_at j (node_of c'.world j) (applied_of c' j) (clock_of c'.world j) (waiting j c'.held) h h.stand) ≡ None
    inner h at x = on_true (h.server == j) _ (here h.server j at) ((λ k. early_at j (s.node k) (s.applied k) (s.clock k) (s.waits_same k) h) ∙ x)

    inner_late : (h : Pending) → h.server ≡ j → late_at j (node_of c.world j) (applied_of c j) h ≡ None → late_stand_at j (node_of c'.world j) (applied_of c' j) h h.stand ≡ None
    inner_late h at x = on_true (h.server == j) _ (here h.server j at) ((λ k. late_at j (s.node k) (s.applied k) h) ∙ x)

-- How many wait at server j, where a request of another server changes.
pub not_waiting : (j i : ℕ) → j ≢ i → (h : Pending) → h.server ≡ i → waits j h ≡ false
not_waiting j i d h at = ap (λ b. b && has_looked h.stand) (differ h.server j (λ e. d (sym e ∙ at)))
  where
    differ : (a b : ℕ) → a ≢ b → (a == b) ≡ false
    differ a b d = grind (arith, nat_tests)

abbrev pub waits_first : Bool → ℕ → ℕ
waits_first b n = cond b (suc n) n

pub waiting_cons : (j : ℕ) (h : Pending) (hs : List Pending) → waiting j (h ∷ hs) ≡ waits_first (waits j h) (waiting j hs)
waiting_cons j h hs = at_bool (λ b. length (cond b (h ∷ filter (waits j) hs) (filter (waits j) hs)) ≡ waits_first b (waiting j hs)) (waits j h) (λ _. refl) (λ _. refl)

pub waiting_without : (j i m : ℕ) → j ≢ i → (hs : List Pending) → Each (λ (g : Pending). g.question.number ≡ m → g.server ≡ i) hs → waiting j (without m hs) ≡ waiting j hs
waiting_without j i m d [] x = refl
waiting_without j i m d (h ∷ hs) x =
    let r = waiting_without j i m d hs x.1 in
    at_bool (λ b. (h.question.number == m) ≡ b → waiting j (cond (not b) (h ∷ without m hs) (without m hs)) ≡ waiting j (h ∷ hs)) (h.question.number == m)
    (λ _ e. r ∙ sym (waiting_cons j h hs ∙ ap (λ b. waits_first b (waiting j hs)) (not_waiting j i d h (x.0 (eq_tells h.question.number m e)))))
    (λ _ _. waiting_cons j h (without m hs) ∙ ap (waits_first (waits j h)) r ∙ sym (waiting_cons j h hs)) refl

pub waiting_with : (j i : ℕ) → j ≢ i → (new : Pending) → new.server ≡ i → (hs : List Pending) → Each (λ (g : Pending). g.question.number ≡ new.question.number → g.server ≡ i) hs → waiting j (with_held new hs) ≡ waiting j hs
waiting_with j i d new at [] x = refl
waiting_with j i d new at (h ∷ hs) x =
    let r = waiting_with j i d new at hs x.1 in
    at_bool (λ b. (h.question.number == new.question.number) ≡ b → waiting j (cond b new h ∷ with_held new hs) ≡ waiting j (h ∷ hs)) (h.question.number == new.question.number)
    (λ _ e. waiting_cons j new (with_held new hs) ∙ ap (λ b. waits_first b (waiting j (with_held new hs))) (not_waiting j i d new at) ∙ r
    ∙ sym (waiting_cons j h hs ∙ ap (λ b. waits_first b (waiting j hs)) (not_waiting j i d h (x.0 (eq_tells h.question.number new.question.number e)))))
    (λ _ _. waiting_cons j h (with_held new hs) ∙ ap (waits_first (waits j h)) r ∙ sym (waiting_cons j h hs)) refl

-- a number is of one held request
unique : (hs : List Pending) → Ascends hs → (h : Pending) → IsAmong h hs → Each (λ (g : Pending). g.question.number ≡ h.question.number → g.server ≡ h.server) hs
unique [] a h m = absurd m
unique (x ∷ xs) a h (inl e) = (λ _. ap (λ (z : Pending). z.server) (sym e), each_map (λ (g : Pending). x.question.number < g.question.number) _ (λ g l q. absurd (let k = ap (λ (z : Pending). z.question.number) e in omega arith)) xs a.0)
unique (x ∷ xs) a h (inr m) = (λ q. absurd (let l = each_among (λ (g : Pending). x.question.number < g.question.number) xs h a.0 m in omega arith), unique xs a.1 h m)

pub all_there : (j : ℕ) (hs : List Pending) → Each (λ (g : Pending). g.server ≡ j → IsAmong g hs) hs
all_there j hs = each_map (λ (g : Pending). IsAmong g hs) (λ (g : Pending). g.server ≡ j → IsAmong g hs) (λ g m _. m) hs (all_among hs)

module _ (j i : ℕ) (d : j ≢ i) (c : Cluster) (a : Ascends c.held) where
  module _ (h : Pending) (m : IsAmong h c.held) (at : h.server ≡ i) where
    mine : Each (λ (g : Pending). g.question.number ≡ h.question.number → g.server ≡ i) c.held
    mine = subst (λ z. Each (λ (g : Pending). g.question.number ≡ h.question.number → g.server ≡ z) c.held) at (unique c.held a h m)

    replied : (kind : Kind) → SameAt j c (did i (Replies h.question kind) c)
    unfolding did
    replied kind = record {
      node = refl;
      applied = refl;
      clock = refl;
      waits_same = waiting_without j i h.question.number d c.held mine;
      held = each_kept (λ (g : Pending). g.server ≡ j → IsAmong g c.held) h.question.number c.held (all_there j c.held);
    }

    closed : (event : ℕ) → SameAt j c (did i (Closes h.question.number event) c)
    unfolding did
    closed event = record {
      node = refl;
      applied = refl;
      clock = refl;
      waits_same = waiting_without j i h.question.number d c.held mine;
      held = each_kept (λ (g : Pending). g.server ≡ j → IsAmong g c.held) h.question.number c.held (all_there j c.held);
    }

    stands : (stand : Stand) → SameAt j c (did i (Holds (record h { stand = stand })) c)
    unfolding did
    stands stand = record {
      node = refl;
      applied = refl;
      clock = refl;
      waits_same = waiting_with j i d (record h { stand = stand }) at c.held mine;
      held = each_with (λ (g : Pending). g.server ≡ j → IsAmong g c.held) (record h { stand = stand }) c.held (λ e. absurd (d (sym e ∙ at))) (all_there j c.held);
    }

    leaves : Leaves c i (λ w. SameAt j c (did i w c)) h
    leaves = record {
      halted = λ e n. replied _;
      closes = λ event e. closed event;
      lands = λ index term e l. replied _;
      rises = λ round deadline e l. replied _;
      answers = λ deadline looked query mode least wait raw st ask due. replied _;
      refuses = λ deadline query mode least wait raw st ask below early l. replied _;
      sees = λ deadline query mode least wait raw st ask below. stands _;
      runs = λ deadline looked name limit mode st ask. replied _;
      turns = λ round deadline st up confirmed l. stands _;
    }

  applies_other : SameAt j c (did i Applies c)
  unfolding did
  applies_other = record { node = refl; applied = ap (λ z. z.applied) (item_other no_server c.servers i j _ d); clock = refl; waits_same = refl; held = all_there j c.held }

  did_other : (w : Work) → IsDue i c w → SameAt j c (did i w c)
  did_other w e = due_cases c i (λ w. SameAt j c (did i w c)) (λ h. IsAmong h c.held) (all_among c.held) leaves (λ _. applies_other) w e

did_ascends : (i : ℕ) (w : Work) (c : Cluster) → Ascends c.held → Ascends (did i w c).held
unfolding did
did_ascends i (Replies q kind) c a = ascends_without q.number c.held a
did_ascends i (Holds h) c a = ascends_with h c.held a
did_ascends i (Closes number event) c a = ascends_without number c.held a
did_ascends i Applies c a = a

pub works_other : (j i : ℕ) → j ≢ i → (c c' : Cluster) → Ascends c.held → Works i c c' → SameAt j c c'
works_other j i d c c' a none = record { node = refl; applied = refl; clock = refl; waits_same = refl; held = all_there j c.held }
works_other j i d c c' a (work w e more) = same_on j c (did i w c) c' (did_other j i d c a w e) (works_other j i d (did i w c) c' (did_ascends i w c a) more)
