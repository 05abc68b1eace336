-- Server 1 is ahead of all others, and stays so whatever else is done, unless another server stands for election, or a
-- server restarts or has a store that fails.
use Rattle.std.proofs.Common.{◌≡◌, ◌≢◌, ℕ, suc, ◌<◌, ◌≤◌, ◌⊎◌, inl, inr, true, false, cond, List, [], ◌∷◌, ◌++◌, length, Some, None, refl, sym, ◌∙◌, ap, subst, arith}
use Rattle.std.specs.Prelude.{◌==◌}
use Rattle.std.specs.List.{AllByRecursion as Each}
use Rattle.cat_model.specs.declared.reply.Role.TheVariants.{Follower, Leader}
use Rattle.raft_model.specs.declared.message.Message.{Message}
use Rattle.raft_model.specs.declared.message.Message.TheVariants.{Append, AskVote, No, Vote, Yes}
use Rattle.raft_model.specs.declared.message.Sent.{Sent}
use Rattle.raft_model.specs.Node.{Kept, Node, Store}
use Rattle.raft_model.specs.Rules.{Beat, Input, Probe, Propose, Receive, Timeout, done, term_of}
use Rattle.raft_model.specs.Step.{CallFails, CallWorks, Forgets, LogFails, LogStored, NodeStep, Outcome, VoteFails, VoteSaved, Works}
use Rattle.raft_model.specs.World.{Acts, Bag, Packet, World, posted, posted_all, takes}
use Rattle.raft_model.proofs.Tests.{at_bool, eq_tells}
use Rattle.cluster_rules.specs.Cluster.{no_node, node_of}
use Rattle.cluster_rules.proofs.Running.{done_up}
use Rattle.cluster_rules.proofs.Tools.{at_item, each_append, eq_tells_not, is_node, is_place, item_other, item_same, length_set_server}
use Rattle.raft_model.specs.Log.{Log}
use Rattle.raft_model.proofs.Going.{longer_length}
use Rattle.raft_model.proofs.Logs.{front_take}
use Rattle.std.proofs.Common.{take}
use Rattle.std.proofs.Math.Seq.{take-append_seam, take-length}
use Rattle.rerun_rules.proofs.Growing.{Grown, Minds, done_grown}
use Rattle.rerun_rules.proofs.Knowing.{AreLeaders, IsLeaders, IsLed, Knows, done_honest, done_knows}
use Rattle.rerun_rules.proofs.Steady.{AreUpTo, Hears, done_rests, done_stands, up_more}

-- a store that fails no call, and will not
abbrev pub IsReliable : Store → Type 0
IsReliable s = (s.sure ≡ true) × (s.armed ≡ 0)

pub call_works : (change : Kept → Kept) (old new : Store) → CallWorks change old new → IsReliable old → IsReliable new
call_works change old new c r = (c.sure ∙ r.0, let a = c.armed in let z = r.1 in omega arith)

pub call_fails : (change : Kept → Kept) (old new : Store) → CallFails change old new → IsReliable old → ⊥
call_fails change old new c r = let a = (c.asked r.0).0 in let z = r.1 in omega arith

pub vote_saved : (old new : Node) (before after : Store) → VoteSaved old new before after → IsReliable before → IsReliable after
vote_saved old new before after (inl (h, e)) r = subst IsReliable (sym e) r
vote_saved old new before after (inr (h, c)) r = call_works _ before after c r

log_stored : (old new : Node) (before after : Store) → LogStored old new before after → IsReliable before → IsReliable after
log_stored old new before after (inl (h, e)) r = subst IsReliable (sym e) r
log_stored old new before after (inr (h, c)) r = call_works _ before after c r

-- a running server whose store is reliable
pub record IsWell (n : Node) : Type 0 where
  pub runs : n.halted ≡ false
  pub store : IsReliable n.store

step_well : (o : Outcome) (old : Node) (input : Input) (new : Node) (sent : List Sent) → NodeStep o old input new sent → IsWell old → IsWell new
step_well Works old input new sent (between, v, g, e, s) w = record {
  runs = ap (λ (n : Node). n.halted) e ∙ done_up old input w.runs;
  store = log_stored old (done old input).node between new.store g (vote_saved old (done old input).node old.store between v w.store);
}
step_well VoteFails old input new sent (v, f, e, s) w = absurd (call_fails _ old.store new.store f w.store)
step_well LogFails old input new sent (between, v, g, f, e, s) w = absurd (call_fails _ between new.store f (vote_saved old (done old input).node old.store between v w.store))
step_well Forgets old input new sent (v, c, g, e, s) w = record { runs = ap (λ (n : Node). n.halted) e ∙ w.runs; store = call_works _ old.store new.store c w.store }

-- An Append that is sent is of server 1, which leads, and of its term.
abbrev pub IsFirsts : Node → ℕ → Message → Type 0
IsFirsts first from (Append term prev prev_term entries commit round) = (from ≡ 1) × (term ≡ first.term) × (first.role ≡ Leader)
IsFirsts first from other = Unit {0}

abbrev pub AreFirsts : Node → ℕ → List Sent → Type 0
AreFirsts first from sent = Each (λ (s : Sent). IsFirsts first from s.message) sent

-- who follows sends none
silent_one : (n first : Node) (i : ℕ) (m : Message) → n.role ≡ Follower → IsLeaders n m → IsFirsts first i m
silent_one n first i (Append term prev prev_term entries commit round) f x = let l = x.1 in cc (f, l)
silent_one n first i (AskVote term last_index last_term) f x = tt
silent_one n first i (Vote term granted) f x = tt
silent_one n first i (Yes term matched round) f x = tt
silent_one n first i (No term last) f x = tt

silent : (n first : Node) (i : ℕ) (ss : List Sent) → n.role ≡ Follower → AreLeaders n ss → AreFirsts first i ss
silent n first i [] f a = tt
silent n first i (s ∷ ss) f a = (silent_one n first i s.message f a.0, silent n first i ss f a.1)

-- server 1 sends its own
own_one : (n first : Node) (m : Message) → first.term ≡ n.term → first.role ≡ n.role → IsLeaders n m → IsFirsts first 1 m
own_one n first (Append term prev prev_term entries commit round) t r x = (refl, x.0 ∙ sym t, r ∙ x.1)
own_one n first (AskVote term last_index last_term) t r x = tt
own_one n first (Vote term granted) t r x = tt
own_one n first (Yes term matched round) t r x = tt
own_one n first (No term last) t r x = tt

own_ones : (n first : Node) (ss : List Sent) → first.term ≡ n.term → first.role ≡ n.role → AreLeaders n ss → AreFirsts first 1 ss
own_ones n first [] t r a = tt
own_ones n first (s ∷ ss) t r a = (own_one n first s.message t r a.0, own_ones n first ss t r a.1)

-- What a server other than 1 holds for leader: nobody, or server 1, which leads in its term.
abbrev pub HoldsFirst : Node → Node → Type 0
HoldsFirst first n = (n.leader ≡ None) ⊎ ((n.leader ≡ Some 1) × (n.term ≡ first.term) × (first.role ≡ Leader))

-- A follower of a term up to t follows still.
pub record Follows (t : ℕ) (old : Node) (input : Input) (new : Node) (sent : List Sent) : Type 0 where
  pub role : new.role ≡ Follower
  pub up : old.term ≤ new.term
  pub term : new.term ≤ t
  pub tells : AreUpTo t sent
  pub quiet_ : (first : Node) (i : ℕ) → AreFirsts first i sent
  pub knows : Knows old input new

-- what a follower knows does not tell its store
knows_stored : (old n new : Node) (input : Input) → new.leader ≡ n.leader → new.term ≡ n.term → Knows old input n → Knows old input new
knows_stored old n new input l t (inl (none, up)) = inl (l ∙ none, let k = t in omega arith)
knows_stored old n new input l t (inr (inl same)) = inr (inl (l ∙ same))
knows_stored old n new input l t (inr (inr x)) = inr (inr (led input x))
  where
    led : (input : Input) → IsLed input n → IsLed input new
    led (Receive from (Append term prev prev_term entries commit round)) x = (l ∙ x.0, t ∙ x.1)
    led (Receive from (AskVote term last_index last_term)) x = absurd x
    led (Receive from (Vote term granted)) x = absurd x
    led (Receive from (Yes term matched round)) x = absurd x
    led (Receive from (No term last)) x = absurd x
    led Timeout x = absurd x
    led Beat x = absurd x
    led (Propose number command) x = absurd x
    led Probe x = absurd x

no_timeout : (t : ℕ) (input : Input) → Hears t input → input ≡ Timeout → ⊥
no_timeout t input h e = subst (Hears t) e h

step_follows : (t : ℕ) (o : Outcome) (old : Node) (input : Input) (new : Node) (sent : List Sent) → NodeStep o old input new sent → IsWell old → old.role ≡ Follower → old.term ≤ t → Hears t input → Follows t old input new sent
step_follows t Works old input new sent (between, v, g, e, s) w f l h =
    let d = done_rests t old input l h in
    record {
      role = ap (λ (n : Node). n.role) e ∙ d.follows f;
      up = let k = ap (λ (n : Node). n.term) e in let u = d.up in omega arith;
      term = let k = ap (λ (n : Node). n.term) e in let u = d.under in omega arith;
      tells = subst (AreUpTo t) (sym s) (up_more (done old input).node.term t d.under (done old input).sent d.sent);
      quiet_ = λ first i. subst (AreFirsts first i) (sym s) (silent (done old input).node first i (done old input).sent (d.follows f) (done_honest old input));
      knows = knows_stored old (done old input).node new input (ap (λ (n : Node). n.leader) e) (ap (λ (n : Node). n.term) e) (done_knows old input f (no_timeout t input h));
    }
step_follows t VoteFails old input new sent (v, x, e, s) w f l h = absurd (call_fails _ old.store new.store x w.store)
step_follows t LogFails old input new sent (between, v, g, x, e, s) w f l h = absurd (call_fails _ between new.store x (vote_saved old (done old input).node old.store between v w.store))
step_follows t Forgets old input new sent (v, c, g, e, s) w f l h =
    let d = done_rests t old input l h in
    record {
      role = ap (λ (n : Node). n.role) e;
      up = let k = ap (λ (n : Node). n.term) e in let u = d.up in omega arith;
      term = let k = ap (λ (n : Node). n.term) e in let u = d.under in omega arith;
      tells = subst (AreUpTo t) (sym s) tt;
      quiet_ = λ first i. subst (AreFirsts first i) (sym s) tt;
      knows = inl (ap (λ (n : Node). n.leader) e, let k = ap (λ (n : Node). n.term) e in let r = rose d.up d.one in omega arith);
    }
  where
    -- its vote and its log changed both, so its term rose
    rose : old.term ≤ (done old input).node.term → ((done old input).node.term ≡ old.term → ((done old input).node.vote ≡ old.vote) ⊎ ((done old input).node.log ≡ old.log)) → old.term < (done old input).node.term
    rose up one = at_bool (λ b. ((done old input).node.term == old.term) ≡ b → old.term < (done old input).node.term) ((done old input).node.term == old.term)
        (λ _ q. let same = eq_tells (done old input).node.term old.term q in absurd (elim (one same) [ inl k ↦ v (same, k) | inr k ↦ g k ]))
        (λ _ q. let n = eq_tells_not (done old input).node.term old.term q in omega arith) refl

-- It is told of no term above its own; it may stand for election.
abbrev pub Bears : Node → Input → Type 0
Bears n Timeout = Unit {0}
Bears n (Receive from message) = term_of message ≤ n.term
Bears n other = Unit {0}

-- a log that has one entry more, or none
pub front_of : (old new : Log) → Grown old new → take (length old) new ≡ old
front_of old new (inl e) = ap (take (length old)) e ∙ take-length old
front_of old new (inr (x, e)) = ap (take (length old)) e ∙ take-append_seam old (x ∷ [])

-- Its term never falls, its log only grows, and a leader leads on in its term.
pub record Leads (old new : Node) (sent : List Sent) : Type 0 where
  pub up : old.term ≤ new.term
  pub tells : AreUpTo new.term sent
  pub firsts : AreFirsts new 1 sent
  pub grows : take (length old.log) new.log ≡ old.log
  pub on : old.role ≡ Leader → (new.role ≡ Leader) × (new.term ≡ old.term)

record Does (old : Node) (input : Input) : Type 0 where
  pub up : old.term ≤ (done old input).node.term
  pub sent : AreUpTo (done old input).node.term (done old input).sent
  pub on : old.role ≡ Leader → ((done old input).node.role ≡ Leader) × ((done old input).node.term ≡ old.term) × (((done old input).node.vote ≡ old.vote) ⊎ ((done old input).node.log ≡ old.log))

does_own : (old : Node) (input : Input) → Hears old.term input → Does old input
does_own old input h =
    let d = done_rests old.term old input (omega arith) h in
    let same : (done old input).node.term ≡ old.term = let a = d.up in let b = d.under in omega arith in
    record { up = d.up; sent = d.sent; on = λ e. (d.leads e refl, same, d.one same) }

does_it : (old : Node) (input : Input) → Bears old input → Does old input
does_it old Timeout b = let d = done_stands old in record { up = d.up; sent = d.sent; on = d.leads }
does_it old Beat b = does_own old Beat tt
does_it old (Receive from m) b = does_own old (Receive from m) b
does_it old (Propose number command) b = does_own old (Propose number command) tt
does_it old Probe b = does_own old Probe tt

step_leads : (o : Outcome) (old : Node) (input : Input) (new : Node) (sent : List Sent) → NodeStep o old input new sent → IsWell old → Bears old input → Minds old input → Leads old new sent
step_leads Works old input new sent (between, v, g, e, s) w b mind =
    let d = does_it old input b in
    record {
      up = let k = ap (λ (n : Node). n.term) e in let u = d.up in omega arith;
      tells = subst (λ t. AreUpTo t sent) (sym (ap (λ (n : Node). n.term) e)) (subst (AreUpTo (done old input).node.term) (sym s) d.sent);
      firsts = subst (AreFirsts new 1) (sym s) (own_ones (done old input).node new (done old input).sent (ap (λ (n : Node). n.term) e) (ap (λ (n : Node). n.role) e) (done_honest old input));
      grows = ap (take (length old.log)) (ap (λ (n : Node). n.log) e) ∙ front_of old.log (done old input).node.log (done_grown old input mind);
      on = λ r. let l = d.on r in (ap (λ (n : Node). n.role) e ∙ l.0, ap (λ (n : Node). n.term) e ∙ l.1);
    }
step_leads VoteFails old input new sent (v, x, e, s) w b mind = absurd (call_fails _ old.store new.store x w.store)
step_leads LogFails old input new sent (between, v, g, x, e, s) w b mind = absurd (call_fails _ between new.store x (vote_saved old (done old input).node old.store between v w.store))
step_leads Forgets old input new sent (v, c, g, e, s) w b mind =
    let d = does_it old input b in
    record {
      up = let k = ap (λ (n : Node). n.term) e in let u = d.up in omega arith;
      tells = subst (AreUpTo new.term) (sym s) tt;
      firsts = subst (AreFirsts new 1) (sym s) tt;
      grows = ap (take (length old.log)) (ap (λ (n : Node). n.log) e) ∙ take-length old.log;
      on = λ r. absurd (neither (d.on r));
    }
  where
    -- a leader's step does not change both what it votes and its log
    neither : ((done old input).node.role ≡ Leader) × ((done old input).node.term ≡ old.term) × (((done old input).node.vote ≡ old.vote) ⊎ ((done old input).node.log ≡ old.log)) → ⊥
    neither (r, t, inl k) = v (t, k)
    neither (r, t, inr k) = g k

-- A leader's step works.
pub leader_works : (o : Outcome) (old : Node) (input : Input) (new : Node) (sent : List Sent) → NodeStep o old input new sent → IsWell old → Bears old input → old.role ≡ Leader → new ≡ record (done old input).node { store = new.store }
leader_works Works old input new sent (between, v, g, e, s) w b r = e
leader_works VoteFails old input new sent (v, x, e, s) w b r = absurd (call_fails _ old.store new.store x w.store)
leader_works LogFails old input new sent (between, v, g, x, e, s) w b r = absurd (call_fails _ between new.store x (vote_saved old (done old input).node old.store between v w.store))
leader_works Forgets old input new sent (v, c, g, e, s) w b r = absurd (neither ((does_it old input b).on r))
  where
    neither : ((done old input).node.role ≡ Leader) × ((done old input).node.term ≡ old.term) × (((done old input).node.vote ≡ old.vote) ⊎ ((done old input).node.log ≡ old.log)) → ⊥
    neither (r, t, inl k) = v (t, k)
    neither (r, t, inr k) = g k

-- The world. No message in the bag is of a term above this one.
abbrev pub AreBelow : ℕ → List Packet → Type 0
AreBelow t packets = Each (λ (p : Packet). term_of p.message ≤ t) packets

pub below_more : (t u : ℕ) → t ≤ u → (ps : List Packet) → AreBelow t ps → AreBelow u ps
below_more t u l [] a = tt
below_more t u l (p ∷ ps) a = (let k = a.0 in omega arith, below_more t u l ps a.1)

posted_each : (P : ℕ → Message → Type 0) (from : ℕ) (s : Sent) (bag : Bag) → Each (λ (p : Packet). P p.from p.message) bag.packets → P from s.message → Each (λ (p : Packet). P p.from p.message) (posted from s bag).packets
posted_each P from s bag a x = at_bool
    (λ b. Each (λ (p : Packet). P p.from p.message) (cond b (record { packets = bag.packets ++ record { number = suc bag.last; from = from; to = s.to; message = s.message } ∷ []; last = suc bag.last }) bag).packets) (takes bag s.message)
    (λ _. each_append (λ (p : Packet). P p.from p.message) bag.packets (record { number = suc bag.last; from = from; to = s.to; message = s.message } ∷ []) a (x, tt)) (λ _. a)

all_posted : (P : ℕ → Message → Type 0) (from : ℕ) (ss : List Sent) (bag : Bag) → Each (λ (p : Packet). P p.from p.message) bag.packets → Each (λ (s : Sent). P from s.message) ss → Each (λ (p : Packet). P p.from p.message) (posted_all from ss bag).packets
all_posted P from [] bag a x = a
all_posted P from (s ∷ ss) bag a x = all_posted P from ss (posted from s bag) (posted_each P from s bag a x.0) x.1

abbrev pub AreAllFirsts : Node → List Packet → Type 0
AreAllFirsts first packets = Each (λ (p : Packet). IsFirsts first p.from p.message) packets

-- server 1 leads on
first_on : (a b : Node) (from : ℕ) (m : Message) → (a.role ≡ Leader → (b.role ≡ Leader) × (b.term ≡ a.term)) → IsFirsts a from m → IsFirsts b from m
first_on a b from (Append term prev prev_term entries commit round) f x = let o = f x.2 in (x.0, x.1 ∙ sym o.1, o.0)
first_on a b from (AskVote term last_index last_term) f x = tt
first_on a b from (Vote term granted) f x = tt
first_on a b from (Yes term matched round) f x = tt
first_on a b from (No term last) f x = tt

firsts_on : (a b : Node) (ps : List Packet) → (a.role ≡ Leader → (b.role ≡ Leader) × (b.term ≡ a.term)) → AreAllFirsts a ps → AreAllFirsts b ps
firsts_on a b [] f x = tt
firsts_on a b (p ∷ ps) f x = (first_on a b p.from p.message f x.0, firsts_on a b ps f x.1)

holds_on : (a b n : Node) → (a.role ≡ Leader → (b.role ≡ Leader) × (b.term ≡ a.term)) → HoldsFirst a n → HoldsFirst b n
holds_on a b n f (inl e) = inl e
holds_on a b n f (inr x) = let o = f x.2 in inr (x.0, x.1 ∙ sym o.1, o.0)

-- Each server runs, any but server 1 follows in a term up to server 1's, and so is each message's term. Only server 1
-- sends an Append, and nobody else is held for leader.
pub record IsAhead (w : World) : Type 0 where
  pub well : (i : ℕ) → 0 < i → i ≤ length w.nodes → IsWell (node_of w i)
  pub follow : (i : ℕ) → 0 < i → i ≤ length w.nodes → i ≢ 1 → ((node_of w i).role ≡ Follower) × ((node_of w i).term ≤ (node_of w 1).term)
  pub told : AreBelow (node_of w 1).term w.bag.packets
  pub appends : AreAllFirsts (node_of w 1) w.bag.packets
  pub led : (i : ℕ) → 0 < i → i ≤ length w.nodes → i ≢ 1 → HoldsFirst (node_of w 1) (node_of w i)

-- It stays ahead, its log only grows, and a leader leads on in its term. Who holds it for leader does so still.
pub record StaysAhead (w w' : World) : Type 0 where
  pub ahead : IsAhead w'
  pub count : length w'.nodes ≡ length w.nodes
  pub grows : take (length (node_of w 1).log) (node_of w' 1).log ≡ (node_of w 1).log
  pub on : (node_of w 1).role ≡ Leader → ((node_of w' 1).role ≡ Leader) × ((node_of w' 1).term ≡ (node_of w 1).term)
  pub holds : (i : ℕ) → 0 < i → i ≤ length w.nodes → i ≢ 1 → (node_of w i).leader ≡ Some 1 → (node_of w' i).leader ≡ Some 1

pub ahead_on : (a b c : World) → StaysAhead a b → StaysAhead b c → StaysAhead a c
ahead_on a b c x y = record {
  ahead = y.ahead;
  count = y.count ∙ x.count;
  grows = front_take (length (node_of a 1).log) (node_of b 1).log (node_of c 1).log y.grows (longer_length (node_of a 1).log (node_of b 1).log x.grows) ∙ x.grows;
  on = λ r. let k = x.on r in let l = y.on k.0 in (l.0, l.1 ∙ k.1);
  holds = λ i p l d e. y.holds i p (let k = x.count in omega arith) d (x.holds i p l d e);
}

-- what server i may be given
abbrev pub May : World → ℕ → Input → Type 0
May w i Timeout = i ≡ 1
May w i (Receive from message) = (term_of message ≤ (node_of w 1).term) × IsFirsts (node_of w 1) from message
May w i other = Unit {0}

may_hear : (w : World) (i : ℕ) (input : Input) → i ≢ 1 → May w i input → Hears (node_of w 1).term input
may_hear w i Timeout n m = absurd (n m)
may_hear w i Beat n m = tt
may_hear w i (Receive from message) n m = m.0
may_hear w i (Propose number command) n m = tt
may_hear w i Probe n m = tt

may_bear : (w : World) (i : ℕ) (input : Input) (old : Node) → node_of w 1 ≡ old → May w i input → Bears old input
may_bear w i Timeout old e m = tt
may_bear w i Beat old e m = tt
may_bear w i (Receive from message) old e m = let k = ap (λ (n : Node). n.term) e in let l = m.0 in omega arith
may_bear w i (Propose number command) old e m = tt
may_bear w i Probe old e m = tt

may_mind : (w : World) (i : ℕ) (input : Input) (old : Node) → node_of w 1 ≡ old → May w i input → Minds old input
may_mind w i Timeout old e m = tt
may_mind w i Beat old e m = tt
may_mind w i (Receive from (Append term prev prev_term entries commit round)) old e m = (ap (λ (n : Node). n.role) (sym e) ∙ m.1.2, let k = ap (λ (n : Node). n.term) e in let l = m.0 in omega arith)
may_mind w i (Receive from (AskVote term last_index last_term)) old e m = tt
may_mind w i (Receive from (Vote term granted)) old e m = tt
may_mind w i (Receive from (Yes term matched round)) old e m = tt
may_mind w i (Receive from (No term last)) old e m = tt
may_mind w i (Propose number command) old e m = tt
may_mind w i Probe old e m = tt

-- What a follower then holds for leader.
holds_then : (w : World) (i : ℕ) (input : Input) (old new : Node) (sent : List Sent) → May w i input → Follows (node_of w 1).term old input new sent → HoldsFirst (node_of w 1) old → HoldsFirst (node_of w 1) new
holds_then w i input old new sent may f h = by f.knows h
  where
    led : (input : Input) → May w i input → IsLed input new → HoldsFirst (node_of w 1) new
    led (Receive from (Append term prev prev_term entries commit round)) m x = inr (x.0 ∙ ap (λ z. Some z) m.1.0, x.1 ∙ m.1.1, m.1.2)
    led (Receive from (AskVote term last_index last_term)) m x = absurd x
    led (Receive from (Vote term granted)) m x = absurd x
    led (Receive from (Yes term matched round)) m x = absurd x
    led (Receive from (No term last)) m x = absurd x
    led Timeout m x = absurd x
    led Beat m x = absurd x
    led (Propose number command) m x = absurd x
    led Probe m x = absurd x

    by : Knows old input new → HoldsFirst (node_of w 1) old → HoldsFirst (node_of w 1) new
    by (inl x) h = inl x.0
    by (inr (inl e)) (inl none) = inl (e ∙ none)
    by (inr (inl e)) (inr x) = inr (e ∙ x.0, let u = f.up in let t = f.term in let k = x.1 in omega arith, x.2)
    by (inr (inr x)) h = led input may x

holds_still : (w : World) (i : ℕ) (input : Input) (old new : Node) (sent : List Sent) → May w i input → Follows (node_of w 1).term old input new sent → HoldsFirst (node_of w 1) old → old.leader ≡ Some 1 → new.leader ≡ Some 1
holds_still w i input old new sent may f h e = by f.knows h
  where
    led : (input : Input) → May w i input → IsLed input new → new.leader ≡ Some 1
    led (Receive from (Append term prev prev_term entries commit round)) m x = x.0 ∙ ap (λ z. Some z) m.1.0
    led (Receive from (AskVote term last_index last_term)) m x = absurd x
    led (Receive from (Vote term granted)) m x = absurd x
    led (Receive from (Yes term matched round)) m x = absurd x
    led (Receive from (No term last)) m x = absurd x
    led Timeout m x = absurd x
    led Beat m x = absurd x
    led (Propose number command) m x = absurd x
    led Probe m x = absurd x

    by : Knows old input new → HoldsFirst (node_of w 1) old → new.leader ≡ Some 1
    by (inr (inl s)) h = s ∙ e
    by (inr (inr x)) h = led input may x
    by (inl x) (inl none) = absurd (cc (e, none))
    by (inl x) (inr y) = absurd (let u = x.1 in let t = f.term in let k = y.1 in omega arith)

pub acts_ahead : (w : World) (i : ℕ) (input : Input) (w' : World) → Acts w i input w' → May w i input → IsAhead w → StaysAhead w w'
acts_ahead w i input w' a may s = at_bool (λ b. (i == 1) ≡ b → StaysAhead w w') (i == 1) (λ _ e. first (eq_tells i 1 e)) (λ _ e. other (eq_tells_not i 1 e)) refl
  where
    place : (0 < i) × (i ≤ length w.nodes)
    place = is_place w i a.old a.server

    was : node_of w i ≡ a.old
    was = is_node w i a.old a.server

    now : node_of w' i ≡ a.new
    now = ap (λ (z : World). node_of z i) a.becomes ∙ item_same no_node w.nodes i a.new place.0 place.1

    count : length w'.nodes ≡ length w.nodes
    count = ap (λ (z : World). length z.nodes) a.becomes ∙ length_set_server w.nodes i a.new

    old_well : IsWell a.old
    old_well = subst IsWell was (s.well i place.0 place.1)

    others : (j : ℕ) → j ≢ i → node_of w' j ≡ node_of w j
    others j d = ap (λ (z : World). node_of z j) a.becomes ∙ item_other no_node w.nodes i j a.new d

    well : (j : ℕ) → 0 < j → j ≤ length w'.nodes → IsWell (node_of w' j)
    well j p l = subst (λ (z : World). IsWell (node_of z j)) (sym a.becomes)
        (at_item IsWell no_node w.nodes i a.new j (λ _. step_well a.outcome a.old input a.new a.sent a.step old_well) (s.well j p (omega (arith, l, count))))

    bag : (t : ℕ) → (node_of w 1).term ≤ t → AreUpTo t a.sent → AreBelow t w'.bag.packets
    bag t l u = subst (λ (z : World). AreBelow t z.bag.packets) (sym a.becomes) (all_posted (λ _ m. term_of m ≤ t) i a.sent w.bag (below_more (node_of w 1).term t l w.bag.packets s.told) u)

    bag_firsts : ((node_of w 1).role ≡ Leader → ((node_of w' 1).role ≡ Leader) × ((node_of w' 1).term ≡ (node_of w 1).term)) → AreFirsts (node_of w' 1) i a.sent → AreAllFirsts (node_of w' 1) w'.bag.packets
    bag_firsts on x = subst (λ (z : World). AreAllFirsts (node_of w' 1) z.bag.packets) (sym a.becomes) (all_posted (IsFirsts (node_of w' 1)) i a.sent w.bag (firsts_on (node_of w 1) (node_of w' 1) w.bag.packets on s.appends) x)

    first : i ≡ 1 → StaysAhead w w'
    first e = record {
      ahead = record {
        well = well;
        follow = λ j p l d. let o = others j (λ q. d (q ∙ e)) in let f = s.follow j p (omega (arith, l, count)) d in
            (ap (λ (n : Node). n.role) o ∙ f.0, let k = ap (λ (n : Node). n.term) o in let m = f.1 in let u = up in omega arith);
        told = bag (node_of w' 1).term up (subst (λ t. AreUpTo t a.sent) (sym (ap (λ (n : Node). n.term) new)) x.tells);
        appends = bag_firsts on (subst (λ z. AreFirsts (node_of w' 1) z a.sent) (sym e) (subst (λ (n : Node). AreFirsts n 1 a.sent) (sym new) x.firsts));
        led = λ j p l d. holds_on (node_of w 1) (node_of w' 1) (node_of w' j) on
            (subst (λ (n : Node). HoldsFirst (node_of w 1) n) (sym (others j (λ q. d (q ∙ e)))) (s.led j p (omega (arith, l, count)) d));
      };
      count = count;
      grows = subst (λ (n : Node). take (length n.log) (node_of w' 1).log ≡ n.log) (sym old) (subst (λ (n : Node). take (length a.old.log) n.log ≡ a.old.log) (sym new) x.grows);
      on = on;
      holds = λ j p l d q. ap (λ (n : Node). n.leader) (others j (λ z. d (z ∙ e))) ∙ q;
    }
      where
        old : node_of w 1 ≡ a.old
        old = ap (node_of w) (sym e) ∙ was

        new : node_of w' 1 ≡ a.new
        new = ap (node_of w') (sym e) ∙ now

        x : Leads a.old a.new a.sent
        x = step_leads a.outcome a.old input a.new a.sent a.step old_well (may_bear w i input a.old old may) (may_mind w i input a.old old may)

        on : (node_of w 1).role ≡ Leader → ((node_of w' 1).role ≡ Leader) × ((node_of w' 1).term ≡ (node_of w 1).term)
        on r = let o = x.on (ap (λ (n : Node). n.role) (sym old) ∙ r) in (ap (λ (n : Node). n.role) new ∙ o.0, ap (λ (n : Node). n.term) new ∙ (o.1 ∙ ap (λ (n : Node). n.term) (sym old)))

        up : (node_of w 1).term ≤ (node_of w' 1).term
        up = let k = ap (λ (n : Node). n.term) old in let m = ap (λ (n : Node). n.term) new in let u = x.up in omega arith

    other : i ≢ 1 → StaysAhead w w'
    other d = record {
      ahead = record {
        well = well;
        follow = λ j p l n. subst (λ t. ((node_of w' j).role ≡ Follower) × ((node_of w' j).term ≤ t)) (sym (ap (λ (n : Node). n.term) same))
            (subst (λ (z : World). ((node_of z j).role ≡ Follower) × ((node_of z j).term ≤ (node_of w 1).term)) (sym a.becomes)
            (at_item (λ (m : Node). (m.role ≡ Follower) × (m.term ≤ (node_of w 1).term)) no_node w.nodes i a.new j (λ _. (x.role, x.term)) (s.follow j p (omega (arith, l, count)) n)));
        told = bag (node_of w' 1).term (let k = ap (λ (n : Node). n.term) same in omega arith) (subst (λ t. AreUpTo t a.sent) (sym (ap (λ (n : Node). n.term) same)) x.tells);
        appends = bag_firsts on (x.quiet_ (node_of w' 1) i);
        led = λ j p l n. holds_on (node_of w 1) (node_of w' 1) (node_of w' j) on
            (subst (λ (z : World). HoldsFirst (node_of w 1) (node_of z j)) (sym a.becomes)
            (at_item (HoldsFirst (node_of w 1)) no_node w.nodes i a.new j (λ _. holds_then w i input a.old a.new a.sent may x held) (s.led j p (omega (arith, l, count)) n)));
      };
      count = count;
      grows = subst (λ (n : Node). take (length (node_of w 1).log) n.log ≡ (node_of w 1).log) (sym same) (take-length (node_of w 1).log);
      on = on;
      holds = λ j p l n q. at_bool (λ b. (j == i) ≡ b → (node_of w' j).leader ≡ Some 1) (j == i)
          (λ _ z. let e = eq_tells j i z in ap (λ (n : Node). n.leader) (ap (node_of w') e ∙ now)
          ∙ holds_still w i input a.old a.new a.sent may x held (ap (λ (n : Node). n.leader) (sym (ap (node_of w) e ∙ was)) ∙ q))
          (λ _ z. ap (λ (n : Node). n.leader) (others j (eq_tells_not j i z)) ∙ q) refl;
    }
      where
        same : node_of w' 1 ≡ node_of w 1
        same = others 1 (λ q. d (sym q))

        on : (node_of w 1).role ≡ Leader → ((node_of w' 1).role ≡ Leader) × ((node_of w' 1).term ≡ (node_of w 1).term)
        on r = (ap (λ (n : Node). n.role) same ∙ r, ap (λ (n : Node). n.term) same)

        held : HoldsFirst (node_of w 1) a.old
        held = subst (HoldsFirst (node_of w 1)) was (s.led i place.0 place.1 d)

        f : ((node_of w i).role ≡ Follower) × ((node_of w i).term ≤ (node_of w 1).term)
        f = s.follow i place.0 place.1 d

        x : Follows (node_of w 1).term a.old input a.new a.sent
        x = step_follows (node_of w 1).term a.outcome a.old input a.new a.sent a.step old_well (ap (λ (n : Node). n.role) (sym was) ∙ f.0) (let k = ap (λ (n : Node). n.term) was in let m = f.1 in omega arith) (may_hear w i input d may)
