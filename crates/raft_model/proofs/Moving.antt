-- What a node comes to by a step, with its store.
use Rattle.std.proofs.Common.{ℕ, List, None, Option, Some, [], ap, arith, cond, inl, inr, length, refl, subst, sym, take, true, ◌<◌, ◌∙◌, ◌≡◌, ◌≢◌, ◌≤◌, ◌⊎◌}
use Rattle.raft_model.proofs.Going.{longer_length, goes_further, goes_nowhere, runs_stays}
use Rattle.cat_model.specs.declared.reply.Role.TheVariants.{Follower}
use Rattle.raft_model.proofs.Election.{put_same}
use Rattle.raft_model.proofs.History.{History, Sound, rest}
use Rattle.raft_model.proofs.Logs.{agree_length, front_take}
use Rattle.raft_model.proofs.Moved.{goes_rest}
use Rattle.raft_model.proofs.Moves.{agreed_grown, sound_rest}
use Rattle.raft_model.proofs.Saving.{Half, IsTrueInput, half_here, half_kept, half_of, steps}
use Rattle.raft_model.proofs.Sound.{AllTrue, Fits, GoesOn, Runs, kept_of, HasBegun}
use Rattle.raft_model.proofs.Tests.{at_bool, lt_tells, lt_tells_not}
use Rattle.raft_model.specs.Log.{Log}
use Rattle.raft_model.specs.Node.{Done, Kept, Node, Store, committed, quiet}
use Rattle.raft_model.specs.Rules.{Input, does, done}
use Rattle.raft_model.specs.Step.{Forgets, LogFails, LogStored, NodeStep, Outcome, Reads, RestartFails, RestartWorks, SavesVote, StoresLog, VoteFails, VoteSaved, Works, arms, as_before, changed, forgets, halts, restarted, unread, with_log, with_vote}
use Rattle.raft_model.specs.declared.message.Sent.{Sent}
use Rattle.std.proofs.lemmas.List.{length-take, take_all}
use Rattle.std.specs.Prelude.{nat_lt}
use Rattle.raft_model.specs.World.{longer}
use Rattle.raft_model.proofs.Beginning.{done_begun}

-- a server has come to this node, and has sent these
pub record Moves (servers : ℕ) (h : History) (i : ℕ) (n : Node) (sent : List Sent) : Type 0 where
  pub after : History
  pub goes : GoesOn i h after
  pub sound : Sound servers after
  pub fits : Fits servers after i n
  pub told : AllTrue after i sent
  pub agreed : after.agreed ≡ longer h.agreed (committed n)

-- what a running node is to the history does not hang on its store
pub runs_stored : (servers : ℕ) (h : History) (i : ℕ) (n : Node) (store : Store) → Runs servers h i n → Runs servers h i (record n { store = store })
runs_stored servers h i n store r = record {
  id = r.id;
  count = r.count;
  place = r.place;
  running = r.running;
  term = r.term;
  vote = r.vote;
  log = r.log;
  role = r.role;
  commit_within = r.commit_within;
  commit_agrees = r.commit_agrees;
  votes = r.votes;
  matched = r.matched;
  next = r.next;
  round = r.round;
  acked = r.acked;
  own = r.own;
}

pub agreed_stays : (i : ℕ) (h h' : History) → GoesOn i h h' → (m : ℕ) (x : Log) → m ≤ length h.agreed → take m x ≡ take m h.agreed → (m ≤ length h'.agreed) × (take m x ≡ take m h'.agreed)
agreed_stays i h h' g m x l e = (let k = longer_length h.agreed h'.agreed g.agreed in omega arith, e ∙ sym (front_take m h.agreed h'.agreed g.agreed l))

-- a server rests where a step got to, and what is agreed is as before the step
pub sound_back : (servers i : ℕ) (h a : History) → Sound servers h → GoesOn i h a → Sound servers a → Sound servers (record (rest i a) { agreed = h.agreed })
sound_back servers i h a s g t =
    let r = sound_rest servers a t i in
    record {
      votes = r.votes;
      roles = r.roles;
      ledgers = r.ledgers;
      opens = r.opens;
      logs = r.logs;
      acks = r.acks;
      rounds = r.rounds;
      numbers = r.numbers;
      agreed = agreed_grown servers h.first a.first h.ledger a.ledger h.acks a.acks h.agreed g.first g.ledger g.acks s.agreed;
    }

pub goes_back : (servers i : ℕ) (h a : History) → GoesOn i h a → Sound servers a → GoesOn i h (record (rest i a) { agreed = h.agreed })
goes_back servers i h a g t =
    let r = goes_further i h a (rest i a) g (goes_rest servers a t i) in
    record {
      votes = r.votes;
      leaders = r.leaders;
      stood = r.stood;
      ledger = r.ledger;
      acks = r.acks;
      agreed = take_all (length h.agreed) h.agreed (omega arith);
      agreed_by = inl refl;
      heard = r.heard;
      probed = r.probed;
      first = r.first;
      greatest = r.greatest;
      spent = r.spent;
      terms_up = r.terms_up;
      heard_old = r.heard_old;
      other_heard = r.other_heard;
      other_probed = r.other_probed;
      other_terms = r.other_terms;
      other_votes = r.other_votes;
      other_logs = r.other_logs;
      other_roles = r.other_roles;
    }

pub record Commits (h : History) (n : Node) : Type 0 where
  pub within : n.commit ≤ length h.agreed
  pub agrees : take n.commit n.log ≡ take n.commit h.agreed

pub committed_length : (h : History) (n : Node) → Commits h n → length (committed n) ≡ n.commit
committed_length h n c = let l = agree_length n.commit n.log h.agreed c.agrees c.within in omega (arith, length-take n.commit n.log)

-- what is agreed after a step is the longer of what was and what the node has committed
pub exact : (h a : History) (n : Node) → (a.agreed ≡ h.agreed) ⊎ (length a.agreed ≤ n.commit) → take (length h.agreed) a.agreed ≡ h.agreed → Commits a n → a.agreed ≡ longer h.agreed (committed n)
exact h a n grew front c = at_bool (λ b. a.agreed ≡ cond b (committed n) h.agreed) (nat_lt (length h.agreed) (length (committed n)))
    (λ e. more grew (let q = committed_length a n c in let l = lt_tells (length h.agreed) (length (committed n)) e in omega arith))
    (λ e. same grew (let q = committed_length a n c in let l = lt_tells_not (length h.agreed) (length (committed n)) e in omega arith))
  where
    more : (a.agreed ≡ h.agreed) ⊎ (length a.agreed ≤ n.commit) → length h.agreed < n.commit → a.agreed ≡ committed n
    more (inl e) l = absurd (let q = ap length e in let w = c.within in omega arith)
    more (inr k) l = sym (c.agrees ∙ take_all n.commit a.agreed k)

    same : (a.agreed ≡ h.agreed) ⊎ (length a.agreed ≤ n.commit) → n.commit ≤ length h.agreed → a.agreed ≡ h.agreed
    same (inl e) l = e
    same (inr k) l = sym (take_all (length h.agreed) a.agreed (omega arith)) ∙ front

-- a node that has committed no more than is agreed adds nothing
pub no_more : (h : History) (n : Node) → Commits h n → h.agreed ≡ longer h.agreed (committed n)
no_more h n c = at_bool (λ b. h.agreed ≡ cond b (committed n) h.agreed) (nat_lt (length h.agreed) (length (committed n)))
    (λ e. absurd (let q = committed_length h n c in let l = lt_tells (length h.agreed) (length (committed n)) e in let w = c.within in omega arith))
    (λ _. refl)

pub commits_none : (h : History) (n : Node) → n.commit ≡ 0 → Commits h n
commits_none h n e = record { within = omega arith; agrees = subst (λ z. take z n.log ≡ take z h.agreed) (sym e) refl }

-- stores after calls
abbrev keep : ℕ → Option ℕ → Log → Kept
keep term vote log = record { term = term; vote = vote; log = log }

keep_vote : (term term' : ℕ) (vote vote' : Option ℕ) (log : Log) → term' ≡ term → vote' ≡ vote → keep term vote log ≡ keep term' vote' log
keep_vote term term' vote vote' log e f = ap (λ t. keep t vote log) (sym e) ∙ ap (λ v. keep term' v log) (sym f)

pub changed_some : (change : Kept → Kept) (old new : Option Kept) (kept : Kept) → new ≡ changed change old → old ≡ Some kept → new ≡ Some (change kept)
changed_some change old new kept e f = e ∙ ap (changed change) f

pub vote_saved : (old new : Node) (before after : Store) → before.contents ≡ Some (kept_of old) → VoteSaved old new before after → after.contents ≡ Some (half_kept old new)
vote_saved old new before after k (inl (same, e)) = ap (λ (s : Store). s.contents) e ∙ k ∙ ap Some (keep_vote old.term new.term old.vote new.vote old.log same.0 same.1)
vote_saved old new before after k (inr (un, c)) = changed_some (with_vote new.term new.vote) before.contents after.contents (kept_of old) c.contents k

log_stored : (old new : Node) (before after : Store) → before.contents ≡ Some (half_kept old new) → LogStored old new before after → after.contents ≡ Some (kept_of new)
log_stored old new before after k (inl (same, e)) = ap (λ (s : Store). s.contents) e ∙ k ∙ ap Some (ap (keep new.term new.vote) (sym same))
log_stored old new before after k (inr (un, c)) = changed_some (with_log new.log) before.contents after.contents (half_kept old new) c.contents k

-- a node that rests on a part of a step
halted_on : (servers : ℕ) (h : History) → Sound servers h → (i : ℕ) (n : Node) (store : Store) (k : Kept) → store.contents ≡ Some k → Runs servers h i n → Half servers h i k → Moves servers h i (halts n store) []
halted_on servers h s i n store k c r b =
    record {
      after = record (rest i b.after) { agreed = h.agreed };
      goes = goes_back servers i h b.after b.goes b.sound;
      sound = sound_back servers i h b.after s b.goes b.sound;
      told = tt;
      agreed = no_more h (halts n store) (record { within = r.commit_within; agrees = r.commit_agrees });
      fits = inr (refl, record { id = r.id; count = r.count; place = r.place; kept = k; holds = c; rests = refl; term = b.term; vote = b.vote; log = b.log; role = put_same b.after.roles i Follower; commit_within = r.commit_within; commit_agrees = r.commit_agrees });
    }

forgotten_on : (servers : ℕ) (h : History) → Sound servers h → (i : ℕ) (n m : Node) (store : Store) → store.contents ≡ Some (half_kept n m) → Runs servers h i n → Half servers h i (half_kept n m) → Moves servers h i (forgets n m store) []
forgotten_on servers h s i n m store c r b =
    record {
      after = record (rest i b.after) { agreed = h.agreed };
      goes = goes_back servers i h b.after b.goes b.sound;
      sound = sound_back servers i h b.after s b.goes b.sound;
      told = tt;
      agreed = no_more h (forgets n m store) (record { within = r.commit_within; agrees = r.commit_agrees });
      fits = inl (c, record { id = r.id; count = r.count; place = r.place; running = r.running; term = b.term; vote = b.vote; log = b.log; role = put_same b.after.roles i Follower; commit_within = r.commit_within; commit_agrees = r.commit_agrees; votes = λ e. cc e; matched = λ e. cc e; next = λ e. cc e; round = λ e. cc e; acked = λ e. cc e; own = λ e. cc e }, λ e. cc e);
    }

at_outcome : (servers : ℕ) (h : History) (i : ℕ) (n m : Node) (sent sent' : List Sent) → n ≡ m → sent ≡ sent' → Moves servers h i m sent' → Moves servers h i n sent
at_outcome servers h i n m sent sent' e f a = subst (λ z. Moves servers h i z sent) (sym e) (subst (λ z. Moves servers h i m z) (sym f) a)

-- a running node's step
moves_running : (servers : ℕ) (h : History) → Sound servers h → (i : ℕ) (n : Node) (input : Input) (outcome : Outcome) (n' : Node) (sent : List Sent) → n.store.contents ≡ Some (kept_of n) → Runs servers h i n → HasBegun n → IsTrueInput h i n input → NodeStep outcome n input n' sent → Moves servers h i n' sent
moves_running servers h s i n input Works n' sent k r begun t (between, v, l, e, f) =
    let d = steps servers h s i n input r begun t in
    let c = log_stored n (done n input).node between n'.store (vote_saved n (done n input).node n.store between k v) l in
    at_outcome servers h i n' (record (done n input).node { store = n'.store }) sent (done n input).sent e f (record {
      after = d.whole.after;
      goes = d.whole.goes;
      sound = d.whole.sound;
      fits = inl (c, runs_stored servers d.whole.after i (done n input).node n'.store d.whole.runs, done_begun n input begun);
      agreed = exact h d.whole.after (done n input).node d.whole.grew d.whole.goes.agreed (record { within = d.whole.runs.commit_within; agrees = d.whole.runs.commit_agrees });
      told = d.whole.told;
    })
moves_running servers h s i n input VoteFails n' sent k r begun t (saves, c, e, f) =
    let d = steps servers h s i n input r begun t in
    let m : Node = (done n input).node in
    at_outcome servers h i n' (halts n n'.store) sent [] e f (elim c.contents [
      | inl q ↦ halted_on servers h s i n n'.store (kept_of n) (q ∙ k) r (half_here servers h s i n r)
      | inr q ↦ halted_on servers h s i n n'.store (half_kept n m) (changed_some (with_vote m.term m.vote) n.store.contents n'.store.contents (kept_of n) q k) r d.half
    ])
moves_running servers h s i n input LogFails n' sent k r begun t (between, v, stores, c, e, f) =
    let d = steps servers h s i n input r begun t in
    let m : Node = (done n input).node in
    let b = vote_saved n m n.store between k v in
    at_outcome servers h i n' (halts n n'.store) sent [] e f (elim c.contents [
      | inl q ↦ halted_on servers h s i n n'.store (half_kept n m) (q ∙ b) r d.half
      | inr q ↦ halted_on servers h s i n n'.store (kept_of m) (changed_some (with_log m.log) between.contents n'.store.contents (half_kept n m) q b) r (half_of servers h i (done n input) d.whole)
    ])
moves_running servers h s i n input Forgets n' sent k r begun t (saves, c, stores, e, f) =
    let d = steps servers h s i n input r begun t in
    let m : Node = (done n input).node in
    at_outcome servers h i n' (forgets n m n'.store) sent [] e f
    (forgotten_on servers h s i n m n'.store (changed_some (with_vote m.term m.vote) n.store.contents n'.store.contents (kept_of n) c.contents k) r d.half)

-- A halted node stays as it is, and sends nothing.
pub halted_done : (n : Node) (input : Input) → n.halted ≡ true → done n input ≡ quiet n
unfolding done
halted_done n input e = ap (λ b. cond b (quiet n) (does n input)) e

stays_vote : (n : Node) (d : Done) (before after : Store) → d ≡ quiet n → VoteSaved n d.node before after → after ≡ before
stays_vote n d before after q v = go (subst (λ (z : Done). VoteSaved n z.node before after) q v)
  where
    go : VoteSaved n n before after → after ≡ before
    go (inl (same, e)) = e
    go (inr (un, c)) = absurd (un (refl, refl))

stays_log : (n : Node) (d : Done) (before after : Store) → d ≡ quiet n → LogStored n d.node before after → after ≡ before
stays_log n d before after q v = go (subst (λ (z : Done). LogStored n z.node before after) q v)
  where
    go : LogStored n n before after → after ≡ before
    go (inl (same, e)) = e
    go (inr (un, c)) = absurd (un refl)

saves_none : (n : Node) (d : Done) → d ≡ quiet n → SavesVote n d.node → ⊥
saves_none n d q v = subst (λ (z : Done). SavesVote n z.node) q v (refl, refl)

stores_none : (n : Node) (d : Done) → d ≡ quiet n → StoresLog n d.node → ⊥
stores_none n d q v = subst (λ (z : Done). StoresLog n z.node) q v refl

halted_stays : (outcome : Outcome) (n : Node) (input : Input) (n' : Node) (sent : List Sent) → n.halted ≡ true → NodeStep outcome n input n' sent → (n' ≡ n) × (sent ≡ [])
halted_stays Works n input n' sent h (between, v, l, e, f) =
    let q = halted_done n input h in
    let a = stays_log n (done n input) between n'.store q l ∙ stays_vote n (done n input) n.store between q v in
    (e ∙ ap (λ (z : Done). record z.node { store = n'.store }) q ∙ ap (λ (z : Store). record n { store = z }) a, f ∙ ap (λ (z : Done). z.sent) q)
halted_stays VoteFails n input n' sent h (saves, c, e, f) = absurd (saves_none n (done n input) (halted_done n input h) saves)
halted_stays LogFails n input n' sent h (between, v, stores, c, e, f) = absurd (stores_none n (done n input) (halted_done n input h) stores)
halted_stays Forgets n input n' sent h (saves, c, stores, e, f) = absurd (saves_none n (done n input) (halted_done n input h) saves)

pub commits_of : (servers : ℕ) (h : History) (i : ℕ) (n : Node) → Fits servers h i n → Commits h n
commits_of servers h i n (inl (k, r, b)) = record { within = r.commit_within; agrees = r.commit_agrees }
commits_of servers h i n (inr (e, r)) = record { within = r.commit_within; agrees = r.commit_agrees }

-- a node that is as it was
still : (servers : ℕ) (h : History) → Sound servers h → (i : ℕ) (n : Node) → Fits servers h i n → Moves servers h i n []
still servers h s i n f = record { after = h; goes = goes_nowhere i h; sound = s; fits = f; told = tt; agreed = no_more h n (commits_of servers h i n f) }

-- each step of a node
pub moves : (servers : ℕ) (h : History) → Sound servers h → (i : ℕ) (n : Node) (input : Input) (outcome : Outcome) (n' : Node) (sent : List Sent) → Fits servers h i n → (Runs servers h i n → IsTrueInput h i n input) → NodeStep outcome n input n' sent → Moves servers h i n' sent
moves servers h s i n input outcome n' sent (inl (k, r, b)) t e = moves_running servers h s i n input outcome n' sent k r b (t r) e
moves servers h s i n input outcome n' sent (inr (halted, r)) t e =
    let q = halted_stays outcome n input n' sent halted e in
    at_outcome servers h i n' n sent [] q.0 q.1 (still servers h s i n (inr (halted, r)))

-- what a server's store holds is the history's
pub record Durable (servers : ℕ) (h : History) (i : ℕ) (n : Node) : Type 0 where
  pub id : n.id ≡ i
  pub count : n.servers ≡ servers
  pub place : (0 < i) × (i ≤ servers)
  pub kept : Kept
  pub holds : n.store.contents ≡ Some kept
  pub term : h.terms i ≡ kept.term
  pub vote : h.votes i kept.term ≡ kept.vote
  pub log : h.logs i ≡ kept.log

pub durable : (servers : ℕ) (h : History) (i : ℕ) (n : Node) → Fits servers h i n → Durable servers h i n
durable servers h i n (inl (k, r, b)) = record { id = r.id; count = r.count; place = r.place; kept = kept_of n; holds = k; term = r.term; vote = r.vote; log = r.log }
durable servers h i n (inr (e, r)) = record { id = r.id; count = r.count; place = r.place; kept = r.kept; holds = r.holds; term = r.term; vote = r.vote; log = r.log }

-- a store that tells its contents reads them
pub reads_told : (store : Store) (kept read : Kept) → store.contents ≡ Some kept → Reads store read → read ≡ kept
reads_told store kept read e (inl q) = absurd (none (sym q ∙ e))
  where
    none : None ≡ Some kept → ⊥
    none p = cc p
reads_told store kept read e (inr q) = some (sym q ∙ e)
  where
    some : Some read ≡ Some kept → read ≡ kept
    some p = cc p

longer_none : (x : Log) → x ≡ longer x []
longer_none x = at_bool (λ b. x ≡ cond b [] x) (nat_lt (length x) 0) (λ e. absurd (let l = lt_tells (length x) 0 e in omega arith)) (λ _. refl)

moves_restarted : (servers : ℕ) (h : History) → Sound servers h → (i : ℕ) (n : Node) (store : Store) (read : Kept) → (d : Durable servers h i n) → store.contents ≡ Some d.kept → read ≡ d.kept → Moves servers h i (restarted n store read) []
moves_restarted servers h s i n store read d c e = subst (λ z. Moves servers h i (restarted n store z) []) (sym e)
    (record {
      after = rest i h;
      goes = goes_rest servers h s i;
      sound = sound_rest servers h s i;
      agreed = longer_none h.agreed;
      told = tt;
      fits = inl (c, record { id = d.id; count = d.count; place = d.place; running = refl; term = d.term; vote = d.vote; log = d.log; role = put_same h.roles i Follower; commit_within = omega arith; commit_agrees = refl; votes = λ e. cc e; matched = λ e. cc e; next = λ e. cc e; round = λ e. cc e; acked = λ e. cc e; own = λ e. cc e }, λ e. cc e);
    })

moves_unread : (servers : ℕ) (h : History) → Sound servers h → (i : ℕ) (n : Node) (store : Store) → (d : Durable servers h i n) → store.contents ≡ Some d.kept → Moves servers h i (unread n store) []
moves_unread servers h s i n store d c =
    record {
      after = rest i h;
      goes = goes_rest servers h s i;
      sound = sound_rest servers h s i;
      agreed = longer_none h.agreed;
      told = tt;
      fits = inr (refl, record { id = d.id; count = d.count; place = d.place; kept = d.kept; holds = c; rests = refl; term = d.term; vote = d.vote; log = d.log; role = put_same h.roles i Follower; commit_within = omega arith; commit_agrees = refl });
    }

-- a restart, that works or fails
pub moves_restart : (servers : ℕ) (h : History) → Sound servers h → (i : ℕ) (n n' : Node) → Fits servers h i n → RestartWorks n n' ⊎ RestartFails n n' → Moves servers h i n' []
moves_restart servers h s i n n' f (inl (read, c, reads, e)) =
    let d = durable servers h i n f in
    subst (λ z. Moves servers h i z []) (sym e) (moves_restarted servers h s i n n'.store read d (changed_some as_before n.store.contents n'.store.contents d.kept c.contents d.holds) (reads_told n.store d.kept read d.holds reads))
moves_restart servers h s i n n' f (inr (c, e)) =
    let d = durable servers h i n f in
    let q : n'.store.contents ≡ Some d.kept = elim c.contents [ inl p ↦ p ∙ d.holds | inr p ↦ changed_some as_before n.store.contents n'.store.contents d.kept p d.holds ] in
    subst (λ z. Moves servers h i z []) (sym e) (moves_unread servers h s i n n'.store d q)

-- a store's fault is armed
pub moves_arms : (servers : ℕ) (h : History) → Sound servers h → (i : ℕ) (n : Node) (nth : ℕ) → Fits servers h i n → Moves servers h i (arms n nth) []
moves_arms servers h s i n nth f = record {
  after = h;
  goes = goes_nowhere i h;
  sound = s;
  told = tt;
  agreed = no_more h (arms n nth) (let c = commits_of servers h i n f in record { within = c.within; agrees = c.agrees });
  fits = elim f [
    | inl q ↦ inl (q.0, runs_stored servers h i n (record n.store { armed = nth }) q.1, q.2)
    | inr q ↦ inr (q.0, let r = q.1 in record { id = r.id; count = r.count; place = r.place; kept = r.kept; holds = r.holds; rests = r.rests; term = r.term; vote = r.vote; log = r.log; role = r.role; commit_within = r.commit_within; commit_agrees = r.commit_agrees })
  ];
}

-- what other servers are stays
pub fits_stays : (servers : ℕ) (i : ℕ) (h h' : History) → Sound servers h → GoesOn i h h' → (j : ℕ) (n : Node) → j ≢ i → Fits servers h j n → Fits servers h' j n
fits_stays servers i h h' s g j n ne (inl (k, r, b)) = inl (k, runs_stays servers i h h' g s j n ne r, b)
fits_stays servers i h h' s g j n ne (inr (e, r)) =
    let a = agreed_stays i h h' g n.commit n.log r.commit_within r.commit_agrees in
    inr (e, record { id = r.id; count = r.count; place = r.place; kept = r.kept; holds = r.holds; rests = r.rests; term = g.other_terms j ne ∙ r.term; vote = g.other_votes j r.kept.term ne ∙ r.vote; log = g.other_logs j ne ∙ r.log; role = g.other_roles j ne ∙ r.role; commit_within = a.0; commit_agrees = a.1 })
