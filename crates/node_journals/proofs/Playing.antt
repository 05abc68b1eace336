-- The example is as the laws ask.
use Rattle.std.proofs.Common.{ℕ, None, Option, Some, [], ap, arith, get_or, inl, inr, refl, subst, suc, sym, true, zero, ◌∷◌, ◌≡◌, ◌⊎◌}
use Rattle.std.specs.Prelude.{Contains}
use Rattle.raft_model.proofs.Deciding.{log_decided, vote_decided}
use Rattle.raft_model.proofs.Moving.{vote_saved}
use Rattle.raft_model.proofs.Saving.{half_kept}
use Rattle.raft_model.proofs.Sound.{kept_of}
use Rattle.raft_model.specs.Log.{Log}
use Rattle.raft_model.specs.Node.{Kept, Node, Store}
use Rattle.raft_model.specs.Rules.{Input, Receive, Timeout, accepts, after_yes, agreed_to, asked, candidate, counted, does, done, leads, noop, of_lower_term, of_own_term, offered, received, timed_out, voted}
use Rattle.raft_model.specs.Runs.{empty_store, saved}
use Rattle.raft_model.specs.Step.{CallWorks, HasVoteOf, LogStored, NodeStep, RestartWorks, SavesVote, Starts, StoresLog, VoteSaved, Works, as_before, changed, with_vote}
use Rattle.raft_model.specs.World.{nothing_kept}
use Rattle.raft_model.specs.declared.message.Message.TheVariants.{Append, AskVote, Vote, Yes}
use Rattle.node_journals.proofs.Lists.{first_or, in_none}
use Rattle.node_journals.specs.Causal.{AreCausal, Rises, WasSent}
use Rattle.node_journals.specs.Example.{ElectionRow, Sends, again_at, election, fresh, given_at, one_commits, one_leads, one_stands, three_accepts, two_accepts, two_begins, two_votes}
use Rattle.node_journals.specs.Journals.{AreProcesses, Given, IsJournal, IsProcess, IsStep, IsUnnumbered, Made, Process, Step}

-- a node whose store works and holds its values
abbrev IsPlain : Node → Type 0
IsPlain n = (n.store.contents ≡ Some (kept_of n)) × (n.store.armed ≡ 0)

-- a store with other contents
abbrev holding : Store → Kept → Store
holding s k = record s { contents = Some k }

holding_same : (s : Store) (k : Kept) → s.contents ≡ Some k → holding s k ≡ s
holding_same s k e = let change : Option Kept → Store = λ c. record s { contents = c } in ap change (sym e)

-- where a store works, the step of its node is one by the rules
works : (old : Node) (input : Input) → IsPlain old → NodeStep Works old input (saved old (done old input).node) (done old input).sent
works old input (told, free) = (holding old.store (half_kept old (done old input).node), vote (vote_decided old (done old input).node), log (log_decided old input), refl, refl)
  where
    vote : HasVoteOf old (done old input).node ⊎ SavesVote old (done old input).node → VoteSaved old (done old input).node old.store (holding old.store (half_kept old (done old input).node))
    vote (inl e) = inl (e, holding_same old.store (half_kept old (done old input).node) (vote_saved old (done old input).node old.store old.store told (inl (e, refl))))
    vote (inr un) = inr (un, record { unarmed = λ q. absurd (omega arith); armed = omega arith; faults = omega arith; contents = sym (ap (changed (with_vote (done old input).node.term (done old input).node.vote)) told); sure = refl })

    log : ((done old input).node.log ≡ old.log) ⊎ StoresLog old (done old input).node → LogStored old (done old input).node (holding old.store (half_kept old (done old input).node)) (holding old.store (kept_of (done old input).node))
    log (inl e) = inl (e, ap (λ (x : Log). holding old.store (record { term = (done old input).node.term; vote = (done old input).node.vote; log = x })) e)
    log (inr un) = inr (un, record { unarmed = λ q. absurd (omega arith); armed = omega arith; faults = omega arith; contents = refl; sure = refl })

given : (time : ℕ) (old : Node) (input : Input) → IsPlain old → IsUnnumbered input → IsStep old (Given input) (given_at time old input).node (given_at time old input).sent
given time old input p u = (u, Works, works old input p)

plain : (time : ℕ) (old : Node) (input : Input) → IsPlain old → IsPlain (given_at time old input).node
plain time old input p = (refl, p.1)

plain_fresh : (id : ℕ) → IsPlain (fresh id)
plain_fresh id = (refl, refl)

reads : (change : Kept → Kept) (s : Store) → s.armed ≡ 0 → s.contents ≡ changed change s.contents → CallWorks change s s
reads change s free e = record { unarmed = λ q. absurd (omega arith); armed = omega arith; faults = omega arith; contents = e; sure = refl }

begins : (id : ℕ) → Starts id 3 empty_store (fresh id)
begins id = (nothing_kept, reads as_before empty_store refl refl, inr refl, refl)

again : (n : Node) → IsPlain n → RestartWorks n (again_at 7 n).node
again n (told, free) = (kept_of n, reads as_before n.store free (told_same n.store.contents), inr told, refl)
  where
    told_same : (o : Option Kept) → o ≡ changed as_before o
    told_same None = refl
    told_same (Some k) = refl

-- what holds of each of the three
of_each : (P : ℕ → Process → Type 0) → P 1 (get_or election 0 (record { start = fresh 1; steps = [] })) → P 2 (get_or election 1 (record { start = fresh 1; steps = [] })) → P 3 (get_or election 2 (record { start = fresh 1; steps = [] })) → (i : ℕ) (p : Process) → IsProcess election i p → P i p
of_each P a b c zero p is = absurd is
of_each P a b c (suc zero) p (l, e) = subst (P 1) e a
of_each P a b c (suc (suc zero)) p (l, e) = subst (P 2) e b
of_each P a b c (suc (suc (suc zero))) p (l, e) = subst (P 3) e c
of_each P a b c (suc (suc (suc (suc i)))) p (l, e) = absurd (omega arith)

journal_one : IsJournal (fresh 1) (one_stands ∷ one_leads ∷ one_commits ∷ [])
journal_one = (given 1 (fresh 1) Timeout (plain_fresh 1) tt, (given 3 one_stands.node (Receive 2 (Vote 1 true)) stood tt, (given 5 one_leads.node (Receive 2 (Yes 1 1 0)) led tt, tt)))
  where
    stood : IsPlain one_stands.node
    stood = plain 1 (fresh 1) Timeout (plain_fresh 1)

    led : IsPlain one_leads.node
    led = plain 3 one_stands.node (Receive 2 (Vote 1 true)) stood

journal_two : IsJournal (fresh 2) (two_votes ∷ two_accepts ∷ two_begins ∷ [])
journal_two = (given 2 (fresh 2) (Receive 1 (AskVote 1 0 0)) (plain_fresh 2) tt, (given 4 two_votes.node (Receive 1 (Append 1 0 0 (noop 1 ∷ []) 0 0)) voted_once tt, ((inl (again two_accepts.node accepted_one), refl), tt)))
  where
    voted_once : IsPlain two_votes.node
    voted_once = plain 2 (fresh 2) (Receive 1 (AskVote 1 0 0)) (plain_fresh 2)

    accepted_one : IsPlain two_accepts.node
    accepted_one = plain 4 two_votes.node (Receive 1 (Append 1 0 0 (noop 1 ∷ []) 0 0)) voted_once

journal_three : IsJournal (fresh 3) (three_accepts ∷ [])
journal_three = (given 6 (fresh 3) (Receive 1 (Append 1 0 0 (noop 1 ∷ []) 1 0)) (plain_fresh 3) tt, tt)

processes : AreProcesses election
processes = record {
  stores = empty_store ∷ empty_store ∷ empty_store ∷ [];
  empty = (refl, (refl, (refl, tt)));
  started = (begins 1, (begins 2, (begins 3, tt)));
  journals = of_each (λ i p. IsJournal p.start p.steps) journal_one journal_two journal_three;
}

-- what the three are sent
asks_two : Sends one_stands 2 (AskVote 1 0 0)
unfolding done does timed_out candidate
asks_two = (0, omega arith, refl)

asks_three : Sends one_stands 3 (AskVote 1 0 0)
unfolding done does timed_out candidate
asks_three = (1, omega arith, refl)

grants : Sends two_votes 1 (Vote 1 true)
unfolding done does received of_own_term asked
grants = (0, omega arith, refl)

appends_two : Sends one_leads 2 (Append 1 0 0 (noop 1 ∷ []) 0 0)
unfolding done does timed_out candidate received of_own_term voted counted leads
appends_two = (0, omega arith, refl)

appends_three : Sends one_leads 3 (Append 1 0 0 (noop 1 ∷ []) 0 0)
unfolding done does timed_out candidate received of_own_term voted counted leads
appends_three = (1, omega arith, refl)

answers : Sends two_accepts 1 (Yes 1 1 0)
unfolding done does received of_own_term asked offered accepts
answers = (0, omega arith, refl)

appends_again : Sends one_commits 3 (Append 1 0 0 (noop 1 ∷ []) 1 0)
unfolding done does timed_out candidate received of_own_term voted counted leads agreed_to after_yes
appends_again = (1, omega arith, refl)

made_one : (s : Step) → Contains (one_stands ∷ one_leads ∷ one_commits ∷ []) s → Made election 1 s
made_one s c = (record { start = fresh 1; steps = one_stands ∷ one_leads ∷ one_commits ∷ [] }, (omega arith, refl), c)

made_two : (s : Step) → Contains (two_votes ∷ two_accepts ∷ two_begins ∷ []) s → Made election 2 s
made_two s c = (record { start = fresh 2; steps = two_votes ∷ two_accepts ∷ two_begins ∷ [] }, (omega arith, refl), c)

-- what is heard in one of three steps, or in the one
in_three : (P : Step → Type 0) (a b c : Step) → P a → P b → P c → (s : Step) → Contains (a ∷ b ∷ c ∷ []) s → P s
in_three P a b c x y z s h = elim (first_or a s (b ∷ c ∷ []) h) [
  | inl e ↦ subst P e x
  | inr h ↦ elim (first_or b s (c ∷ []) h) [ inl e ↦ subst P e y | inr h ↦ elim (first_or c s [] h) [ inl e ↦ subst P e z | inr h ↦ absurd (in_none s h) ] ]
]

heard_one : (s : Step) → Contains (one_stands ∷ one_leads ∷ one_commits ∷ []) s → WasSent election 1 s.time s.event
heard_one = in_three (λ s. WasSent election 1 s.time s.event) one_stands one_leads one_commits tt
    (two_votes, made_two two_votes (0, omega arith, refl), omega arith, grants)
    (two_accepts, made_two two_accepts (1, omega arith, refl), omega arith, answers)

heard_two : (s : Step) → Contains (two_votes ∷ two_accepts ∷ two_begins ∷ []) s → WasSent election 2 s.time s.event
heard_two = in_three (λ s. WasSent election 2 s.time s.event) two_votes two_accepts two_begins
    (one_stands, made_one one_stands (0, omega arith, refl), omega arith, asks_two)
    (one_leads, made_one one_leads (1, omega arith, refl), omega arith, appends_two)
    tt

heard_three : (s : Step) → Contains (three_accepts ∷ []) s → WasSent election 3 s.time s.event
heard_three s h = elim (first_or three_accepts s [] h) [
  | inl e ↦ subst (λ (s : Step). WasSent election 3 s.time s.event) e (one_commits, made_one one_commits (2, omega arith, refl), omega arith, appends_again)
  | inr h ↦ absurd (in_none s h)
]

causal : AreCausal election
causal = record {
  rise = of_each (λ i p. Rises 0 p.steps) (omega arith, (omega arith, (omega arith, tt))) (omega arith, (omega arith, (omega arith, tt))) (omega arith, tt);
  sent = λ i s made. of_each (λ i p. Contains p.steps s → WasSent election i s.time s.event) (heard_one s) (heard_two s) (heard_three s) i made.0 made.1 made.2;
}

pub election_row : ElectionRow
unfolding done does timed_out candidate received of_own_term of_lower_term asked voted counted leads offered accepts agreed_to after_yes
election_row = record {
  processes = processes;
  causal = causal;
  lost = (asks_three, appends_three);
  first = (refl, refl, refl);
  second = (refl, refl, refl);
  third = (refl, refl, refl);
}
