-- Whether a step stores the log or saves the vote is decided, so each input has a step in which the store works.
use Rattle.std.proofs.Common.{ℕ, Bool, List, None, Option, Some, [], ap, arith, cond, drop, false, inl, inr, length, max, min, refl, subst, sym, take, true, ◌++◌, ◌+◌, ◌-◌, ◌∙◌, ◌∷◌, ◌≡◌, ◌≢◌, ◌⊎◌}
use Rattle.raft_model.specs.Rules.{accepts, Beat, Input, Probe, Propose, Receive, Timeout, after_yes, agreed_to, append_all, appended, ask_all, asked, beats, candidate, counted, declined, does, done, follows, has_room, is_refused, is_up_to_date, leading, leads, matches, may_vote, noop, noted, of_lower_term, of_own_term, offered, probes, proposal, proposes, received, risen, stands, term_of, timed_out, voted, with_commit, with_voter}
use Rattle.cat_model.specs.declared.command.Command.{Command}
use Rattle.cat_model.specs.declared.command.Entry.{Entry}
use Rattle.cat_model.specs.declared.reply.Role.{Role}
use Rattle.cat_model.specs.declared.reply.Role.TheVariants.{Candidate, Follower, Leader}
use Rattle.raft_model.proofs.Rising.{after_yes_is}
use Rattle.raft_model.proofs.Saving.{risen_log}
use Rattle.raft_model.proofs.Tests.{at_bool, eq_is, eq_tells, no_bool}
use Rattle.raft_model.specs.Limits.{is_full}
use Rattle.raft_model.specs.Log.{Log, accepted, merged, term_at}
use Rattle.raft_model.specs.Node.{Kept, Node, Store, last, quiet, reply}
use Rattle.raft_model.specs.Quorum.{is_majority, members}
use Rattle.raft_model.specs.Step.{CallWorks, HasVoteOf, NodeStep, SavesVote, StoresLog, VoteSaved, Works, changed, with_log, with_vote}
use Rattle.raft_model.specs.declared.message.Message.{Message}
use Rattle.raft_model.specs.declared.message.Message.TheVariants.{Append, AskVote, No, Vote, Yes}
use Rattle.raft_model.specs.declared.message.Sent.{Sent}
use Rattle.std.proofs.lemmas.List.{length_push, take-append-drop}
use Rattle.std.specs.Prelude.{nat_le, nat_lt, ◌&&◌, ◌==◌, ◌^◌}

-- the log is as it was, or it is not
abbrev IsDecided : Log → Log → Type 0
IsDecided new old = (new ≡ old) ⊎ (new ≢ old)

cancel : (xs ys zs : Log) → xs ++ ys ≡ xs ++ zs → ys ≡ zs
cancel [] ys zs e = e
cancel (x ∷ xs) ys zs e = cancel xs ys zs (ap (drop 1) e)

merged_decided : (have entries : Log) → IsDecided (merged have entries) have
merged_decided have [] = inl (merged_none have)
  where
    merged_none : (x : Log) → merged x [] ≡ x
    merged_none [] = refl
    merged_none (a ∷ x) = refl
merged_decided [] (e ∷ es) = inr (λ q. cc q)
merged_decided (h ∷ hs) (e ∷ es) = at_bool (λ b. IsDecided (cond b (h ∷ merged hs es) (e ∷ es)) (h ∷ hs)) (h.term == e.term) (λ _. deep (merged_decided hs es)) (λ q. inr (λ p. no_bool (h.term == e.term) (eq_is h.term e.term (ap (term_at 1) (sym p))) q))
  where
    deep : IsDecided (merged hs es) hs → IsDecided (h ∷ merged hs es) (h ∷ hs)
    deep (inl q) = inl (ap (λ (x : Log). h ∷ x) q)
    deep (inr un) = inr (λ q. un (ap (drop 1) q))

accepted_decided : (log : Log) (prev : ℕ) (entries : Log) → IsDecided (accepted log prev entries) log
accepted_decided log prev entries = go (merged_decided (drop prev log) entries)
  where
    whole : take prev log ++ drop prev log ≡ log
    whole = take-append-drop prev log

    go : IsDecided (merged (drop prev log) entries) (drop prev log) → IsDecided (accepted log prev entries) log
    go (inl q) = inl (ap (λ (x : Log). take prev log ++ x) q ∙ whole)
    go (inr un) = inr (λ q. un (cancel (take prev log) (merged (drop prev log) entries) (drop prev log) (q ∙ sym whole)))

appended_decided : (n : Node) (e : Entry) → IsDecided (appended n e).log n.log
appended_decided n e = at_bool (λ b. IsDecided (cond b (record n { log = n.log ++ e ∷ []; commit = length (n.log ++ e ∷ []) }) (record n { log = n.log ++ e ∷ [] })).log n.log) (n.servers == 1) (λ _. longer_log) (λ _. longer_log)
  where
    longer_log : IsDecided (n.log ++ e ∷ []) n.log
    longer_log = inr (λ q. let l = ap length q in omega (arith, length_push n.log e))

leads_decided : (n : Node) → IsDecided (leads n).node.log n.log
unfolding leads
leads_decided n = at_bool (λ b. IsDecided (cond b (leading n) (appended (leading n) (noop n.term))).log n.log) (is_full n.log) (λ _. inl refl) (λ _. appended_decided (leading n) (noop n.term))

candidate_decided : (n : Node) → IsDecided (candidate n).node.log n.log
unfolding candidate
candidate_decided n = at_bool (λ b. IsDecided (cond b (leads n) (ask_all n)).node.log n.log) (n.servers == 1) (λ _. leads_decided n) (λ _. inl refl)

timed_out_decided : (n : Node) (role : Role) → IsDecided (timed_out n role).node.log n.log
unfolding timed_out
timed_out_decided n Leader = inl refl
timed_out_decided n Follower = at_bool (λ b. IsDecided (cond b (candidate (stands n)) (quiet n)).node.log n.log) (nat_lt n.term (2 ^ 64 - 1)) (λ _. candidate_decided (stands n)) (λ _. inl refl)
timed_out_decided n Candidate = at_bool (λ b. IsDecided (cond b (candidate (stands n)) (quiet n)).node.log n.log) (nat_lt n.term (2 ^ 64 - 1)) (λ _. candidate_decided (stands n)) (λ _. inl refl)

counted_decided : (n : Node) → IsDecided (counted n).node.log n.log
unfolding counted
counted_decided n = at_bool (λ b. IsDecided (cond b (leads n) (quiet n)).node.log n.log) (is_majority n.servers (members n.votes)) (λ _. leads_decided n) (λ _. inl refl)

voted_decided : (n : Node) (from : ℕ) (g : Bool) (r : Role) → IsDecided (voted n from g r).node.log n.log
unfolding voted
voted_decided n from true Candidate = counted_decided (record n { votes = with_voter n.votes from })
voted_decided n from true Follower = inl refl
voted_decided n from true Leader = inl refl
voted_decided n from false Candidate = inl refl
voted_decided n from false Follower = inl refl
voted_decided n from false Leader = inl refl

accepts_decided : (n : Node) (from prev : ℕ) (es : Log) (commit round : ℕ) → IsDecided (accepts n from prev es commit round).node.log n.log
unfolding accepts
accepts_decided n from prev es commit round = at_bool (λ b. IsDecided (cond b (quiet (follows n from))
    (reply (record (follows n from) { log = accepted n.log prev es; commit = max n.commit (min commit (prev + length es)) }) from (Yes n.term (prev + length es) round))).node.log n.log)
    (is_refused n (accepted n.log prev es)) (λ _. inl refl) (λ _. accepted_decided n.log prev es)

offered_decided : (n : Node) (r : Role) (from prev pt : ℕ) (es : Log) (commit round : ℕ) → IsDecided (offered n r from prev pt es commit round).node.log n.log
unfolding offered
offered_decided n Leader from prev pt es commit round = inl refl
offered_decided n Follower from prev pt es commit round = at_bool (λ c. IsDecided (cond c (accepts n from prev es commit round) (reply (follows n from) from (No n.term (last n)))).node.log n.log) (matches n prev pt) (λ _. accepts_decided n from prev es commit round) (λ _. inl refl)
offered_decided n Candidate from prev pt es commit round = at_bool (λ c. IsDecided (cond c (accepts n from prev es commit round) (reply (follows n from) from (No n.term (last n)))).node.log n.log) (matches n prev pt) (λ _. accepts_decided n from prev es commit round) (λ _. inl refl)

agreed_decided : (n : Node) (r : Role) (from matched round : ℕ) → IsDecided (agreed_to n r from matched round).node.log n.log
unfolding agreed_to
agreed_decided n Follower from matched round = inl refl
agreed_decided n Candidate from matched round = inl refl
agreed_decided n Leader from matched round =
    let m : Node = with_commit (noted n from matched round) in
    at_bool (λ c. IsDecided (cond c (after_yes n m from) (quiet n)).node.log n.log) (nat_le matched (last n)) (λ _. inl (ap (λ (z : Node). z.log) (after_yes_is n m from))) (λ _. inl refl)

declined_decided : (n : Node) (r : Role) (from k : ℕ) → IsDecided (declined n r from k).node.log n.log
unfolding declined
declined_decided n Leader from k = inl refl
declined_decided n Follower from k = inl refl
declined_decided n Candidate from k = inl refl

own_decided : (n : Node) (from : ℕ) (m : Message) → IsDecided (of_own_term n from m).node.log n.log
unfolding of_own_term asked
own_decided n from (AskVote t li lt) = at_bool (λ c. IsDecided (cond c (reply (record n { vote = Some from }) from (Vote n.term true)) (reply n from (Vote n.term false))).node.log n.log) (may_vote n.vote from && is_up_to_date lt li n.log) (λ _. inl refl) (λ _. inl refl)
own_decided n from (Vote t g) = voted_decided n from g n.role
own_decided n from (Append t prev pt es commit round) = offered_decided n n.role from prev pt es commit round
own_decided n from (Yes t matched round) = agreed_decided n n.role from matched round
own_decided n from (No t k) = declined_decided n n.role from k

lower_decided : (n : Node) (from : ℕ) (m : Message) → IsDecided (of_lower_term n from m).node.log n.log
unfolding of_lower_term
lower_decided n from (AskVote t li lt) = inl refl
lower_decided n from (Vote t g) = inl refl
lower_decided n from (Append t prev pt es commit round) = inl refl
lower_decided n from (Yes t matched round) = inl refl
lower_decided n from (No t k) = inl refl

received_decided : (n : Node) (from : ℕ) (m : Message) → IsDecided (received n from m).node.log n.log
unfolding received
received_decided n from m = at_bool (λ c. IsDecided (cond c (of_lower_term n from m) (of_own_term (risen n (term_of m)) from m)).node.log n.log) (nat_lt (term_of m) n.term)
    (λ _. lower_decided n from m) (λ _. subst (λ (z : Log). IsDecided (of_own_term (risen n (term_of m)) from m).node.log z) (risen_log n (term_of m)) (own_decided (risen n (term_of m)) from m))

beats_decided : (n : Node) (r : Role) → IsDecided (beats n r).node.log n.log
unfolding beats
beats_decided n Leader = inl refl
beats_decided n Follower = inl refl
beats_decided n Candidate = inl refl

proposes_decided : (n : Node) (r : Role) (number : ℕ) (command : Command) → IsDecided (proposes n r number command).node.log n.log
unfolding proposes
proposes_decided n Follower number command = inl refl
proposes_decided n Candidate number command = inl refl
proposes_decided n Leader number command = at_bool (λ c. IsDecided (cond c (append_all (appended n (proposal n number command))) (quiet n)).node.log n.log) (has_room n number command) (λ _. appended_decided n (proposal n number command)) (λ _. inl refl)

probes_decided : (n : Node) (r : Role) → IsDecided (probes n r).node.log n.log
unfolding probes
probes_decided n Leader = inl refl
probes_decided n Follower = inl refl
probes_decided n Candidate = inl refl

does_decided : (n : Node) (input : Input) → IsDecided (does n input).node.log n.log
unfolding does
does_decided n Timeout = timed_out_decided n n.role
does_decided n Beat = beats_decided n n.role
does_decided n (Receive from m) = received_decided n from m
does_decided n (Propose number command) = proposes_decided n n.role number command
does_decided n Probe = probes_decided n n.role

pub log_decided : (n : Node) (input : Input) → ((done n input).node.log ≡ n.log) ⊎ StoresLog n (done n input).node
unfolding done
log_decided n input = at_bool (λ c. IsDecided (cond c (quiet n) (does n input)).node.log n.log) n.halted (λ _. inl refl) (λ _. does_decided n input)

-- the same of the vote
same_option : (a b : Option ℕ) → (a ≡ b) ⊎ (a ≢ b)
same_option None None = inl refl
same_option None (Some y) = inr (λ e. cc e)
same_option (Some x) None = inr (λ e. cc e)
same_option (Some x) (Some y) = at_bool (λ b. (x == y) ≡ b → (Some x ≡ Some y) ⊎ (Some x ≢ Some y)) (x == y) (λ _ e. inl (ap Some (eq_tells x y e))) (λ _ e. inr (λ q. no_bool (x == y) (eq_is x y (inside q)) e)) refl
  where
    inside : Some x ≡ Some y → x ≡ y
    inside q = cc q

pub vote_decided : (old new : Node) → HasVoteOf old new ⊎ SavesVote old new
vote_decided old new = at_bool (λ b. (new.term == old.term) ≡ b → HasVoteOf old new ⊎ SavesVote old new) (new.term == old.term)
    (λ _ e. go (eq_tells new.term old.term e) (same_option new.vote old.vote)) (λ _ e. inr (λ q. no_bool (new.term == old.term) (eq_is new.term old.term q.0) e)) refl
  where
    go : new.term ≡ old.term → (new.vote ≡ old.vote) ⊎ (new.vote ≢ old.vote) → HasVoteOf old new ⊎ SavesVote old new
    go t (inl v) = inl (t, v)
    go t (inr un) = inr (λ q. un q.1)

-- a store with nothing armed after a call that worked
worked : (Kept → Kept) → Store → Store
worked change s = record s { contents = changed change s.contents }

call_works : (change : Kept → Kept) (s : Store) → s.armed ≡ 0 → CallWorks change s (worked change s)
unfolding worked
call_works change s e = record { unarmed = λ q. absurd (omega arith); armed = omega arith; faults = omega arith; contents = refl; sure = refl }

worked_armed : (change : Kept → Kept) (s : Store) → (worked change s).armed ≡ s.armed
unfolding worked
worked_armed change s = refl

-- Each input has a step in which the store works, where nothing is armed.
pub has_step : (old : Node) (input : Input) → old.store.armed ≡ 0 → (new : Node) × (sent : List Sent) × NodeStep Works old input new sent
has_step old input free = vote (vote_decided old (done old input).node)
  where
    log : (between : Store) → between.armed ≡ 0 → VoteSaved old (done old input).node old.store between → ((done old input).node.log ≡ old.log) ⊎ StoresLog old (done old input).node → (new : Node) × (sent : List Sent) × NodeStep Works old input new sent
    log between armed v (inl e) = (record (done old input).node { store = between }, (done old input).sent, (between, v, inl (e, refl), refl, refl))
    log between armed v (inr un) =
        let c = call_works (with_log (done old input).node.log) between armed in
        (record (done old input).node { store = worked (with_log (done old input).node.log) between }, (done old input).sent, (between, v, inr (un, c), refl, refl))

    vote : HasVoteOf old (done old input).node ⊎ SavesVote old (done old input).node → (new : Node) × (sent : List Sent) × NodeStep Works old input new sent
    vote (inl same) = log old.store free (inl (same, refl)) (log_decided old input)
    vote (inr un) =
        let c = call_works (with_vote (done old input).node.term (done old input).node.vote) old.store free in
        log (worked (with_vote (done old input).node.term (done old input).node.vote) old.store) (worked_armed (with_vote (done old input).node.term (done old input).node.vote) old.store ∙ free) (inr (un, c)) (log_decided old input)
