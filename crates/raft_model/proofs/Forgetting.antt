-- A step that saves a vote and stores a log raises the term. So a node that forgot is told by its term.
use Rattle.std.proofs.Common.{◌≡◌, ◌≢◌, ℕ, ◌++◌, ◌∷◌, [], ◌+◌, ◌⊎◌, inl, inr, Bool, true, false, cond, Some, None, length, max, min, refl, sym, subst, ◌∙◌, arith}
use Rattle.std.specs.Prelude.{nat_le, nat_lt, ◌==◌, ◌&&◌, ◌-◌, ◌^◌}
use Rattle.cat_model.specs.declared.command.Command.{Command}
use Rattle.cat_model.specs.declared.command.Entry.{Entry}
use Rattle.cat_model.specs.declared.reply.Role.{Role}
use Rattle.cat_model.specs.declared.reply.Role.TheVariants.{Candidate, Follower, Leader}
use Rattle.raft_model.proofs.Rising.{after_yes_is}
use Rattle.raft_model.proofs.Tests.{at_bool, lt_tells}
use Rattle.raft_model.specs.declared.message.Message.{Message}
use Rattle.raft_model.specs.declared.message.Message.TheVariants.{Append, AskVote, No, Vote, Yes}
use Rattle.raft_model.specs.Limits.{is_full}
use Rattle.raft_model.specs.Log.{Log, accepted}
use Rattle.raft_model.specs.Node.{Node, last, quiet, reply}
use Rattle.raft_model.specs.Quorum.{is_majority, members}
use Rattle.raft_model.specs.Rules.{Input, Timeout, Beat, Receive, Propose, Probe, accepts, after_yes, agreed_to, append_all, appended, ask_all, asked, beats, candidate, counted, declined, does, done, follows, has_room, is_refused, is_up_to_date, leading, leads, matches, may_vote, noop, noted, of_lower_term, of_own_term, offered, probes, proposal, proposes, received, risen, stands, term_of, timed_out, voted, with_commit, with_voter}
use Rattle.raft_model.specs.Step.{HasVoteOf, SavesVote, StoresLog}

-- the term is as it was, and so is one of the log and the vote
abbrev pub KeepsOne : Node → Node → Type 0
KeepsOne old new = (new.term ≡ old.term) × ((new.log ≡ old.log) ⊎ (new.vote ≡ old.vote))

same_vote : (old new : Node) → HasVoteOf old new → KeepsOne old new
same_vote old new (t, v) = (t, inr v)

appended_same : (n : Node) (e : Entry) → HasVoteOf n (appended n e)
appended_same n e = at_bool (λ b. HasVoteOf n (cond b (record n { log = n.log ++ e ∷ []; commit = length (n.log ++ e ∷ []) }) (record n { log = n.log ++ e ∷ [] }))) (n.servers == 1) (λ _. (refl, refl)) (λ _. (refl, refl))

leads_same : (n : Node) → HasVoteOf n (leads n).node
unfolding leads
leads_same n = at_bool (λ b. HasVoteOf n (cond b (leading n) (appended (leading n) (noop n.term)))) (is_full n.log) (λ _. (refl, refl)) (λ _. appended_same (leading n) (noop n.term))

candidate_same : (n : Node) → HasVoteOf n (candidate n).node
unfolding candidate
candidate_same n = at_bool (λ b. HasVoteOf n (cond b (leads n) (ask_all n)).node) (n.servers == 1) (λ _. leads_same n) (λ _. (refl, refl))

counted_same : (n : Node) → HasVoteOf n (counted n).node
unfolding counted
counted_same n = at_bool (λ b. HasVoteOf n (cond b (leads n) (quiet n)).node) (is_majority n.servers (members n.votes)) (λ _. leads_same n) (λ _. (refl, refl))

voted_same : (n : Node) (from : ℕ) (granted : Bool) (r : Role) → HasVoteOf n (voted n from granted r).node
unfolding voted
voted_same n from true Candidate = counted_same (record n { votes = with_voter n.votes from })
voted_same n from true Follower = (refl, refl)
voted_same n from true Leader = (refl, refl)
voted_same n from false Candidate = (refl, refl)
voted_same n from false Follower = (refl, refl)
voted_same n from false Leader = (refl, refl)

accepts_same : (n : Node) (from prev : ℕ) (es : Log) (commit round : ℕ) → HasVoteOf n (accepts n from prev es commit round).node
unfolding accepts
accepts_same n from prev es commit round = at_bool (λ b. HasVoteOf n (cond b (quiet (follows n from))
    (reply (record (follows n from) { log = accepted n.log prev es; commit = max n.commit (min commit (prev + length es)) }) from (Yes n.term (prev + length es) round))).node)
    (is_refused n (accepted n.log prev es)) (λ _. (refl, refl)) (λ _. (refl, refl))

offered_same : (n : Node) (r : Role) (from prev pt : ℕ) (es : Log) (commit round : ℕ) → HasVoteOf n (offered n r from prev pt es commit round).node
unfolding offered
offered_same n Leader from prev pt es commit round = (refl, refl)
offered_same n Follower from prev pt es commit round = at_bool (λ b. HasVoteOf n (cond b (accepts n from prev es commit round) (reply (follows n from) from (No n.term (last n)))).node) (matches n prev pt) (λ _. accepts_same n from prev es commit round) (λ _. (refl, refl))
offered_same n Candidate from prev pt es commit round = at_bool (λ b. HasVoteOf n (cond b (accepts n from prev es commit round) (reply (follows n from) from (No n.term (last n)))).node) (matches n prev pt) (λ _. accepts_same n from prev es commit round) (λ _. (refl, refl))

agreed_same : (n : Node) (r : Role) (from matched round : ℕ) → HasVoteOf n (agreed_to n r from matched round).node
unfolding agreed_to
agreed_same n Follower from matched round = (refl, refl)
agreed_same n Candidate from matched round = (refl, refl)
agreed_same n Leader from matched round =
    let m : Node = with_commit (noted n from matched round) in
    at_bool (λ b. HasVoteOf n (cond b (after_yes n m from) (quiet n)).node) (nat_le matched (last n)) (λ _. subst (λ (z : Node). HasVoteOf n z) (sym (after_yes_is n m from)) (refl, refl)) (λ _. (refl, refl))

declined_same : (n : Node) (r : Role) (from k : ℕ) → HasVoteOf n (declined n r from k).node
unfolding declined
declined_same n Leader from k = (refl, refl)
declined_same n Follower from k = (refl, refl)
declined_same n Candidate from k = (refl, refl)

own_keeps : (n : Node) (from : ℕ) (m : Message) → KeepsOne n (of_own_term n from m).node
unfolding of_own_term asked
own_keeps n from (AskVote t li lt) = at_bool (λ b. KeepsOne n (cond b (reply (record n { vote = Some from }) from (Vote n.term true)) (reply n from (Vote n.term false))).node) (may_vote n.vote from && is_up_to_date lt li n.log) (λ _. (refl, inl refl)) (λ _. (refl, inl refl))
own_keeps n from (Vote t granted) = same_vote n (voted n from granted n.role).node (voted_same n from granted n.role)
own_keeps n from (Append t prev pt es commit round) = same_vote n (offered n n.role from prev pt es commit round).node (offered_same n n.role from prev pt es commit round)
own_keeps n from (Yes t matched round) = same_vote n (agreed_to n n.role from matched round).node (agreed_same n n.role from matched round)
own_keeps n from (No t k) = same_vote n (declined n n.role from k).node (declined_same n n.role from k)

lower_keeps : (n : Node) (from : ℕ) (m : Message) → KeepsOne n (of_lower_term n from m).node
unfolding of_lower_term
lower_keeps n from (AskVote t li lt) = (refl, inl refl)
lower_keeps n from (Vote t granted) = (refl, inl refl)
lower_keeps n from (Append t prev pt es commit round) = (refl, inl refl)
lower_keeps n from (Yes t matched round) = (refl, inl refl)
lower_keeps n from (No t k) = (refl, inl refl)

-- where the term is as it was, so is one of the log and the vote
abbrev pub TellsByTerm : Node → Node → Type 0
TellsByTerm old new = new.term ≡ old.term → (new.log ≡ old.log) ⊎ (new.vote ≡ old.vote)

lower_than : (a b : ℕ) → nat_lt a b ≡ true → b ≢ a
lower_than a b e same = let below = lt_tells a b e in absurd (omega (arith, below, same))

risen_tells : (n : Node) (t from : ℕ) (m : Message) → TellsByTerm n (of_own_term (risen n t) from m).node
risen_tells n t from m = at_bool (λ b. TellsByTerm n (of_own_term (cond b (record n { term = t; vote = None; role = Follower; leader = None }) n) from m).node) (nat_lt n.term t)
    (λ e same. let up : Node = record n { term = t; vote = None; role = Follower; leader = None } in absurd (lower_than n.term t e (sym (own_keeps up from m).0 ∙ same)))
    (λ _ same. (own_keeps n from m).1)

received_tells : (n : Node) (from : ℕ) (m : Message) → TellsByTerm n (received n from m).node
unfolding received
received_tells n from m = at_bool (λ b. TellsByTerm n (cond b (of_lower_term n from m) (of_own_term (risen n (term_of m)) from m)).node) (nat_lt (term_of m) n.term)
    (λ _ same. (lower_keeps n from m).1) (λ _. risen_tells n (term_of m) from m)

stands_tells : (n : Node) → TellsByTerm n (cond (nat_lt n.term (2 ^ 64 - 1)) (candidate (stands n)) (quiet n)).node
stands_tells n = at_bool (λ b. TellsByTerm n (cond b (candidate (stands n)) (quiet n)).node) (nat_lt n.term (2 ^ 64 - 1))
    (λ _ same. let up = (candidate_same (stands n)).0 in absurd (omega (arith, up, same))) (λ _ same. inl refl)

timed_out_tells : (n : Node) (r : Role) → TellsByTerm n (timed_out n r).node
unfolding timed_out
timed_out_tells n Leader same = inl refl
timed_out_tells n Follower same = stands_tells n same
timed_out_tells n Candidate same = stands_tells n same

beats_tells : (n : Node) (r : Role) → TellsByTerm n (beats n r).node
unfolding beats
beats_tells n Leader same = inl refl
beats_tells n Follower same = inl refl
beats_tells n Candidate same = inl refl

proposes_tells : (n : Node) (r : Role) (number : ℕ) (command : Command) → TellsByTerm n (proposes n r number command).node
unfolding proposes
proposes_tells n Follower number command same = inl refl
proposes_tells n Candidate number command same = inl refl
proposes_tells n Leader number command same =
    at_bool (λ b. TellsByTerm n (cond b (append_all (appended n (proposal n number command))) (quiet n)).node) (has_room n number command)
    (λ _ _. inr (appended_same n (proposal n number command)).1) (λ _ _. inl refl) same

probes_tells : (n : Node) (r : Role) → TellsByTerm n (probes n r).node
unfolding probes
probes_tells n Leader same = inl refl
probes_tells n Follower same = inl refl
probes_tells n Candidate same = inl refl

does_tells : (n : Node) (input : Input) → TellsByTerm n (does n input).node
unfolding does
does_tells n Timeout = timed_out_tells n n.role
does_tells n Beat = beats_tells n n.role
does_tells n (Receive from m) = received_tells n from m
does_tells n (Propose number command) = proposes_tells n n.role number command
does_tells n Probe = probes_tells n n.role

done_tells : (n : Node) (input : Input) → TellsByTerm n (done n input).node
unfolding done
done_tells n input = at_bool (λ b. TellsByTerm n (cond b (quiet n) (does n input)).node) n.halted (λ _ _. inl refl) (λ _. does_tells n input)

-- a node that has saved a vote, and has a log to store, has another term
pub forgot : (n : Node) (input : Input) → SavesVote n (done n input).node → StoresLog n (done n input).node → (done n input).node.term ≢ n.term
forgot n input saves stores same = elim (done_tells n input same) [ inl log ↦ stores log | inr vote ↦ saves (same, vote) ]
