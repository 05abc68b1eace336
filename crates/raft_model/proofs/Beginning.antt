-- A leader's log is not empty once its step is done.
use Rattle.std.proofs.Common.{ℕ, Bool, None, Some, [], arith, cond, false, length, max, min, refl, subst, sym, true, ◌++◌, ◌+◌, ◌-◌, ◌∷◌, ◌≡◌}
use Rattle.raft_model.specs.Rules.{accepts, Beat, Input, Probe, Propose, Receive, Timeout, after_yes, agreed_to, append_all, appended, ask_all, beats, candidate, counted, declined, does, done, follows, has_room, is_refused, is_up_to_date, leading, leads, matches, may_vote, noop, noted, of_lower_term, of_own_term, offered, probes, proposal, proposes, received, risen, stands, term_of, timed_out, voted, with_commit, with_voter, asked}
use Rattle.cat_model.specs.declared.command.Command.{Command}
use Rattle.cat_model.specs.declared.command.Entry.{Entry}
use Rattle.cat_model.specs.declared.reply.Role.{Role}
use Rattle.cat_model.specs.declared.reply.Role.TheVariants.{Candidate, Follower, Leader}
use Rattle.raft_model.proofs.Rising.{after_yes_is}
use Rattle.raft_model.proofs.Sound.{HasBegun}
use Rattle.raft_model.proofs.Tests.{at_bool, le_tells}
use Rattle.raft_model.specs.Limits.{is_full, most_entries}
use Rattle.raft_model.specs.Log.{Log, accepted}
use Rattle.raft_model.specs.Node.{Node, last, quiet, reply}
use Rattle.raft_model.specs.Quorum.{is_majority, members}
use Rattle.raft_model.specs.declared.message.Message.{Message}
use Rattle.raft_model.specs.declared.message.Message.TheVariants.{Append, AskVote, No, Vote, Yes}
use Rattle.std.proofs.lemmas.List.{length_push}
use Rattle.std.specs.Prelude.{nat_le, nat_lt, ◌&&◌, ◌==◌, ◌^◌}

appended_begun : (n : Node) (e : Entry) → HasBegun (appended n e)
appended_begun n e = at_bool (λ b. HasBegun (cond b (record n { log = n.log ++ e ∷ []; commit = length (n.log ++ e ∷ []) }) (record n { log = n.log ++ e ∷ [] }))) (n.servers == 1)
    (λ _ _. omega (arith, length_push n.log e)) (λ _ _. omega (arith, length_push n.log e))

leads_begun : (n : Node) → HasBegun (leads n).node
unfolding leads
leads_begun n = at_bool (λ b. HasBegun (cond b (leading n) (appended (leading n) (noop n.term)))) (is_full n.log)
    (λ e _. let l = le_tells most_entries (length n.log) e in omega arith) (λ _. appended_begun (leading n) (noop n.term))

candidate_begun : (n : Node) → n.role ≡ Candidate → HasBegun (candidate n).node
unfolding candidate
candidate_begun n stands = at_bool (λ b. HasBegun (cond b (leads n) (ask_all n)).node) (n.servers == 1) (λ _. leads_begun n) (λ _ e. cc (stands, e))

timed_out_begun : (n : Node) (role : Role) → HasBegun n → HasBegun (timed_out n role).node
unfolding timed_out
timed_out_begun n Leader b = b
timed_out_begun n Follower b = at_bool (λ c. HasBegun (cond c (candidate (stands n)) (quiet n)).node) (nat_lt n.term (2 ^ 64 - 1)) (λ _. candidate_begun (stands n) refl) (λ _. b)
timed_out_begun n Candidate b = at_bool (λ c. HasBegun (cond c (candidate (stands n)) (quiet n)).node) (nat_lt n.term (2 ^ 64 - 1)) (λ _. candidate_begun (stands n) refl) (λ _. b)

counted_begun : (n : Node) → HasBegun n → HasBegun (counted n).node
unfolding counted
counted_begun n b = at_bool (λ c. HasBegun (cond c (leads n) (quiet n)).node) (is_majority n.servers (members n.votes)) (λ _. leads_begun n) (λ _. b)

voted_begun : (n : Node) (from : ℕ) (g : Bool) (r : Role) → HasBegun n → HasBegun (voted n from g r).node
unfolding voted
voted_begun n from true Candidate b = counted_begun (record n { votes = with_voter n.votes from }) b
voted_begun n from true Follower b = b
voted_begun n from true Leader b = b
voted_begun n from false Candidate b = b
voted_begun n from false Follower b = b
voted_begun n from false Leader b = b

accepts_begun : (n : Node) (from prev : ℕ) (es : Log) (commit round : ℕ) → HasBegun (accepts n from prev es commit round).node
unfolding accepts
accepts_begun n from prev es commit round = at_bool (λ b. HasBegun (cond b (quiet (follows n from))
    (reply (record (follows n from) { log = accepted n.log prev es; commit = max n.commit (min commit (prev + length es)) }) from (Yes n.term (prev + length es) round))).node)
    (is_refused n (accepted n.log prev es)) (λ _ e. cc e) (λ _ e. cc e)

offered_begun : (n : Node) (r : Role) (from prev pt : ℕ) (es : Log) (commit round : ℕ) → HasBegun n → HasBegun (offered n r from prev pt es commit round).node
unfolding offered
offered_begun n Leader from prev pt es commit round b = b
offered_begun n Follower from prev pt es commit round b = at_bool (λ c. HasBegun (cond c (accepts n from prev es commit round) (reply (follows n from) from (No n.term (last n)))).node) (matches n prev pt) (λ _. accepts_begun n from prev es commit round) (λ _ e. cc e)
offered_begun n Candidate from prev pt es commit round b = at_bool (λ c. HasBegun (cond c (accepts n from prev es commit round) (reply (follows n from) from (No n.term (last n)))).node) (matches n prev pt) (λ _. accepts_begun n from prev es commit round) (λ _ e. cc e)

agreed_begun : (n : Node) (r : Role) (from matched round : ℕ) → HasBegun n → HasBegun (agreed_to n r from matched round).node
unfolding agreed_to
agreed_begun n Follower from matched round b = b
agreed_begun n Candidate from matched round b = b
agreed_begun n Leader from matched round b =
    let m : Node = with_commit (noted n from matched round) in
    at_bool (λ c. HasBegun (cond c (after_yes n m from) (quiet n)).node) (nat_le matched (last n)) (λ _. subst (λ (z : Node). HasBegun z) (sym (after_yes_is n m from)) b) (λ _. b)

declined_begun : (n : Node) (r : Role) (from k : ℕ) → HasBegun n → HasBegun (declined n r from k).node
unfolding declined
declined_begun n Leader from k b = b
declined_begun n Follower from k b = b
declined_begun n Candidate from k b = b

own_begun : (n : Node) (from : ℕ) (m : Message) → HasBegun n → HasBegun (of_own_term n from m).node
unfolding of_own_term asked
own_begun n from (AskVote t li lt) b = at_bool (λ c. HasBegun (cond c (reply (record n { vote = Some from }) from (Vote n.term true)) (reply n from (Vote n.term false))).node) (may_vote n.vote from && is_up_to_date lt li n.log) (λ _. b) (λ _. b)
own_begun n from (Vote t g) b = voted_begun n from g n.role b
own_begun n from (Append t prev pt es commit round) b = offered_begun n n.role from prev pt es commit round b
own_begun n from (Yes t matched round) b = agreed_begun n n.role from matched round b
own_begun n from (No t k) b = declined_begun n n.role from k b

lower_begun : (n : Node) (from : ℕ) (m : Message) → HasBegun n → HasBegun (of_lower_term n from m).node
unfolding of_lower_term
lower_begun n from (AskVote t li lt) b = b
lower_begun n from (Vote t g) b = b
lower_begun n from (Append t prev pt es commit round) b = b
lower_begun n from (Yes t matched round) b = b
lower_begun n from (No t k) b = b

risen_begun : (n : Node) (t : ℕ) → HasBegun n → HasBegun (risen n t)
risen_begun n t b = at_bool (λ c. HasBegun (cond c (record n { term = t; vote = None; role = Follower; leader = None }) n)) (nat_lt n.term t) (λ _ e. cc e) (λ _. b)

received_begun : (n : Node) (from : ℕ) (m : Message) → HasBegun n → HasBegun (received n from m).node
unfolding received
received_begun n from m b = at_bool (λ c. HasBegun (cond c (of_lower_term n from m) (of_own_term (risen n (term_of m)) from m)).node) (nat_lt (term_of m) n.term)
    (λ _. lower_begun n from m b) (λ _. own_begun (risen n (term_of m)) from m (risen_begun n (term_of m) b))

beats_begun : (n : Node) (r : Role) → HasBegun n → HasBegun (beats n r).node
unfolding beats
beats_begun n Leader b = b
beats_begun n Follower b = b
beats_begun n Candidate b = b

proposes_begun : (n : Node) (r : Role) (number : ℕ) (command : Command) → HasBegun n → HasBegun (proposes n r number command).node
unfolding proposes
proposes_begun n Follower number command b = b
proposes_begun n Candidate number command b = b
proposes_begun n Leader number command b = at_bool (λ c. HasBegun (cond c (append_all (appended n (proposal n number command))) (quiet n)).node) (has_room n number command) (λ _. appended_begun n (proposal n number command)) (λ _. b)

probes_begun : (n : Node) (r : Role) → HasBegun n → HasBegun (probes n r).node
unfolding probes
probes_begun n Leader b = b
probes_begun n Follower b = b
probes_begun n Candidate b = b

does_begun : (n : Node) (input : Input) → HasBegun n → HasBegun (does n input).node
unfolding does
does_begun n Timeout b = timed_out_begun n n.role b
does_begun n Beat b = beats_begun n n.role b
does_begun n (Receive from m) b = received_begun n from m b
does_begun n (Propose number command) b = proposes_begun n n.role number command b
does_begun n Probe b = probes_begun n n.role b

pub done_begun : (n : Node) (input : Input) → HasBegun n → HasBegun (done n input).node
unfolding done
done_begun n input b = at_bool (λ c. HasBegun (cond c (quiet n) (does n input)).node) n.halted (λ _. b) (λ _. does_begun n input b)
