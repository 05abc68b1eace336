-- No step makes a server commit more than its log has.
use Rattle.std.proofs.Common.{ℕ, zero, suc, Bool, None, Some, [], List, length, take, drop, arith, cond, max, min, subst, sym, ap, true, false, ◌++◌, ◌+◌, ◌-◌, ◌∷◌, ◌∙◌, ◌≡◌, ◌≤◌}
use Rattle.std.specs.Prelude.{nat_le, nat_lt, ◌&&◌, ◌==◌, ◌^◌, not}
use Rattle.std.proofs.lemmas.List.{length-append, length-drop, length-take, length_push}
use Rattle.cat_model.specs.declared.command.Command.{Command}
use Rattle.cat_model.specs.declared.command.Entry.{Entry}
use Rattle.cat_model.specs.declared.reply.Role.{Role}
use Rattle.cat_model.specs.declared.reply.Role.TheVariants.{Candidate, Follower, Leader}
use Rattle.raft_model.specs.declared.message.Message.{Message}
use Rattle.raft_model.specs.declared.message.Message.TheVariants.{Append, AskVote, No, Vote, Yes}
use Rattle.raft_model.specs.declared.message.Sent.{Sent}
use Rattle.raft_model.specs.Limits.{is_full, keeps_limits}
use Rattle.raft_model.specs.Log.{Log, accepted, merged, term_at}
use Rattle.raft_model.specs.Node.{Node, last, quiet, reply}
use Rattle.raft_model.specs.Quorum.{is_majority, members}
use Rattle.raft_model.specs.Rules.{accepts, Beat, Input, Probe, Propose, Receive, Timeout, agreed_to, append_all, appended, ask_all, beats, candidate, committed_upto, counted, declined, does, done, follows, has_index, has_room, is_refused, is_up_to_date, keeps_front, leading, leads, matches, may_vote, noop, noted, of_lower_term, of_own_term, offered, after_yes, probes, proposal, proposes, received, risen, stands, term_of, timed_out, voted, with_commit, with_voter, asked}
use Rattle.raft_model.specs.Step.{Outcome, Works, VoteFails, LogFails, Forgets, NodeStep}
use Rattle.raft_model.proofs.Rising.{after_yes_is}
use Rattle.raft_model.proofs.Tests.{at_bool, and_tells, keeps_tells, le_tells, not_tells, or_false}

-- it has committed no more than its log has
abbrev pub IsWithin : Node → Type 0
IsWithin n = n.commit ≤ length n.log

merged_long : (x es : Log) → length es ≤ length (merged x es)
merged_long x [] = omega arith
merged_long [] (e ∷ es) = omega arith
merged_long (h ∷ hs) (e ∷ es) =
    let less = merged_long hs es in
    at_bool (λ b. suc (length es) ≤ length (cond b (h ∷ merged hs es) (e ∷ es))) (h.term == e.term) (λ _. omega arith) (λ _. omega arith)

accepted_long : (log : Log) (prev : ℕ) (es : Log) → prev ≤ length log → prev + length es ≤ length (accepted log prev es)
accepted_long log prev es l =
    let long = merged_long (drop prev log) es in
    omega (arith, length-append (take prev log) (merged (drop prev log) es), length-take prev log)

upto_within : (n : Node) (k : ℕ) → IsWithin n → k ≤ length n.log → committed_upto n k ≤ length n.log
upto_within n zero w l = w
upto_within n (suc k) w l =
    let below = upto_within n k w (omega (arith, l)) in
    at_bool (λ b. cond b (suc k) (committed_upto n k) ≤ length n.log) (nat_lt n.commit (suc k) && (term_at (suc k) n.log == n.term && is_majority n.servers (has_index n (suc k)))) (λ _. l) (λ _. below)

appended_within : (n : Node) (e : Entry) → IsWithin n → IsWithin (appended n e)
appended_within n e w =
    at_bool (λ b. IsWithin (cond b (record n { log = n.log ++ e ∷ []; commit = length (n.log ++ e ∷ []) }) (record n { log = n.log ++ e ∷ [] }))) (n.servers == 1)
    (λ _. omega arith) (λ _. omega (arith, length_push n.log e, w))

leads_within : (n : Node) → IsWithin n → IsWithin (leads n).node
unfolding leads
leads_within n w = at_bool (λ b. IsWithin (cond b (leading n) (appended (leading n) (noop n.term)))) (is_full n.log) (λ _. w) (λ _. appended_within (leading n) (noop n.term) w)

candidate_within : (n : Node) → IsWithin n → IsWithin (candidate n).node
unfolding candidate
candidate_within n w = at_bool (λ b. IsWithin (cond b (leads n) (ask_all n)).node) (n.servers == 1) (λ _. leads_within n w) (λ _. w)

timed_out_within : (n : Node) (role : Role) → IsWithin n → IsWithin (timed_out n role).node
unfolding timed_out
timed_out_within n Leader w = w
timed_out_within n Follower w = at_bool (λ c. IsWithin (cond c (candidate (stands n)) (quiet n)).node) (nat_lt n.term (2 ^ 64 - 1)) (λ _. candidate_within (stands n) w) (λ _. w)
timed_out_within n Candidate w = at_bool (λ c. IsWithin (cond c (candidate (stands n)) (quiet n)).node) (nat_lt n.term (2 ^ 64 - 1)) (λ _. candidate_within (stands n) w) (λ _. w)

counted_within : (n : Node) → IsWithin n → IsWithin (counted n).node
unfolding counted
counted_within n w = at_bool (λ c. IsWithin (cond c (leads n) (quiet n)).node) (is_majority n.servers (members n.votes)) (λ _. leads_within n w) (λ _. w)

voted_within : (n : Node) (from : ℕ) (g : Bool) (r : Role) → IsWithin n → IsWithin (voted n from g r).node
unfolding voted
voted_within n from true Candidate w = counted_within (record n { votes = with_voter n.votes from }) w
voted_within n from true Follower w = w
voted_within n from true Leader w = w
voted_within n from false Candidate w = w
voted_within n from false Follower w = w
voted_within n from false Leader w = w

accepts_within : (n : Node) (from prev : ℕ) (es : Log) (commit round : ℕ) → prev ≤ length n.log → IsWithin n → IsWithin (accepts n from prev es commit round).node
unfolding accepts
accepts_within n from prev es commit round here w = at_bool (λ b. IsWithin (cond b (quiet (follows n from))
    (reply (record (follows n from) { log = accepted n.log prev es; commit = max n.commit (min commit (prev + length es)) }) from (Yes n.term (prev + length es) round))).node)
    (is_refused n (accepted n.log prev es)) (λ _. w)
    (λ e.
    let keeps = not_tells (keeps_front n.commit n.log (accepted n.log prev es)) (or_false (not (keeps_limits (accepted n.log prev es))) (not (keeps_front n.commit n.log (accepted n.log prev es))) e).1 in
    let own = keeps_tells n.commit n.log (accepted n.log prev es) w keeps in
    omega (arith, own.0, accepted_long n.log prev es here))

offered_within : (n : Node) (r : Role) (from prev pt : ℕ) (es : Log) (commit round : ℕ) → IsWithin n → IsWithin (offered n r from prev pt es commit round).node
unfolding offered
offered_within n Leader from prev pt es commit round w = w
offered_within n Follower from prev pt es commit round w = at_bool (λ c. IsWithin (cond c (accepts n from prev es commit round) (reply (follows n from) from (No n.term (last n)))).node) (matches n prev pt)
    (λ e. accepts_within n from prev es commit round (le_tells prev (last n) (and_tells (nat_le prev (last n)) (term_at prev n.log == pt) e).0) w) (λ _. w)
offered_within n Candidate from prev pt es commit round w = at_bool (λ c. IsWithin (cond c (accepts n from prev es commit round) (reply (follows n from) from (No n.term (last n)))).node) (matches n prev pt)
    (λ e. accepts_within n from prev es commit round (le_tells prev (last n) (and_tells (nat_le prev (last n)) (term_at prev n.log == pt) e).0) w) (λ _. w)

agreed_within : (n : Node) (r : Role) (from matched round : ℕ) → IsWithin n → IsWithin (agreed_to n r from matched round).node
unfolding agreed_to
agreed_within n Follower from matched round w = w
agreed_within n Candidate from matched round w = w
agreed_within n Leader from matched round w =
    let k : Node = noted n from matched round in
    let m : Node = with_commit k in
    at_bool (λ c. IsWithin (cond c (after_yes n m from) (quiet n)).node) (nat_le matched (last n)) (λ _. subst IsWithin (sym (after_yes_is n m from)) (upto_within k (last k) w (omega arith))) (λ _. w)

declined_within : (n : Node) (r : Role) (from k : ℕ) → IsWithin n → IsWithin (declined n r from k).node
unfolding declined
declined_within n Leader from k w = w
declined_within n Follower from k w = w
declined_within n Candidate from k w = w

own_within : (n : Node) (from : ℕ) (m : Message) → IsWithin n → IsWithin (of_own_term n from m).node
unfolding of_own_term asked
own_within n from (AskVote t li lt) w = at_bool (λ c. IsWithin (cond c (reply (record n { vote = Some from }) from (Vote n.term true)) (reply n from (Vote n.term false))).node) (may_vote n.vote from && is_up_to_date lt li n.log) (λ _. w) (λ _. w)
own_within n from (Vote t g) w = voted_within n from g n.role w
own_within n from (Append t prev pt es commit round) w = offered_within n n.role from prev pt es commit round w
own_within n from (Yes t matched round) w = agreed_within n n.role from matched round w
own_within n from (No t k) w = declined_within n n.role from k w

lower_within : (n : Node) (from : ℕ) (m : Message) → IsWithin n → IsWithin (of_lower_term n from m).node
unfolding of_lower_term
lower_within n from (AskVote t li lt) w = w
lower_within n from (Vote t g) w = w
lower_within n from (Append t prev pt es commit round) w = w
lower_within n from (Yes t matched round) w = w
lower_within n from (No t k) w = w

risen_within : (n : Node) (t : ℕ) → IsWithin n → IsWithin (risen n t)
risen_within n t w = at_bool (λ c. IsWithin (cond c (record n { term = t; vote = None; role = Follower; leader = None }) n)) (nat_lt n.term t) (λ _. w) (λ _. w)

received_within : (n : Node) (from : ℕ) (m : Message) → IsWithin n → IsWithin (received n from m).node
unfolding received
received_within n from m w = at_bool (λ c. IsWithin (cond c (of_lower_term n from m) (of_own_term (risen n (term_of m)) from m)).node) (nat_lt (term_of m) n.term)
    (λ _. lower_within n from m w) (λ _. own_within (risen n (term_of m)) from m (risen_within n (term_of m) w))

beats_within : (n : Node) (r : Role) → IsWithin n → IsWithin (beats n r).node
unfolding beats
beats_within n Leader w = w
beats_within n Follower w = w
beats_within n Candidate w = w

proposes_within : (n : Node) (r : Role) (number : ℕ) (command : Command) → IsWithin n → IsWithin (proposes n r number command).node
unfolding proposes
proposes_within n Follower number command w = w
proposes_within n Candidate number command w = w
proposes_within n Leader number command w = at_bool (λ c. IsWithin (cond c (append_all (appended n (proposal n number command))) (quiet n)).node) (has_room n number command) (λ _. appended_within n (proposal n number command) w) (λ _. w)

probes_within : (n : Node) (r : Role) → IsWithin n → IsWithin (probes n r).node
unfolding probes
probes_within n Leader w = w
probes_within n Follower w = w
probes_within n Candidate w = w

does_within : (n : Node) (input : Input) → IsWithin n → IsWithin (does n input).node
unfolding does
does_within n Timeout w = timed_out_within n n.role w
does_within n Beat w = beats_within n n.role w
does_within n (Receive from m) w = received_within n from m w
does_within n (Propose number command) w = proposes_within n n.role number command w
does_within n Probe w = probes_within n n.role w

done_within : (n : Node) (input : Input) → IsWithin n → IsWithin (done n input).node
unfolding done
done_within n input w = at_bool (λ c. IsWithin (cond c (quiet n) (does n input)).node) n.halted (λ _. w) (λ _. does_within n input w)

pub step_within : (outcome : Outcome) (old : Node) (input : Input) (new : Node) (sent : List Sent) → NodeStep outcome old input new sent → IsWithin old → IsWithin new
step_within Works old input new sent (between, v, l, is, out) w = subst IsWithin (sym is) (done_within old input w)
step_within VoteFails old input new sent (saves, c, is, out) w = subst IsWithin (sym is) w
step_within LogFails old input new sent (between, v, stores, c, is, out) w = subst IsWithin (sym is) w
step_within Forgets old input new sent (saves, c, stores, is, out) w = subst IsWithin (sym is) w
