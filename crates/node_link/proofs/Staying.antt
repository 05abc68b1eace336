-- A step keeps a server's number and how many servers there are.
use Rattle.std.proofs.Common.{◌≡◌, ℕ, suc, zero, ◌-◌, ◌+◌, ◌<◌, ◌++◌, ◌∷◌, [], inl, inr, Bool, true, false, cond, None, Some, List, length, max, min, get_or, refl, sym, ap, arith, ◌∙◌}
use Rattle.std.specs.Prelude.{nat_le, nat_lt, ◌==◌, ◌&&◌, ◌^◌, Contains}
use Rattle.cat_model.specs.declared.command.Command.{Command}
use Rattle.cat_model.specs.declared.command.Entry.{Entry}
use Rattle.cat_model.specs.declared.reply.Role.{Role}
use Rattle.cat_model.specs.declared.reply.Role.TheVariants.{Candidate, Follower, Leader}
use Rattle.raft_model.proofs.Rising.{after_yes_is}
use Rattle.raft_model.proofs.Tests.{at_bool}
use Rattle.raft_model.specs.declared.message.Message.{Message}
use Rattle.raft_model.specs.declared.message.Message.TheVariants.{Append, AskVote, No, Vote, Yes}
use Rattle.raft_model.specs.declared.message.Sent.{Sent}
use Rattle.raft_model.specs.Limits.{is_full}
use Rattle.raft_model.specs.Log.{Log, accepted}
use Rattle.raft_model.specs.Node.{Node, last, quiet, reply}
use Rattle.raft_model.specs.Quorum.{is_majority, members}
use Rattle.raft_model.specs.Rules.{Input, Timeout, Beat, Receive, Propose, Probe, accepts, after_yes, agreed_to, append_all, appended, ask_all, asked, beats, candidate, committed_upto, counted, declined, does, done, follows, has_room, is_refused, is_up_to_date, leading, leads, matches, may_vote, noop, noted, of_lower_term, of_own_term, offered, probes, proposal, proposes, received, risen, stands, term_of, timed_out, voted, with_commit, with_voter}
use Rattle.raft_model.specs.Step.{NodeStep, Outcome, Works, VoteFails, LogFails, Forgets, RestartWorks, RestartFails}
use Rattle.raft_node.specs.Steps.{Steps}
use Rattle.node_journals.specs.Journals.{Event, Given, Restart, IsJournal, IsStep, Step, ended}
use Rattle.node_link.specs.Hosts.{Hosted, IsHost, IsSameServer, KeepsPlace}

pub same : (n : Node) → IsSameServer n n
same n = record { id = refl; servers = refl }

pub then : (a b c : Node) → IsSameServer a b → IsSameServer b c → IsSameServer a c
then a b c first second = record { id = second.id ∙ first.id; servers = second.servers ∙ first.servers }

-- a node that is another one, whose number is this one's
is_same : (old node new : Node) → new ≡ node → IsSameServer old node → IsSameServer old new
is_same old node new is s = record { id = ap (λ (n : Node). n.id) is ∙ s.id; servers = ap (λ (n : Node). n.servers) is ∙ s.servers }

appended_same : (n : Node) (e : Entry) → IsSameServer n (appended n e)
appended_same n e = at_bool (λ b. IsSameServer n (cond b (record n { log = n.log ++ e ∷ []; commit = length (n.log ++ e ∷ []) }) (record n { log = n.log ++ e ∷ [] }))) (n.servers == 1)
    (λ _. record { id = refl; servers = refl }) (λ _. record { id = refl; servers = refl })

leads_same : (n : Node) → IsSameServer n (leads n).node
unfolding leads
leads_same n = at_bool (λ b. IsSameServer n (cond b (leading n) (appended (leading n) (noop n.term)))) (is_full n.log)
    (λ _. record { id = refl; servers = refl })
    (λ _. let s = appended_same (leading n) (noop n.term) in record { id = s.id; servers = s.servers })

candidate_same : (n : Node) → IsSameServer n (candidate n).node
unfolding candidate
candidate_same n = at_bool (λ b. IsSameServer n (cond b (leads n) (ask_all n)).node) (n.servers == 1) (λ _. leads_same n) (λ _. same n)

timed_out_same : (n : Node) (r : Role) → IsSameServer n (timed_out n r).node
unfolding timed_out
timed_out_same n Leader = same n
timed_out_same n Follower = at_bool (λ b. IsSameServer n (cond b (candidate (stands n)) (quiet n)).node) (nat_lt n.term (2 ^ 64 - 1)) (λ _. let s = candidate_same (stands n) in record { id = s.id; servers = s.servers }) (λ _. same n)
timed_out_same n Candidate = at_bool (λ b. IsSameServer n (cond b (candidate (stands n)) (quiet n)).node) (nat_lt n.term (2 ^ 64 - 1)) (λ _. let s = candidate_same (stands n) in record { id = s.id; servers = s.servers }) (λ _. same n)

counted_same : (n : Node) → IsSameServer n (counted n).node
unfolding counted
counted_same n = at_bool (λ b. IsSameServer n (cond b (leads n) (quiet n)).node) (is_majority n.servers (members n.votes)) (λ _. leads_same n) (λ _. same n)

voted_same : (n : Node) (from : ℕ) (granted : Bool) (r : Role) → IsSameServer n (voted n from granted r).node
unfolding voted
voted_same n from true Candidate = let s = counted_same (record n { votes = with_voter n.votes from }) in record { id = s.id; servers = s.servers }
voted_same n from true Follower = same n
voted_same n from true Leader = same n
voted_same n from false Candidate = same n
voted_same n from false Follower = same n
voted_same n from false Leader = same n

beats_same : (n : Node) (r : Role) → IsSameServer n (beats n r).node
unfolding beats
beats_same n Leader = same n
beats_same n Follower = same n
beats_same n Candidate = same n

proposes_same : (n : Node) (r : Role) (number : ℕ) (command : Command) → IsSameServer n (proposes n r number command).node
unfolding proposes
proposes_same n Leader number command = at_bool (λ b. IsSameServer n (cond b (append_all (appended n (proposal n number command))) (quiet n)).node) (has_room n number command) (λ _. appended_same n (proposal n number command)) (λ _. same n)
proposes_same n Follower number command = same n
proposes_same n Candidate number command = same n

probes_same : (n : Node) (r : Role) → IsSameServer n (probes n r).node
unfolding probes
probes_same n Leader = record { id = refl; servers = refl }
probes_same n Follower = same n
probes_same n Candidate = same n

accepts_same : (n : Node) (from prev : ℕ) (es : Log) (commit round : ℕ) → IsSameServer n (accepts n from prev es commit round).node
unfolding accepts
accepts_same n from prev es commit round = at_bool (λ b. IsSameServer n (cond b (quiet (follows n from))
    (reply (record (follows n from) { log = accepted n.log prev es; commit = max n.commit (min commit (prev + length es)) }) from (Yes n.term (prev + length es) round))).node)
    (is_refused n (accepted n.log prev es)) (λ _. record { id = refl; servers = refl }) (λ _. record { id = refl; servers = refl })

offered_same : (n : Node) (r : Role) (from prev pt : ℕ) (es : Log) (commit round : ℕ) → IsSameServer n (offered n r from prev pt es commit round).node
unfolding offered
offered_same n Leader from prev pt es commit round = same n
offered_same n Follower from prev pt es commit round = at_bool (λ b. IsSameServer n (cond b (accepts n from prev es commit round) (reply (follows n from) from (No n.term (last n)))).node) (matches n prev pt) (λ _. accepts_same n from prev es commit round) (λ _. record { id = refl; servers = refl })
offered_same n Candidate from prev pt es commit round = at_bool (λ b. IsSameServer n (cond b (accepts n from prev es commit round) (reply (follows n from) from (No n.term (last n)))).node) (matches n prev pt) (λ _. accepts_same n from prev es commit round) (λ _. record { id = refl; servers = refl })

agreed_same : (n : Node) (r : Role) (from matched round : ℕ) → IsSameServer n (agreed_to n r from matched round).node
unfolding agreed_to
agreed_same n Follower from matched round = same n
agreed_same n Candidate from matched round = same n
agreed_same n Leader from matched round =
    let k : Node = with_commit (noted n from matched round) in
    at_bool (λ b. IsSameServer n (cond b (after_yes n k from) (quiet n)).node) (nat_le matched (last n))
    (λ _. is_same n k (after_yes n k from).node (after_yes_is n k from) (record { id = refl; servers = refl })) (λ _. same n)

declined_same : (n : Node) (r : Role) (from k : ℕ) → IsSameServer n (declined n r from k).node
unfolding declined
declined_same n Leader from k = record { id = refl; servers = refl }
declined_same n Follower from k = same n
declined_same n Candidate from k = same n

own_same : (n : Node) (from : ℕ) (m : Message) → IsSameServer n (of_own_term n from m).node
unfolding of_own_term asked
own_same n from (AskVote t li lt) = at_bool (λ b. IsSameServer n (cond b (reply (record n { vote = Some from }) from (Vote n.term true)) (reply n from (Vote n.term false))).node) (may_vote n.vote from && is_up_to_date lt li n.log)
    (λ _. record { id = refl; servers = refl }) (λ _. same n)
own_same n from (Vote t granted) = voted_same n from granted n.role
own_same n from (Append t prev pt es commit round) = offered_same n n.role from prev pt es commit round
own_same n from (Yes t matched round) = agreed_same n n.role from matched round
own_same n from (No t k) = declined_same n n.role from k

lower_same : (n : Node) (from : ℕ) (m : Message) → IsSameServer n (of_lower_term n from m).node
unfolding of_lower_term
lower_same n from (AskVote t li lt) = same n
lower_same n from (Vote t granted) = same n
lower_same n from (Append t prev pt es commit round) = same n
lower_same n from (Yes t matched round) = same n
lower_same n from (No t k) = same n

risen_same : (n : Node) (t from : ℕ) (m : Message) → IsSameServer n (of_own_term (risen n t) from m).node
risen_same n t from m =
    let k : Node = record n { term = t; vote = None; role = Follower; leader = None } in
    at_bool (λ b. IsSameServer n (of_own_term (cond b k n) from m).node) (nat_lt n.term t)
    (λ _. let s = own_same k from m in record { id = s.id; servers = s.servers }) (λ _. own_same n from m)

received_same : (n : Node) (from : ℕ) (m : Message) → IsSameServer n (received n from m).node
unfolding received
received_same n from m = at_bool (λ b. IsSameServer n (cond b (of_lower_term n from m) (of_own_term (risen n (term_of m)) from m)).node) (nat_lt (term_of m) n.term)
    (λ _. lower_same n from m) (λ _. risen_same n (term_of m) from m)

does_same : (n : Node) (input : Input) → IsSameServer n (does n input).node
unfolding does
does_same n Timeout = timed_out_same n n.role
does_same n Beat = beats_same n n.role
does_same n (Receive from m) = received_same n from m
does_same n (Propose number command) = proposes_same n n.role number command
does_same n Probe = probes_same n n.role

done_same : (n : Node) (input : Input) → IsSameServer n (done n input).node
unfolding done
done_same n input = at_bool (λ b. IsSameServer n (cond b (quiet n) (does n input)).node) n.halted (λ _. same n) (λ _. does_same n input)

pub step_same : (outcome : Outcome) (old : Node) (input : Input) (new : Node) (sent : List Sent) → NodeStep outcome old input new sent → IsSameServer old new
step_same Works old input new sent (between, v, l, is, out) =
    let s = done_same old input in is_same old (record (done old input).node { store = new.store }) new is (record { id = s.id; servers = s.servers })
step_same VoteFails old input new sent (saves, c, is, out) = record { id = ap (λ (z : Node). z.id) is; servers = ap (λ (z : Node). z.servers) is }
step_same LogFails old input new sent (between, v, stores, c, is, out) = record { id = ap (λ (z : Node). z.id) is; servers = ap (λ (z : Node). z.servers) is }
step_same Forgets old input new sent (saves, c, stores, is, out) = record { id = ap (λ (z : Node). z.id) is; servers = ap (λ (z : Node). z.servers) is }

event_same : (old : Node) (event : Event) (new : Node) (sent : List Sent) → IsStep old event new sent → IsSameServer old new
event_same old (Given input) new sent (u, outcome, step) = step_same outcome old input new sent step
event_same old Restart new sent (inl (kept, c, r, is), none) = record { id = ap (λ (z : Node). z.id) is; servers = ap (λ (z : Node). z.servers) is }
event_same old Restart new sent (inr (c, is), none) = record { id = ap (λ (z : Node). z.id) is; servers = ap (λ (z : Node). z.servers) is }

ended_same : (n : Node) (steps : List Step) → IsJournal n steps → IsSameServer n (ended n steps)
ended_same n [] j = same n
ended_same n (s ∷ steps) j = then n s.node (ended s.node steps) (event_same n s.event s.node s.sent j.0) (ended_same s.node steps j.1)

after_same : (n : Node) (steps : List Step) → IsJournal n steps → (s : Step) (k : ℕ) → k < length steps → get_or steps k s ≡ s → IsSameServer n s.node
after_same n [] j s k l e = absurd (omega arith)
after_same n (t ∷ steps) j s zero l e = is_same n t.node s.node (ap (λ (z : Step). z.node) (sym e)) (event_same n t.event t.node t.sent j.0)
after_same n (t ∷ steps) j s (suc k) l e = then n t.node s.node (event_same n t.event t.node t.sent j.0) (after_same t.node steps j.1 s k (omega arith) e)

pub keeps_place : (h : Hosted) → IsHost h → KeepsPlace h
keeps_place h is = record {
  ever = λ s (k, l, e). after_same h.process.start h.process.steps is.journal s k l e;
  now = is_same h.process.start (ended h.process.start h.process.steps) h.node (sym is.behind) (ended_same h.process.start h.process.steps is.journal);
}

-- a step, whatever the store did
pub steps_same : (old : Node) (input : Input) (new : Node) (sent : List Sent) → Steps old input new sent → IsSameServer old new
steps_same old input new sent (inl s) = step_same Works old input new sent s
steps_same old input new sent (inr (inl s)) = step_same VoteFails old input new sent s
steps_same old input new sent (inr (inr s)) = step_same LogFails old input new sent s
