-- A step in which the store works leaves a running node running.
use Rattle.std.proofs.Common.{ℕ, Bool, None, Some, [], ◌∷◌, cond, false, length, max, min, refl, subst, sym, true, ◌++◌, ◌+◌, ◌-◌, ◌≡◌}
use Rattle.raft_model.specs.Rules.{accepts, Beat, Input, Probe, Propose, Receive, Timeout, after_yes, agreed_to, append_all, appended, ask_all, beats, candidate, counted, declined, does, done, follows, has_room, is_refused, is_up_to_date, leading, leads, matches, may_vote, noop, noted, of_lower_term, of_own_term, offered, probes, proposal, proposes, received, risen, stands, term_of, timed_out, voted, with_commit, with_voter, asked}
use Rattle.cat_model.specs.declared.command.Command.{Command}
use Rattle.cat_model.specs.declared.command.Entry.{Entry}
use Rattle.cat_model.specs.declared.reply.Role.{Role}
use Rattle.cat_model.specs.declared.reply.Role.TheVariants.{Candidate, Follower, Leader}
use Rattle.raft_model.proofs.Rising.{after_yes_is}
use Rattle.raft_model.proofs.Tests.{at_bool}
use Rattle.raft_model.specs.Limits.{is_full}
use Rattle.raft_model.specs.Log.{Log, accepted}
use Rattle.raft_model.specs.Node.{Node, last, quiet, reply}
use Rattle.raft_model.specs.Quorum.{is_majority, members}
use Rattle.raft_model.specs.declared.message.Message.{Message}
use Rattle.raft_model.specs.declared.message.Message.TheVariants.{Append, AskVote, No, Vote, Yes}
use Rattle.std.specs.Prelude.{nat_le, nat_lt, ◌&&◌, ◌==◌, ◌^◌}

abbrev pub IsUp : Node → Type 0
IsUp n = n.halted ≡ false

appended_up : (n : Node) (e : Entry) → IsUp n → IsUp (appended n e)
appended_up n e b = at_bool (λ c. IsUp (cond c (record n { log = n.log ++ e ∷ []; commit = length (n.log ++ e ∷ []) }) (record n { log = n.log ++ e ∷ [] }))) (n.servers == 1) (λ _. b) (λ _. b)

leads_up : (n : Node) → IsUp n → IsUp (leads n).node
unfolding leads
leads_up n l = at_bool (λ b. IsUp (cond b (leading n) (appended (leading n) (noop n.term)))) (is_full n.log) (λ _. l) (λ _. appended_up (leading n) (noop n.term) l)

candidate_up : (n : Node) → IsUp n → IsUp (candidate n).node
unfolding candidate
candidate_up n l = at_bool (λ b. IsUp (cond b (leads n) (ask_all n)).node) (n.servers == 1) (λ _. leads_up n l) (λ _. l)

timed_out_up : (n : Node) (role : Role) → IsUp n → IsUp (timed_out n role).node
unfolding timed_out
timed_out_up n Leader b = b
timed_out_up n Follower b = at_bool (λ c. IsUp (cond c (candidate (stands n)) (quiet n)).node) (nat_lt n.term (2 ^ 64 - 1)) (λ _. candidate_up (stands n) b) (λ _. b)
timed_out_up n Candidate b = at_bool (λ c. IsUp (cond c (candidate (stands n)) (quiet n)).node) (nat_lt n.term (2 ^ 64 - 1)) (λ _. candidate_up (stands n) b) (λ _. b)

counted_up : (n : Node) → n.role ≡ Candidate → IsUp n → IsUp (counted n).node
unfolding counted
counted_up n r b = at_bool (λ c. IsUp (cond c (leads n) (quiet n)).node) (is_majority n.servers (members n.votes)) (λ _. leads_up n b) (λ _. b)

voted_up : (n : Node) (from : ℕ) (g : Bool) (r : Role) → n.role ≡ r → IsUp n → IsUp (voted n from g r).node
unfolding voted
voted_up n from true Candidate e b = counted_up (record n { votes = with_voter n.votes from }) e b
voted_up n from true Follower e b = b
voted_up n from true Leader e b = b
voted_up n from false Candidate e b = b
voted_up n from false Follower e b = b
voted_up n from false Leader e b = b

accepts_up : (n : Node) (from prev : ℕ) (es : Log) (commit round : ℕ) → IsUp n → IsUp (accepts n from prev es commit round).node
unfolding accepts
accepts_up n from prev es commit round u = at_bool (λ b. IsUp (cond b (quiet (follows n from))
    (reply (record (follows n from) { log = accepted n.log prev es; commit = max n.commit (min commit (prev + length es)) }) from (Yes n.term (prev + length es) round))).node)
    (is_refused n (accepted n.log prev es)) (λ _. u) (λ _. u)

offered_up : (n : Node) (r : Role) (from prev pt : ℕ) (es : Log) (commit round : ℕ) → IsUp n → IsUp (offered n r from prev pt es commit round).node
unfolding offered
offered_up n Leader from prev pt es commit round b = b
offered_up n Follower from prev pt es commit round b = at_bool (λ c. IsUp (cond c (accepts n from prev es commit round) (reply (follows n from) from (No n.term (last n)))).node) (matches n prev pt) (λ _. accepts_up n from prev es commit round b) (λ _. b)
offered_up n Candidate from prev pt es commit round b = at_bool (λ c. IsUp (cond c (accepts n from prev es commit round) (reply (follows n from) from (No n.term (last n)))).node) (matches n prev pt) (λ _. accepts_up n from prev es commit round b) (λ _. b)

agreed_up : (n : Node) (r : Role) (from matched round : ℕ) → IsUp n → IsUp (agreed_to n r from matched round).node
unfolding agreed_to
agreed_up n Follower from matched round b = b
agreed_up n Candidate from matched round b = b
agreed_up n Leader from matched round b =
    let m : Node = with_commit (noted n from matched round) in
    at_bool (λ c. IsUp (cond c (after_yes n m from) (quiet n)).node) (nat_le matched (last n)) (λ _. subst (λ (z : Node). IsUp z) (sym (after_yes_is n m from)) b) (λ _. b)

declined_up : (n : Node) (r : Role) (from k : ℕ) → IsUp n → IsUp (declined n r from k).node
unfolding declined
declined_up n Leader from k b = b
declined_up n Follower from k b = b
declined_up n Candidate from k b = b

own_up : (n : Node) (from : ℕ) (m : Message) → IsUp n → IsUp (of_own_term n from m).node
unfolding of_own_term asked
own_up n from (AskVote t li lt) b = at_bool (λ c. IsUp (cond c (reply (record n { vote = Some from }) from (Vote n.term true)) (reply n from (Vote n.term false))).node) (may_vote n.vote from && is_up_to_date lt li n.log) (λ _. b) (λ _. b)
own_up n from (Vote t g) b = voted_up n from g n.role refl b
own_up n from (Append t prev pt es commit round) b = offered_up n n.role from prev pt es commit round b
own_up n from (Yes t matched round) b = agreed_up n n.role from matched round b
own_up n from (No t k) b = declined_up n n.role from k b

lower_up : (n : Node) (from : ℕ) (m : Message) → IsUp n → IsUp (of_lower_term n from m).node
unfolding of_lower_term
lower_up n from (AskVote t li lt) b = b
lower_up n from (Vote t g) b = b
lower_up n from (Append t prev pt es commit round) b = b
lower_up n from (Yes t matched round) b = b
lower_up n from (No t k) b = b

risen_up : (n : Node) (t : ℕ) → IsUp n → IsUp (risen n t)
risen_up n t b = at_bool (λ c. IsUp (cond c (record n { term = t; vote = None; role = Follower; leader = None }) n)) (nat_lt n.term t) (λ _. b) (λ _. b)

received_up : (n : Node) (from : ℕ) (m : Message) → IsUp n → IsUp (received n from m).node
unfolding received
received_up n from m b = at_bool (λ c. IsUp (cond c (of_lower_term n from m) (of_own_term (risen n (term_of m)) from m)).node) (nat_lt (term_of m) n.term)
    (λ _. lower_up n from m b) (λ _. own_up (risen n (term_of m)) from m (risen_up n (term_of m) b))

beats_up : (n : Node) (r : Role) → IsUp n → IsUp (beats n r).node
unfolding beats
beats_up n Leader b = b
beats_up n Follower b = b
beats_up n Candidate b = b

proposes_up : (n : Node) (r : Role) (number : ℕ) (command : Command) → IsUp n → IsUp (proposes n r number command).node
unfolding proposes
proposes_up n Follower number command b = b
proposes_up n Candidate number command b = b
proposes_up n Leader number command b = at_bool (λ c. IsUp (cond c (append_all (appended n (proposal n number command))) (quiet n)).node) (has_room n number command) (λ _. appended_up n (proposal n number command) b) (λ _. b)

probes_up : (n : Node) (r : Role) → IsUp n → IsUp (probes n r).node
unfolding probes
probes_up n Leader b = b
probes_up n Follower b = b
probes_up n Candidate b = b

does_up : (n : Node) (input : Input) → IsUp n → IsUp (does n input).node
unfolding does
does_up n Timeout b = timed_out_up n n.role b
does_up n Beat b = beats_up n n.role b
does_up n (Receive from m) b = received_up n from m b
does_up n (Propose number command) b = proposes_up n n.role number command b
does_up n Probe b = probes_up n n.role b

pub done_up : (n : Node) (input : Input) → IsUp n → IsUp (done n input).node
unfolding done
done_up n input b = at_bool (λ c. IsUp (cond c (quiet n) (does n input)).node) n.halted (λ _. b) (λ _. does_up n input b)
