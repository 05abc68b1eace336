-- A step keeps a server's number and the count of servers, and sends to other servers alone, at most 64 entries in one
-- message.
use Rattle.std.proofs.Common.{ℕ, zero, suc, Bool, None, Some, [], List, length, arith, cond, max, min, refl, subst, sym, ap, true, false, ◌++◌, ◌+◌, ◌∷◌, ◌∙◌, ◌≡◌, ◌≢◌, ◌≤◌, ◌-◌, drop}
use Rattle.std.specs.Prelude.{nat_le, nat_lt, ◌&&◌, ◌==◌, ◌^◌}
use Rattle.cat_model.specs.declared.command.Command.{Command}
use Rattle.cat_model.specs.declared.command.Entry.{Entry}
use Rattle.cat_model.specs.declared.reply.Role.{Role}
use Rattle.cat_model.specs.declared.reply.Role.TheVariants.{Candidate, Follower, Leader}
use Rattle.raft_model.specs.declared.message.Message.{Message}
use Rattle.raft_model.specs.declared.message.Message.TheVariants.{Append, AskVote, No, Vote, Yes}
use Rattle.raft_model.specs.declared.message.Sent.{Sent}
use Rattle.raft_model.specs.Limits.{batch, command_bytes, is_full, joining, most_sent_bytes}
use Rattle.raft_model.specs.Log.{Log, accepted, last_term}
use Rattle.raft_model.specs.Node.{Done, Node, last, of_server, quiet, reply, to_others}
use Rattle.raft_model.specs.Quorum.{is_majority, members}
use Rattle.raft_model.specs.Rules.{accepts, Beat, Input, Probe, Propose, Receive, Timeout, after_yes, agreed_to, append_all, append_to, appended, ask_all, beats, candidate, counted, declined, does, done, follows, has_room, is_refused, is_up_to_date, leading, leads, matches, may_vote, noop, noted, of_lower_term, of_own_term, offered, probes, proposal, proposes, received, risen, stands, stepped_back, term_of, timed_out, voted, with_commit, with_voter, asked}
use Rattle.raft_model.specs.Step.{Outcome, Works, VoteFails, LogFails, Forgets, NodeStep}
use Rattle.raft_model.proofs.Tests.{at_bool, eq_is, no_bool}

-- at most 64 entries
abbrev pub IsShort : Message → Type 0
IsShort (Append term prev prev_term entries commit round) = length entries ≤ 64
IsShort message = Unit {0}

-- another one of so many servers
abbrev pub IsPeer : ℕ → ℕ → ℕ → Type 0
IsPeer id servers to = (1 ≤ to) × (to ≤ servers) × (to ≢ id)

abbrev pub AllGo : ℕ → ℕ → List Sent → Type 0
AllGo id servers [] = Unit {0}
AllGo id servers (s ∷ ss) = (IsPeer id servers s.to × IsShort s.message) × AllGo id servers ss

-- what a rule keeps of a node, and where its messages go
abbrev pub Sends : Node → Done → Type 0
Sends n d = (d.node.id ≡ n.id) × (d.node.servers ≡ n.servers) × AllGo n.id n.servers d.sent

joining_most : (room before : ℕ) (es : Log) → length (joining room before es) ≤ room
joining_most zero before es = omega arith
joining_most (suc room) before [] = omega arith
joining_most (suc room) before (e ∷ es) =
    at_bool (λ b. length (cond b (e ∷ joining room (before + command_bytes e.command) es) []) ≤ suc room) (nat_le (before + command_bytes e.command) most_sent_bytes)
    (λ _. let ih = joining_most room (before + command_bytes e.command) es in omega arith) (λ _. omega arith)

batch_most : (es : Log) → length (batch es) ≤ 64
batch_most [] = omega arith
batch_most (e ∷ es) = let ih = joining_most 63 (command_bytes e.command) es in omega arith

short_append : (n : Node) (peer : ℕ) → IsShort (append_to n peer)
short_append n peer = batch_most (drop (of_server n.next peer - 1) n.log)

all_more : (id servers : ℕ) (ss : List Sent) (s : Sent) → AllGo id servers ss → IsPeer id servers s.to × IsShort s.message → AllGo id servers (ss ++ s ∷ [])
all_more id servers [] s a h = (h, tt)
all_more id servers (t ∷ ts) s a h = (a.0, all_more id servers ts s a.1 h)

others : (id servers : ℕ) (message : ℕ → Message) → ((k : ℕ) → IsShort (message k)) → (k : ℕ) → k ≤ servers → AllGo id servers (to_others id message k)
others id servers message short zero l = tt
others id servers message short (suc k) l =
    let ih = others id servers message short k (omega arith) in
    at_bool (λ b. AllGo id servers (cond b (to_others id message k) (to_others id message k ++ record { to = suc k; message = message (suc k) } ∷ []))) (suc k == id)
    (λ _. ih)
    (λ differ. all_more id servers (to_others id message k) (record { to = suc k; message = message (suc k) }) ih ((omega arith, l, λ same. no_bool (suc k == id) (eq_is (suc k) id same) differ), short (suc k)))

to_all : (n : Node) → Sends n (append_all n)
to_all n = (refl, refl, others n.id n.servers (append_to n) (short_append n) n.servers (omega arith))

ask_sends : (n : Node) → Sends n (ask_all n)
ask_sends n = (refl, refl, others n.id n.servers (λ peer. AskVote n.term (last n) (last_term n.log)) (λ k. tt) n.servers (omega arith))

appended_sends : (n : Node) (e : Entry) → Sends n (append_all (appended n e))
appended_sends n e =
    at_bool (λ b. Sends n (append_all (cond b (record n { log = n.log ++ e ∷ []; commit = length (n.log ++ e ∷ []) }) (record n { log = n.log ++ e ∷ [] })))) (n.servers == 1)
    (λ _. to_all (record n { log = n.log ++ e ∷ []; commit = length (n.log ++ e ∷ []) })) (λ _. to_all (record n { log = n.log ++ e ∷ [] }))

leads_sends : (n : Node) → Sends n (leads n)
unfolding leads
leads_sends n = at_bool (λ b. Sends n (append_all (cond b (leading n) (appended (leading n) (noop n.term))))) (is_full n.log) (λ _. to_all (leading n)) (λ _. appended_sends (leading n) (noop n.term))

candidate_sends : (n : Node) → Sends n (candidate n)
unfolding candidate
candidate_sends n = at_bool (λ b. Sends n (cond b (leads n) (ask_all n))) (n.servers == 1) (λ _. leads_sends n) (λ _. ask_sends n)

stays_quiet : (n : Node) → Sends n (quiet n)
stays_quiet n = (refl, refl, tt)

timed_out_sends : (n : Node) (role : Role) → Sends n (timed_out n role)
unfolding timed_out
timed_out_sends n Leader = stays_quiet n
timed_out_sends n Follower = at_bool (λ c. Sends n (cond c (candidate (stands n)) (quiet n))) (nat_lt n.term (2 ^ 64 - 1)) (λ _. candidate_sends (stands n)) (λ _. stays_quiet n)
timed_out_sends n Candidate = at_bool (λ c. Sends n (cond c (candidate (stands n)) (quiet n))) (nat_lt n.term (2 ^ 64 - 1)) (λ _. candidate_sends (stands n)) (λ _. stays_quiet n)

counted_sends : (n : Node) → Sends n (counted n)
unfolding counted
counted_sends n = at_bool (λ c. Sends n (cond c (leads n) (quiet n))) (is_majority n.servers (members n.votes)) (λ _. leads_sends n) (λ _. stays_quiet n)

voted_sends : (n : Node) (from : ℕ) (g : Bool) (r : Role) → Sends n (voted n from g r)
unfolding voted
voted_sends n from true Candidate = counted_sends (record n { votes = with_voter n.votes from })
voted_sends n from true Follower = stays_quiet n
voted_sends n from true Leader = stays_quiet n
voted_sends n from false Candidate = stays_quiet n
voted_sends n from false Follower = stays_quiet n
voted_sends n from false Leader = stays_quiet n

beats_sends : (n : Node) (r : Role) → Sends n (beats n r)
unfolding beats
beats_sends n Leader = to_all n
beats_sends n Follower = stays_quiet n
beats_sends n Candidate = stays_quiet n

proposes_sends : (n : Node) (r : Role) (number : ℕ) (command : Command) → Sends n (proposes n r number command)
unfolding proposes
proposes_sends n Follower number command = stays_quiet n
proposes_sends n Candidate number command = stays_quiet n
proposes_sends n Leader number command = at_bool (λ c. Sends n (cond c (append_all (appended n (proposal n number command))) (quiet n))) (has_room n number command) (λ _. appended_sends n (proposal n number command)) (λ _. stays_quiet n)

probes_sends : (n : Node) (r : Role) → Sends n (probes n r)
unfolding probes
probes_sends n Leader = to_all (record n { round = n.round + 1 })
probes_sends n Follower = stays_quiet n
probes_sends n Candidate = stays_quiet n

accepts_sends : (n : Node) (from prev : ℕ) (es : Log) (commit round : ℕ) → IsPeer n.id n.servers from → Sends n (accepts n from prev es commit round)
unfolding accepts
accepts_sends n from prev es commit round o = at_bool (λ b. Sends n (cond b (quiet (follows n from))
    (reply (record (follows n from) { log = accepted n.log prev es; commit = max n.commit (min commit (prev + length es)) }) from (Yes n.term (prev + length es) round))))
    (is_refused n (accepted n.log prev es)) (λ _. (refl, refl, tt)) (λ _. (refl, refl, ((o, tt), tt)))

offered_sends : (n : Node) (r : Role) (from prev pt : ℕ) (es : Log) (commit round : ℕ) → IsPeer n.id n.servers from → Sends n (offered n r from prev pt es commit round)
unfolding offered
offered_sends n Leader from prev pt es commit round o = stays_quiet n
offered_sends n Follower from prev pt es commit round o = at_bool (λ c. Sends n (cond c (accepts n from prev es commit round) (reply (follows n from) from (No n.term (last n))))) (matches n prev pt) (λ _. accepts_sends n from prev es commit round o) (λ _. (refl, refl, ((o, tt), tt)))
offered_sends n Candidate from prev pt es commit round o = at_bool (λ c. Sends n (cond c (accepts n from prev es commit round) (reply (follows n from) from (No n.term (last n))))) (matches n prev pt) (λ _. accepts_sends n from prev es commit round o) (λ _. (refl, refl, ((o, tt), tt)))

after_yes_sends : (old n : Node) (from : ℕ) → IsPeer n.id n.servers from → Sends n (after_yes old n from)
unfolding after_yes
after_yes_sends old n from o = at_bool (λ b. Sends n (cond b (append_all n) (cond (nat_le (of_server n.next from) (last n)) (reply n from (append_to n from)) (quiet n)))) (nat_lt old.commit n.commit)
    (λ _. to_all n)
    (λ _. at_bool (λ b. Sends n (cond b (reply n from (append_to n from)) (quiet n))) (nat_le (of_server n.next from) (last n)) (λ _. (refl, refl, ((o, short_append n from), tt))) (λ _. stays_quiet n))

agreed_sends : (n : Node) (r : Role) (from matched round : ℕ) → IsPeer n.id n.servers from → Sends n (agreed_to n r from matched round)
unfolding agreed_to
agreed_sends n Follower from matched round o = stays_quiet n
agreed_sends n Candidate from matched round o = stays_quiet n
agreed_sends n Leader from matched round o =
    at_bool (λ c. Sends n (cond c (after_yes n (with_commit (noted n from matched round)) from) (quiet n))) (nat_le matched (last n))
    (λ _. after_yes_sends n (with_commit (noted n from matched round)) from o) (λ _. stays_quiet n)

declined_sends : (n : Node) (r : Role) (from k : ℕ) → IsPeer n.id n.servers from → Sends n (declined n r from k)
unfolding declined
declined_sends n Leader from k o = (refl, refl, ((o, short_append (stepped_back n from k) from), tt))
declined_sends n Follower from k o = stays_quiet n
declined_sends n Candidate from k o = stays_quiet n

own_sends : (n : Node) (from : ℕ) (m : Message) → IsPeer n.id n.servers from → Sends n (of_own_term n from m)
unfolding of_own_term asked
own_sends n from (AskVote t li lt) o = at_bool (λ c. Sends n (cond c (reply (record n { vote = Some from }) from (Vote n.term true)) (reply n from (Vote n.term false)))) (may_vote n.vote from && is_up_to_date lt li n.log) (λ _. (refl, refl, ((o, tt), tt))) (λ _. (refl, refl, ((o, tt), tt)))
own_sends n from (Vote t g) o = voted_sends n from g n.role
own_sends n from (Append t prev pt es commit round) o = offered_sends n n.role from prev pt es commit round o
own_sends n from (Yes t matched round) o = agreed_sends n n.role from matched round o
own_sends n from (No t k) o = declined_sends n n.role from k o

lower_sends : (n : Node) (from : ℕ) (m : Message) → IsPeer n.id n.servers from → Sends n (of_lower_term n from m)
unfolding of_lower_term
lower_sends n from (AskVote t li lt) o = (refl, refl, ((o, tt), tt))
lower_sends n from (Vote t g) o = stays_quiet n
lower_sends n from (Append t prev pt es commit round) o = (refl, refl, ((o, tt), tt))
lower_sends n from (Yes t matched round) o = stays_quiet n
lower_sends n from (No t k) o = stays_quiet n

risen_sends : (n : Node) (t from : ℕ) (m : Message) → IsPeer n.id n.servers from → Sends n (of_own_term (risen n t) from m)
risen_sends n t from m o =
    at_bool (λ c. Sends n (of_own_term (cond c (record n { term = t; vote = None; role = Follower; leader = None }) n) from m)) (nat_lt n.term t)
    (λ _. own_sends (record n { term = t; vote = None; role = Follower; leader = None }) from m o) (λ _. own_sends n from m o)

received_sends : (n : Node) (from : ℕ) (m : Message) → IsPeer n.id n.servers from → Sends n (received n from m)
unfolding received
received_sends n from m o = at_bool (λ c. Sends n (cond c (of_lower_term n from m) (of_own_term (risen n (term_of m)) from m))) (nat_lt (term_of m) n.term)
    (λ _. lower_sends n from m o) (λ _. risen_sends n (term_of m) from m o)

-- what a server may be given: a message comes from another server
abbrev pub IsFit : Node → Input → Type 0
IsFit n (Receive from message) = IsPeer n.id n.servers from
IsFit n input = Unit {0}

does_sends : (n : Node) (input : Input) → IsFit n input → Sends n (does n input)
unfolding does
does_sends n Timeout f = timed_out_sends n n.role
does_sends n Beat f = beats_sends n n.role
does_sends n (Receive from m) f = received_sends n from m f
does_sends n (Propose number command) f = proposes_sends n n.role number command
does_sends n Probe f = probes_sends n n.role

done_sends : (n : Node) (input : Input) → IsFit n input → Sends n (done n input)
unfolding done
done_sends n input f = at_bool (λ c. Sends n (cond c (quiet n) (does n input))) n.halted (λ _. stays_quiet n) (λ _. does_sends n input f)

pub step_sends : (outcome : Outcome) (old : Node) (input : Input) (new : Node) (sent : List Sent) → IsFit old input → NodeStep outcome old input new sent → Sends old (record { node = new; sent = sent })
step_sends Works old input new sent fit (between, v, l, is, out) =
    let d = done_sends old input fit in
    (ap (λ (z : Node). z.id) is ∙ d.0, ap (λ (z : Node). z.servers) is ∙ d.1, subst (AllGo old.id old.servers) (sym out) d.2)
step_sends VoteFails old input new sent fit (saves, c, is, out) = (ap (λ (z : Node). z.id) is, ap (λ (z : Node). z.servers) is, subst (AllGo old.id old.servers) (sym out) tt)
step_sends LogFails old input new sent fit (between, v, stores, c, is, out) = (ap (λ (z : Node). z.id) is, ap (λ (z : Node). z.servers) is, subst (AllGo old.id old.servers) (sym out) tt)
step_sends Forgets old input new sent fit (saves, c, stores, is, out) = (ap (λ (z : Node). z.id) is, ap (λ (z : Node). z.servers) is, subst (AllGo old.id old.servers) (sym out) tt)
