-- Only a leader sends an Append, of its own term; and whom a follower holds for leader.
use Rattle.std.proofs.Common.{◌≡◌, ℕ, suc, zero, ◌+◌, ◌-◌, ◌<◌, ◌⊎◌, inl, inr, Bool, true, false, cond, max, min, List, [], ◌∷◌, ◌++◌, length, refl, ◌∙◌, arith, Some, None}
use Rattle.std.specs.Prelude.{nat_le, nat_lt, ◌&&◌, ◌==◌, ◌^◌}
use Rattle.std.specs.List.{AllByRecursion as Each}
use Rattle.cat_model.specs.declared.command.Command.{Command}
use Rattle.cat_model.specs.declared.reply.Role.{Role}
use Rattle.cat_model.specs.declared.reply.Role.TheVariants.{Candidate, Follower, Leader}
use Rattle.raft_model.specs.declared.message.Message.{Message}
use Rattle.raft_model.specs.declared.message.Message.TheVariants.{Append, AskVote, No, Vote, Yes}
use Rattle.raft_model.specs.declared.message.Sent.{Sent}
use Rattle.raft_model.specs.Limits.{is_full}
use Rattle.raft_model.specs.Log.{Log, accepted, last_term}
use Rattle.raft_model.specs.Node.{Done, Node, last, of_server, quiet, reply, to_others}
use Rattle.raft_model.specs.Quorum.{is_majority, members}
use Rattle.raft_model.specs.Rules.{Beat, Input, Probe, Propose, Receive, Timeout, accepts, after_yes, agreed_to, append_all, append_to, appended, ask_all, asked, beats, candidate, counted, declined, does, done, follows, has_room, is_refused, is_up_to_date, leading, leads, matches, may_vote, noop, noted, of_lower_term, of_own_term, offered, probes, proposal, proposes, received, risen, stands, term_of, timed_out, voted, with_commit, with_voter}
use Rattle.raft_model.proofs.Tests.{at_bool, lt_tells, lt_tells_not}
use Rattle.cluster_rules.proofs.Tools.{each_append}
use Rattle.rerun_rules.proofs.Steady.{appended_role, own_stays}

-- An Append is that of a leader, of its term.
abbrev pub IsLeaders : Node → Message → Type 0
IsLeaders n (Append term prev prev_term entries commit round) = (term ≡ n.term) × (n.role ≡ Leader)
IsLeaders n other = Unit {0}

abbrev pub AreLeaders : Node → List Sent → Type 0
AreLeaders n sent = Each (λ (s : Sent). IsLeaders n s.message) sent

others_are : (n : Node) (id : ℕ) (f : ℕ → Message) → ((p : ℕ) → IsLeaders n (f p)) → (k : ℕ) → AreLeaders n (to_others id f k)
others_are n id f u zero = tt
others_are n id f u (suc k) = at_bool (λ b. AreLeaders n (cond b (to_others id f k) (to_others id f k ++ record { to = suc k; message = f (suc k) } ∷ []))) (suc k == id)
    (λ _. others_are n id f u k) (λ _. each_append (λ (s : Sent). IsLeaders n s.message) (to_others id f k) (record { to = suc k; message = f (suc k) } ∷ []) (others_are n id f u k) (u (suc k), tt))

abbrev Honest : Done → Type 0
Honest d = AreLeaders d.node d.sent

all_honest : (n : Node) → n.role ≡ Leader → Honest (append_all n)
all_honest n lead = others_are n n.id (append_to n) (λ p. (refl, lead)) n.servers

leads_honest : (n : Node) → Honest (leads n)
unfolding leads
leads_honest n = all_honest (cond (is_full n.log) (leading n) (appended (leading n) (noop n.term)))
    (at_bool (λ b. (cond b (leading n) (appended (leading n) (noop n.term))).role ≡ Leader) (is_full n.log) (λ _. refl) (λ _. appended_role (leading n) (noop n.term)))

candidate_honest : (n : Node) → Honest (candidate n)
unfolding candidate
candidate_honest n = at_bool (λ b. Honest (cond b (leads n) (ask_all n))) (n.servers == 1) (λ _. leads_honest n) (λ _. others_are n n.id (λ peer. AskVote n.term (last n) (last_term n.log)) (λ p. tt) n.servers)

timed_out_honest : (n : Node) (r : Role) → Honest (timed_out n r)
unfolding timed_out
timed_out_honest n Leader = tt
timed_out_honest n Follower = at_bool (λ c. Honest (cond c (candidate (stands n)) (quiet n))) (nat_lt n.term (2 ^ 64 - 1)) (λ _. candidate_honest (stands n)) (λ _. tt)
timed_out_honest n Candidate = at_bool (λ c. Honest (cond c (candidate (stands n)) (quiet n))) (nat_lt n.term (2 ^ 64 - 1)) (λ _. candidate_honest (stands n)) (λ _. tt)

counted_honest : (n : Node) → Honest (counted n)
unfolding counted
counted_honest n = at_bool (λ c. Honest (cond c (leads n) (quiet n))) (is_majority n.servers (members n.votes)) (λ _. leads_honest n) (λ _. tt)

voted_honest : (n : Node) (from : ℕ) (g : Bool) (r : Role) → Honest (voted n from g r)
unfolding voted
voted_honest n from true Candidate = counted_honest (record n { votes = with_voter n.votes from })
voted_honest n from true Follower = tt
voted_honest n from true Leader = tt
voted_honest n from false Candidate = tt
voted_honest n from false Follower = tt
voted_honest n from false Leader = tt

accepts_honest : (n : Node) (from prev : ℕ) (es : Log) (commit round : ℕ) → Honest (accepts n from prev es commit round)
unfolding accepts
accepts_honest n from prev es commit round = at_bool (λ b. Honest (cond b (quiet (follows n from))
    (reply (record (follows n from) { log = accepted n.log prev es; commit = max n.commit (min commit (prev + length es)) }) from (Yes n.term (prev + length es) round))))
    (is_refused n (accepted n.log prev es)) (λ _. tt) (λ _. (tt, tt))

offered_honest : (n : Node) (r : Role) (from prev pt : ℕ) (es : Log) (commit round : ℕ) → Honest (offered n r from prev pt es commit round)
unfolding offered
offered_honest n Leader from prev pt es commit round = tt
offered_honest n Follower from prev pt es commit round = at_bool (λ c. Honest (cond c (accepts n from prev es commit round) (reply (follows n from) from (No n.term (last n))))) (matches n prev pt) (λ _. accepts_honest n from prev es commit round) (λ _. (tt, tt))
offered_honest n Candidate from prev pt es commit round = at_bool (λ c. Honest (cond c (accepts n from prev es commit round) (reply (follows n from) from (No n.term (last n))))) (matches n prev pt) (λ _. accepts_honest n from prev es commit round) (λ _. (tt, tt))

after_honest : (old n : Node) (from : ℕ) → n.role ≡ Leader → Honest (after_yes old n from)
unfolding after_yes
after_honest old n from lead = at_bool (λ b. Honest (cond b (append_all n) (cond (nat_le (of_server n.next from) (last n)) (reply n from (append_to n from)) (quiet n)))) (nat_lt old.commit n.commit)
    (λ _. all_honest n lead)
    (λ _. at_bool (λ b. Honest (cond b (reply n from (append_to n from)) (quiet n))) (nat_le (of_server n.next from) (last n)) (λ _. ((refl, lead), tt)) (λ _. tt))

agreed_honest : (n : Node) (r : Role) (from matched round : ℕ) → n.role ≡ r → Honest (agreed_to n r from matched round)
unfolding agreed_to
agreed_honest n Follower from matched round e = tt
agreed_honest n Candidate from matched round e = tt
agreed_honest n Leader from matched round e =
    at_bool (λ c. Honest (cond c (after_yes n (with_commit (noted n from matched round)) from) (quiet n))) (nat_le matched (last n)) (λ _. after_honest n (with_commit (noted n from matched round)) from e) (λ _. tt)

declined_honest : (n : Node) (r : Role) (from k : ℕ) → n.role ≡ r → Honest (declined n r from k)
unfolding declined
declined_honest n Leader from k e = ((refl, e), tt)
declined_honest n Follower from k e = tt
declined_honest n Candidate from k e = tt

own_honest : (n : Node) (from : ℕ) (m : Message) → Honest (of_own_term n from m)
unfolding of_own_term asked
own_honest n from (AskVote t li lt) = at_bool (λ c. Honest (cond c (reply (record n { vote = Some from }) from (Vote n.term true)) (reply n from (Vote n.term false)))) (may_vote n.vote from && is_up_to_date lt li n.log) (λ _. (tt, tt)) (λ _. (tt, tt))
own_honest n from (Vote t g) = voted_honest n from g n.role
own_honest n from (Append t prev pt es commit round) = offered_honest n n.role from prev pt es commit round
own_honest n from (Yes t matched round) = agreed_honest n n.role from matched round refl
own_honest n from (No t k) = declined_honest n n.role from k refl

lower_honest : (n : Node) (from : ℕ) (m : Message) → Honest (of_lower_term n from m)
unfolding of_lower_term
lower_honest n from (AskVote t li lt) = (tt, tt)
lower_honest n from (Vote t g) = tt
lower_honest n from (Append t prev pt es commit round) = (tt, tt)
lower_honest n from (Yes t matched round) = tt
lower_honest n from (No t k) = tt

received_honest : (n : Node) (from : ℕ) (m : Message) → Honest (received n from m)
unfolding received
received_honest n from m = at_bool (λ c. Honest (cond c (of_lower_term n from m) (of_own_term (risen n (term_of m)) from m))) (nat_lt (term_of m) n.term) (λ _. lower_honest n from m) (λ _. own_honest (risen n (term_of m)) from m)

beats_honest : (n : Node) (r : Role) → n.role ≡ r → Honest (beats n r)
unfolding beats
beats_honest n Leader e = all_honest n e
beats_honest n Follower e = tt
beats_honest n Candidate e = tt

proposes_honest : (n : Node) (r : Role) (number : ℕ) (command : Command) → n.role ≡ r → Honest (proposes n r number command)
unfolding proposes
proposes_honest n Follower number command e = tt
proposes_honest n Candidate number command e = tt
proposes_honest n Leader number command e = at_bool (λ c. Honest (cond c (append_all (appended n (proposal n number command))) (quiet n))) (has_room n number command)
    (λ _. all_honest (appended n (proposal n number command)) (appended_role n (proposal n number command) ∙ e)) (λ _. tt)

probes_honest : (n : Node) (r : Role) → n.role ≡ r → Honest (probes n r)
unfolding probes
probes_honest n Leader e = all_honest (record n { round = n.round + 1 }) e
probes_honest n Follower e = tt
probes_honest n Candidate e = tt

does_honest : (n : Node) (input : Input) → Honest (does n input)
unfolding does
does_honest n Timeout = timed_out_honest n n.role
does_honest n Beat = beats_honest n n.role refl
does_honest n (Receive from m) = received_honest n from m
does_honest n (Propose number command) = proposes_honest n n.role number command refl
does_honest n Probe = probes_honest n n.role refl

pub done_honest : (n : Node) (input : Input) → AreLeaders (done n input).node (done n input).sent
unfolding done
done_honest n input = at_bool (λ c. Honest (cond c (quiet n) (does n input))) n.halted (λ _. tt) (λ _. does_honest n input)

-- Whom a follower holds for leader: nobody where its term rose, the same as before, or the sender of an Append of its
-- term.
abbrev pub IsLed : Input → Node → Type 0
IsLed (Receive from (Append term prev prev_term entries commit round)) n = (n.leader ≡ Some from) × (n.term ≡ term)
IsLed other n = ⊥

abbrev pub Knows : Node → Input → Node → Type 0
Knows old input new = ((new.leader ≡ None) × (old.term < new.term)) ⊎ (new.leader ≡ old.leader) ⊎ IsLed input new

accepts_leader : (n : Node) (from prev : ℕ) (es : Log) (commit round : ℕ) → (accepts n from prev es commit round).node.leader ≡ Some from
unfolding accepts
accepts_leader n from prev es commit round = at_bool (λ b. (cond b (quiet (follows n from))
    (reply (record (follows n from) { log = accepted n.log prev es; commit = max n.commit (min commit (prev + length es)) }) from (Yes n.term (prev + length es) round))).node.leader ≡ Some from)
    (is_refused n (accepted n.log prev es)) (λ _. refl) (λ _. refl)

accepts_term : (n : Node) (from prev : ℕ) (es : Log) (commit round : ℕ) → (accepts n from prev es commit round).node.term ≡ n.term
unfolding accepts
accepts_term n from prev es commit round = at_bool (λ b. (cond b (quiet (follows n from))
    (reply (record (follows n from) { log = accepted n.log prev es; commit = max n.commit (min commit (prev + length es)) }) from (Yes n.term (prev + length es) round))).node.term ≡ n.term)
    (is_refused n (accepted n.log prev es)) (λ _. refl) (λ _. refl)

pub offered_knows : (n : Node) (r : Role) (from prev pt : ℕ) (es : Log) (commit round : ℕ) → r ≡ Follower → ((offered n r from prev pt es commit round).node.leader ≡ Some from) × ((offered n r from prev pt es commit round).node.term ≡ n.term)
unfolding offered
offered_knows n Leader from prev pt es commit round e = cc
offered_knows n Candidate from prev pt es commit round e = cc
offered_knows n Follower from prev pt es commit round e =
    at_bool (λ c. ((cond c (accepts n from prev es commit round) (reply (follows n from) from (No n.term (last n)))).node.leader ≡ Some from) × ((cond c (accepts n from prev es commit round) (reply (follows n from) from (No n.term (last n)))).node.term ≡ n.term)) (matches n prev pt)
    (λ _. (accepts_leader n from prev es commit round, accepts_term n from prev es commit round)) (λ _. (refl, refl))

voted_leader : (n : Node) (from : ℕ) (g : Bool) (r : Role) → r ≡ Follower → (voted n from g r).node.leader ≡ n.leader
unfolding voted
voted_leader n from true Candidate e = cc
voted_leader n from true Follower e = refl
voted_leader n from true Leader e = cc
voted_leader n from false Candidate e = cc
voted_leader n from false Follower e = refl
voted_leader n from false Leader e = cc

agreed_leader : (n : Node) (r : Role) (from matched round : ℕ) → r ≡ Follower → (agreed_to n r from matched round).node.leader ≡ n.leader
unfolding agreed_to
agreed_leader n Follower from matched round e = refl
agreed_leader n Candidate from matched round e = cc
agreed_leader n Leader from matched round e = cc

declined_leader : (n : Node) (r : Role) (from k : ℕ) → r ≡ Follower → (declined n r from k).node.leader ≡ n.leader
unfolding declined
declined_leader n Leader from k e = cc
declined_leader n Follower from k e = refl
declined_leader n Candidate from k e = cc

own_knows : (n : Node) (from : ℕ) (m : Message) → n.role ≡ Follower → n.term ≡ term_of m → ((of_own_term n from m).node.leader ≡ n.leader) ⊎ IsLed (Receive from m) (of_own_term n from m).node
unfolding of_own_term asked
own_knows n from (AskVote t li lt) f e = inl (at_bool (λ c. (cond c (reply (record n { vote = Some from }) from (Vote n.term true)) (reply n from (Vote n.term false))).node.leader ≡ n.leader) (may_vote n.vote from && is_up_to_date lt li n.log) (λ _. refl) (λ _. refl))
own_knows n from (Vote t g) f e = inl (voted_leader n from g n.role f)
own_knows n from (Append t prev pt es commit round) f e = let k = offered_knows n n.role from prev pt es commit round f in inr (k.0, k.1 ∙ e)
own_knows n from (Yes t matched round) f e = inl (agreed_leader n n.role from matched round f)
own_knows n from (No t k) f e = inl (declined_leader n n.role from k f)

lower_leader : (n : Node) (from : ℕ) (m : Message) → (of_lower_term n from m).node.leader ≡ n.leader
unfolding of_lower_term
lower_leader n from (AskVote t li lt) = refl
lower_leader n from (Vote t g) = refl
lower_leader n from (Append t prev pt es commit round) = refl
lower_leader n from (Yes t matched round) = refl
lower_leader n from (No t k) = refl

received_knows : (n : Node) (from : ℕ) (m : Message) → n.role ≡ Follower → Knows n (Receive from m) (received n from m).node
unfolding received
received_knows n from m f = at_bool (λ c. nat_lt (term_of m) n.term ≡ c → Knows n (Receive from m) (cond c (of_lower_term n from m) (of_own_term (risen n (term_of m)) from m)).node) (nat_lt (term_of m) n.term)
    (λ _ _. inr (inl (lower_leader n from m)))
    (λ _ low. at_bool (λ b. nat_lt n.term (term_of m) ≡ b → Knows n (Receive from m) (of_own_term (cond b (record n { term = term_of m; vote = None; role = Follower; leader = None }) n) from m).node) (nat_lt n.term (term_of m))
    (λ _ up. let r : Node = record n { term = term_of m; vote = None; role = Follower; leader = None } in
    elim (own_knows r from m refl refl) [ inl e ↦ inl (e, let k = (own_stays r from m).term in let l = lt_tells n.term (term_of m) up in omega arith) | inr e ↦ inr (inr e) ])
    (λ _ up. elim (own_knows n from m f (let k = lt_tells_not (term_of m) n.term low in let l = lt_tells_not n.term (term_of m) up in omega arith)) [ inl e ↦ inr (inl e) | inr e ↦ inr (inr e) ]) refl) refl

beats_leader : (n : Node) (r : Role) → r ≡ Follower → (beats n r).node.leader ≡ n.leader
unfolding beats
beats_leader n Leader e = cc
beats_leader n Follower e = refl
beats_leader n Candidate e = cc

proposes_leader : (n : Node) (r : Role) (number : ℕ) (command : Command) → r ≡ Follower → (proposes n r number command).node.leader ≡ n.leader
unfolding proposes
proposes_leader n Leader number command e = cc
proposes_leader n Follower number command e = refl
proposes_leader n Candidate number command e = cc

probes_leader : (n : Node) (r : Role) → r ≡ Follower → (probes n r).node.leader ≡ n.leader
unfolding probes
probes_leader n Leader e = cc
probes_leader n Follower e = refl
probes_leader n Candidate e = cc

does_knows : (n : Node) (input : Input) → n.role ≡ Follower → (input ≡ Timeout → ⊥) → Knows n input (does n input).node
unfolding does
does_knows n Timeout f not = absurd (not refl)
does_knows n Beat f not = inr (inl (beats_leader n n.role f))
does_knows n (Receive from m) f not = received_knows n from m f
does_knows n (Propose number command) f not = inr (inl (proposes_leader n n.role number command f))
does_knows n Probe f not = inr (inl (probes_leader n n.role f))

pub done_knows : (n : Node) (input : Input) → n.role ≡ Follower → (input ≡ Timeout → ⊥) → Knows n input (done n input).node
unfolding done
done_knows n input f not = at_bool (λ c. Knows n input (cond c (quiet n) (does n input)).node) n.halted (λ _. inr (inl refl)) (λ _. does_knows n input f not)
