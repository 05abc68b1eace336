-- A log only grows, unless its server follows and is sent an Append.
use Rattle.std.proofs.Common.{◌≡◌, ℕ, ◌-◌, ◌<◌, ◌≤◌, ◌⊎◌, inl, inr, Bool, true, false, cond, [], ◌∷◌, ◌++◌, length, refl, arith, Some, None}
use Rattle.std.specs.Prelude.{nat_le, nat_lt, ◌&&◌, ◌==◌, ◌^◌}
use Rattle.cat_model.specs.declared.command.Command.{Command}
use Rattle.cat_model.specs.declared.command.Entry.{Entry}
use Rattle.cat_model.specs.declared.reply.Role.{Role}
use Rattle.cat_model.specs.declared.reply.Role.TheVariants.{Candidate, Follower, Leader}
use Rattle.raft_model.specs.declared.message.Message.{Message}
use Rattle.raft_model.specs.declared.message.Message.TheVariants.{Append, AskVote, No, Vote, Yes}
use Rattle.raft_model.specs.Limits.{is_full}
use Rattle.raft_model.specs.Log.{Log}
use Rattle.raft_model.specs.Node.{Node, last, of_server, quiet, reply}
use Rattle.raft_model.specs.Quorum.{is_majority, members}
use Rattle.raft_model.specs.Rules.{Beat, Input, Probe, Propose, Receive, Timeout, after_yes, agreed_to, append_all, append_to, appended, ask_all, asked, beats, candidate, counted, declined, does, done, has_room, is_up_to_date, leading, leads, may_vote, noop, noted, of_lower_term, of_own_term, offered, probes, proposal, proposes, received, risen, stands, term_of, timed_out, voted, with_commit, with_voter}
use Rattle.raft_model.proofs.Tests.{at_bool, lt_tells}

-- it is as before, or has one entry more
abbrev pub Grown : Log → Log → Type 0
Grown old new = (new ≡ old) ⊎ ((e : Entry) × (new ≡ old ++ e ∷ []))

pub appended_log : (n : Node) (e : Entry) → (appended n e).log ≡ n.log ++ e ∷ []
appended_log n e = at_bool (λ c. (cond c (record n { log = n.log ++ e ∷ []; commit = length (n.log ++ e ∷ []) }) (record n { log = n.log ++ e ∷ [] })).log ≡ n.log ++ e ∷ []) (n.servers == 1) (λ _. refl) (λ _. refl)

leads_grown : (n : Node) → Grown n.log (leads n).node.log
unfolding leads
leads_grown n = at_bool (λ b. Grown n.log (cond b (leading n) (appended (leading n) (noop n.term))).log) (is_full n.log) (λ _. inl refl) (λ _. inr (noop n.term, appended_log (leading n) (noop n.term)))

candidate_grown : (n : Node) → Grown n.log (candidate n).node.log
unfolding candidate
candidate_grown n = at_bool (λ b. Grown n.log (cond b (leads n) (ask_all n)).node.log) (n.servers == 1) (λ _. leads_grown n) (λ _. inl refl)

timed_out_grown : (n : Node) (r : Role) → Grown n.log (timed_out n r).node.log
unfolding timed_out
timed_out_grown n Leader = inl refl
timed_out_grown n Follower = at_bool (λ c. Grown n.log (cond c (candidate (stands n)) (quiet n)).node.log) (nat_lt n.term (2 ^ 64 - 1)) (λ _. candidate_grown (stands n)) (λ _. inl refl)
timed_out_grown n Candidate = at_bool (λ c. Grown n.log (cond c (candidate (stands n)) (quiet n)).node.log) (nat_lt n.term (2 ^ 64 - 1)) (λ _. candidate_grown (stands n)) (λ _. inl refl)

counted_grown : (n : Node) → Grown n.log (counted n).node.log
unfolding counted
counted_grown n = at_bool (λ c. Grown n.log (cond c (leads n) (quiet n)).node.log) (is_majority n.servers (members n.votes)) (λ _. leads_grown n) (λ _. inl refl)

voted_grown : (n : Node) (from : ℕ) (g : Bool) (r : Role) → Grown n.log (voted n from g r).node.log
unfolding voted
voted_grown n from true Candidate = counted_grown (record n { votes = with_voter n.votes from })
voted_grown n from true Follower = inl refl
voted_grown n from true Leader = inl refl
voted_grown n from false Candidate = inl refl
voted_grown n from false Follower = inl refl
voted_grown n from false Leader = inl refl

after_grown : (old n : Node) (from : ℕ) → Grown n.log (after_yes old n from).node.log
unfolding after_yes
after_grown old n from = at_bool (λ b. Grown n.log (cond b (append_all n) (cond (nat_le (of_server n.next from) (last n)) (reply n from (append_to n from)) (quiet n))).node.log) (nat_lt old.commit n.commit)
    (λ _. inl refl) (λ _. at_bool (λ b. Grown n.log (cond b (reply n from (append_to n from)) (quiet n)).node.log) (nat_le (of_server n.next from) (last n)) (λ _. inl refl) (λ _. inl refl))

agreed_grown : (n : Node) (r : Role) (from matched round : ℕ) → Grown n.log (agreed_to n r from matched round).node.log
unfolding agreed_to
agreed_grown n Follower from matched round = inl refl
agreed_grown n Candidate from matched round = inl refl
agreed_grown n Leader from matched round =
    at_bool (λ c. Grown n.log (cond c (after_yes n (with_commit (noted n from matched round)) from) (quiet n)).node.log) (nat_le matched (last n)) (λ _. after_grown n (with_commit (noted n from matched round)) from) (λ _. inl refl)

declined_grown : (n : Node) (r : Role) (from k : ℕ) → Grown n.log (declined n r from k).node.log
unfolding declined
declined_grown n Leader from k = inl refl
declined_grown n Follower from k = inl refl
declined_grown n Candidate from k = inl refl

offered_grown : (n : Node) (r : Role) (from prev pt : ℕ) (es : Log) (commit round : ℕ) → r ≡ Leader → Grown n.log (offered n r from prev pt es commit round).node.log
unfolding offered
offered_grown n Leader from prev pt es commit round e = inl refl
offered_grown n Follower from prev pt es commit round e = absurd (cc)
offered_grown n Candidate from prev pt es commit round e = absurd (cc)

-- an Append finds it leading, in no lower term
abbrev pub Minds : Node → Input → Type 0
Minds n (Receive from (Append term prev prev_term entries commit round)) = (n.role ≡ Leader) × (term ≤ n.term)
Minds n other = Unit {0}

own_grown : (n : Node) (from : ℕ) (m : Message) → Minds n (Receive from m) → Grown n.log (of_own_term n from m).node.log
unfolding of_own_term asked
own_grown n from (AskVote t li lt) u = at_bool (λ c. Grown n.log (cond c (reply (record n { vote = Some from }) from (Vote n.term true)) (reply n from (Vote n.term false))).node.log) (may_vote n.vote from && is_up_to_date lt li n.log) (λ _. inl refl) (λ _. inl refl)
own_grown n from (Vote t g) u = voted_grown n from g n.role
own_grown n from (Append t prev pt es commit round) u = offered_grown n n.role from prev pt es commit round u.0
own_grown n from (Yes t matched round) u = agreed_grown n n.role from matched round
own_grown n from (No t k) u = declined_grown n n.role from k

lower_grown : (n : Node) (from : ℕ) (m : Message) → Grown n.log (of_lower_term n from m).node.log
unfolding of_lower_term
lower_grown n from (AskVote t li lt) = inl refl
lower_grown n from (Vote t g) = inl refl
lower_grown n from (Append t prev pt es commit round) = inl refl
lower_grown n from (Yes t matched round) = inl refl
lower_grown n from (No t k) = inl refl

-- a node that rose to a higher term was sent no Append
risen_minds : (n : Node) (from : ℕ) (m : Message) → n.term < term_of m → Minds n (Receive from m) → Minds (record n { term = term_of m; vote = None; role = Follower; leader = None }) (Receive from m)
risen_minds n from (AskVote t li lt) l u = tt
risen_minds n from (Vote t g) l u = tt
risen_minds n from (Append t prev pt es commit round) l u = absurd (let k = u.1 in omega arith)
risen_minds n from (Yes t matched round) l u = tt
risen_minds n from (No t k) l u = tt

received_grown : (n : Node) (from : ℕ) (m : Message) → Minds n (Receive from m) → Grown n.log (received n from m).node.log
unfolding received
received_grown n from m u = at_bool (λ c. Grown n.log (cond c (of_lower_term n from m) (of_own_term (risen n (term_of m)) from m)).node.log) (nat_lt (term_of m) n.term)
    (λ _. lower_grown n from m)
    (λ _. at_bool (λ b. nat_lt n.term (term_of m) ≡ b → Grown n.log (of_own_term (cond b (record n { term = term_of m; vote = None; role = Follower; leader = None }) n) from m).node.log) (nat_lt n.term (term_of m))
    (λ _ e. own_grown (record n { term = term_of m; vote = None; role = Follower; leader = None }) from m (risen_minds n from m (lt_tells n.term (term_of m) e) u)) (λ _ _. own_grown n from m u) refl)

beats_grown : (n : Node) (r : Role) → Grown n.log (beats n r).node.log
unfolding beats
beats_grown n Leader = inl refl
beats_grown n Follower = inl refl
beats_grown n Candidate = inl refl

proposes_grown : (n : Node) (r : Role) (number : ℕ) (command : Command) → Grown n.log (proposes n r number command).node.log
unfolding proposes
proposes_grown n Follower number command = inl refl
proposes_grown n Candidate number command = inl refl
proposes_grown n Leader number command = at_bool (λ c. Grown n.log (cond c (append_all (appended n (proposal n number command))) (quiet n)).node.log) (has_room n number command) (λ _. inr (proposal n number command, appended_log n (proposal n number command))) (λ _. inl refl)

probes_grown : (n : Node) (r : Role) → Grown n.log (probes n r).node.log
unfolding probes
probes_grown n Leader = inl refl
probes_grown n Follower = inl refl
probes_grown n Candidate = inl refl

does_grown : (n : Node) (input : Input) → Minds n input → Grown n.log (does n input).node.log
unfolding does
does_grown n Timeout u = timed_out_grown n n.role
does_grown n Beat u = beats_grown n n.role
does_grown n (Receive from m) u = received_grown n from m u
does_grown n (Propose number command) u = proposes_grown n n.role number command
does_grown n Probe u = probes_grown n n.role

pub done_grown : (n : Node) (input : Input) → Minds n input → Grown n.log (done n input).node.log
unfolding done
done_grown n input u = at_bool (λ c. Grown n.log (cond c (quiet n) (does n input)).node.log) n.halted (λ _. inl refl) (λ _. does_grown n input u)

-- a leader with room appends what is proposed
proposes_it : (n : Node) (r : Role) (number : ℕ) (command : Command) → r ≡ Leader → has_room n number command ≡ true → (proposes n r number command).node.log ≡ n.log ++ proposal n number command ∷ []
unfolding proposes
proposes_it n Leader number command e room = at_bool (λ c. c ≡ true → (cond c (append_all (appended n (proposal n number command))) (quiet n)).node.log ≡ n.log ++ proposal n number command ∷ []) (has_room n number command) (λ _ _. appended_log n (proposal n number command)) (λ _ z. absurd (cc)) room
proposes_it n Follower number command e room = absurd (cc)
proposes_it n Candidate number command e room = absurd (cc)

pub done_proposes : (n : Node) (number : ℕ) (command : Command) → n.halted ≡ false → n.role ≡ Leader → has_room n number command ≡ true → (done n (Propose number command)).node.log ≡ n.log ++ proposal n number command ∷ []
unfolding done does
done_proposes n number command up lead room = at_bool (λ c. n.halted ≡ c → (cond c (quiet n) (proposes n n.role number command)).node.log ≡ n.log ++ proposal n number command ∷ []) n.halted
    (λ _ e. absurd (cc)) (λ _ _. proposes_it n n.role number command lead room) refl
