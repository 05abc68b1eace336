-- A follower's log changes by an Append alone.
use Rattle.std.specs.Prelude.{nat_le, nat_lt, ◌&&◌, ◌==◌}
use Rattle.cat_model.specs.declared.command.Command.{Command}
use Rattle.cat_model.specs.declared.reply.Role.{Role}
use Rattle.cat_model.specs.declared.reply.Role.TheVariants.{Candidate, Follower, Leader}
use Rattle.raft_model.specs.declared.message.Message.{Message}
use Rattle.raft_model.specs.declared.message.Message.TheVariants.{Append, AskVote, No, Vote, Yes}
use Rattle.raft_model.specs.Log.{Log, accepted, term_at}
use Rattle.raft_model.specs.Node.{Node, last, quiet, reply}
use Rattle.raft_model.specs.Rules.{Beat, Input, Probe, Propose, Receive, Timeout, accepts, agreed_to, asked, beats, declined, does, done, follows, is_refused, is_up_to_date, matches, may_vote, of_lower_term, of_own_term, offered, probes, proposes, received, risen, term_of, voted}
use Rattle.raft_model.proofs.Tests.{and_tells, at_bool, le_tells}
use Rattle.std.proofs.Common.{◌≡◌, ℕ, ◌+◌, ◌≤◌, ◌⊎◌, inl, inr, Bool, true, false, cond, not, length, min, max, Some, None, refl}

-- it has an entry before those that are sent, and accepts them
abbrev pub Accepts : Node → Input → Node → Type 0
Accepts n (Receive from (Append term prev prev_term entries commit round)) new = (prev ≤ length n.log) × (new.log ≡ accepted n.log prev entries)
Accepts n other new = ⊥

abbrev pub TakesOn : Node → Input → Node → Type 0
TakesOn n input new = (new.log ≡ n.log) ⊎ Accepts n input new

accepts_log : (n : Node) (from prev : ℕ) (es : Log) (commit round : ℕ) → ((accepts n from prev es commit round).node.log ≡ n.log) ⊎ ((accepts n from prev es commit round).node.log ≡ accepted n.log prev es)
unfolding accepts
accepts_log n from prev es commit round = at_bool (λ b. ((cond b (quiet (follows n from))
    (reply (record (follows n from) { log = accepted n.log prev es; commit = max n.commit (min commit (prev + length es)) }) from (Yes n.term (prev + length es) round))).node.log ≡ n.log)
    ⊎ ((cond b (quiet (follows n from))
    (reply (record (follows n from) { log = accepted n.log prev es; commit = max n.commit (min commit (prev + length es)) }) from (Yes n.term (prev + length es) round))).node.log ≡ accepted n.log prev es))
    (is_refused n (accepted n.log prev es)) (λ _. inl refl) (λ _. inr refl)

offered_log : (n : Node) (r : Role) (from prev pt : ℕ) (es : Log) (commit round : ℕ) → r ≡ Follower → ((offered n r from prev pt es commit round).node.log ≡ n.log) ⊎ ((prev ≤ length n.log) × ((offered n r from prev pt es commit round).node.log ≡ accepted n.log prev es))
unfolding offered
offered_log n Leader from prev pt es commit round e = cc e
offered_log n Candidate from prev pt es commit round e = cc e
offered_log n Follower from prev pt es commit round e =
    at_bool (λ c. matches n prev pt ≡ c → ((cond c (accepts n from prev es commit round) (reply (follows n from) from (No n.term (last n)))).node.log ≡ n.log) ⊎ ((prev ≤ length n.log) × ((cond c (accepts n from prev es commit round) (reply (follows n from) from (No n.term (last n)))).node.log ≡ accepted n.log prev es))) (matches n prev pt)
    (λ _ m. let l = le_tells prev (length n.log) (and_tells (nat_le prev (length n.log)) (term_at prev n.log == pt) m).0 in elim (accepts_log n from prev es commit round) [ inl q ↦ inl q | inr q ↦ inr (l, q) ]) (λ _ _. inl refl) refl

voted_log : (n : Node) (from : ℕ) (g : Bool) (r : Role) → r ≡ Follower → (voted n from g r).node.log ≡ n.log
unfolding voted
voted_log n from true Candidate e = cc
voted_log n from true Follower e = refl
voted_log n from true Leader e = cc
voted_log n from false Candidate e = cc
voted_log n from false Follower e = refl
voted_log n from false Leader e = cc

agreed_log : (n : Node) (r : Role) (from matched round : ℕ) → r ≡ Follower → (agreed_to n r from matched round).node.log ≡ n.log
unfolding agreed_to
agreed_log n Follower from matched round e = refl
agreed_log n Candidate from matched round e = cc
agreed_log n Leader from matched round e = cc

declined_log : (n : Node) (r : Role) (from k : ℕ) → r ≡ Follower → (declined n r from k).node.log ≡ n.log
unfolding declined
declined_log n Leader from k e = cc
declined_log n Follower from k e = refl
declined_log n Candidate from k e = cc

lower_log : (n : Node) (from : ℕ) (m : Message) → (of_lower_term n from m).node.log ≡ n.log
unfolding of_lower_term
lower_log n from (AskVote t li lt) = refl
lower_log n from (Vote t g) = refl
lower_log n from (Append t prev pt es commit round) = refl
lower_log n from (Yes t matched round) = refl
lower_log n from (No t k) = refl

beats_log : (n : Node) (r : Role) → r ≡ Follower → (beats n r).node.log ≡ n.log
unfolding beats
beats_log n Leader e = cc
beats_log n Follower e = refl
beats_log n Candidate e = cc

proposes_log : (n : Node) (r : Role) (number : ℕ) (command : Command) → r ≡ Follower → (proposes n r number command).node.log ≡ n.log
unfolding proposes
proposes_log n Leader number command e = cc
proposes_log n Follower number command e = refl
proposes_log n Candidate number command e = cc

probes_log : (n : Node) (r : Role) → r ≡ Follower → (probes n r).node.log ≡ n.log
unfolding probes
probes_log n Leader e = cc
probes_log n Follower e = refl
probes_log n Candidate e = cc

own_log : (n : Node) (from : ℕ) (m : Message) → n.role ≡ Follower → TakesOn n (Receive from m) (of_own_term n from m).node
unfolding of_own_term asked
own_log n from (AskVote t li lt) f = inl (at_bool (λ c. (cond c (reply (record n { vote = Some from }) from (Vote n.term true)) (reply n from (Vote n.term false))).node.log ≡ n.log) (may_vote n.vote from && is_up_to_date lt li n.log) (λ _. refl) (λ _. refl))
own_log n from (Vote t g) f = inl (voted_log n from g n.role f)
own_log n from (Append t prev pt es commit round) f = offered_log n n.role from prev pt es commit round f
own_log n from (Yes t matched round) f = inl (agreed_log n n.role from matched round f)
own_log n from (No t k) f = inl (declined_log n n.role from k f)

risen_takes : (n : Node) (t from : ℕ) (m : Message) (new : Node) → TakesOn (record n { term = t; vote = None; role = Follower; leader = None }) (Receive from m) new → TakesOn n (Receive from m) new
risen_takes n t from (AskVote term li lt) new x = x
risen_takes n t from (Vote term g) new x = x
risen_takes n t from (Append term prev pt es commit round) new x = x
risen_takes n t from (Yes term matched round) new x = x
risen_takes n t from (No term k) new x = x

received_log : (n : Node) (from : ℕ) (m : Message) → n.role ≡ Follower → TakesOn n (Receive from m) (received n from m).node
unfolding received
received_log n from m f = at_bool (λ c. TakesOn n (Receive from m) (cond c (of_lower_term n from m) (of_own_term (risen n (term_of m)) from m)).node) (nat_lt (term_of m) n.term)
    (λ _. inl (lower_log n from m))
    (λ _. at_bool (λ b. TakesOn n (Receive from m) (of_own_term (cond b (record n { term = term_of m; vote = None; role = Follower; leader = None }) n) from m).node) (nat_lt n.term (term_of m))
    (λ _. risen_takes n (term_of m) from m _ (own_log (record n { term = term_of m; vote = None; role = Follower; leader = None }) from m refl))
    (λ _. own_log n from m f))

does_log : (n : Node) (input : Input) → n.role ≡ Follower → (input ≡ Timeout → ⊥) → TakesOn n input (does n input).node
unfolding does
does_log n Timeout f not = absurd (not refl)
does_log n Beat f not = inl (beats_log n n.role f)
does_log n (Receive from m) f not = received_log n from m f
does_log n (Propose number command) f not = inl (proposes_log n n.role number command f)
does_log n Probe f not = inl (probes_log n n.role f)

pub done_log : (n : Node) (input : Input) → n.role ≡ Follower → (input ≡ Timeout → ⊥) → TakesOn n input (done n input).node
unfolding done
done_log n input f not = at_bool (λ c. TakesOn n input (cond c (quiet n) (does n input)).node) n.halted (λ _. inl refl) (λ _. does_log n input f not)
