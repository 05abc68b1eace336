-- A candidate's or leader's term is above 0.
use Rattle.std.proofs.Common.{ℕ, Bool, None, Some, [], ◌∷◌, List, arith, cond, false, inl, inr, length, max, min, refl, subst, sym, suc, zero, true, ◌++◌, ◌+◌, ◌-◌, ◌<◌, ◌≡◌, ◌⊎◌}
use Rattle.raft_model.specs.Rules.{accepts, Beat, Input, Probe, Propose, Receive, Timeout, after_yes, agreed_to, append_all, appended, ask_all, beats, candidate, counted, declined, does, done, follows, has_room, is_refused, is_up_to_date, leading, leads, matches, may_vote, noop, noted, of_lower_term, of_own_term, offered, probes, proposal, proposes, received, risen, stands, term_of, timed_out, voted, with_commit, with_voter, asked}
use Rattle.cat_model.specs.declared.command.Command.{Command}
use Rattle.cat_model.specs.declared.command.Entry.{Entry}
use Rattle.cat_model.specs.declared.reply.Role.{Role}
use Rattle.cat_model.specs.declared.reply.Role.TheVariants.{Candidate, Follower, Leader}
use Rattle.raft_model.proofs.Rising.{after_yes_is}
use Rattle.raft_model.proofs.Tests.{at_bool}
use Rattle.raft_model.specs.Limits.{is_full}
use Rattle.raft_model.specs.Log.{Log, accepted}
use Rattle.raft_model.specs.Node.{Node, Store, last, quiet, reply}
use Rattle.raft_model.specs.Quorum.{is_majority, members}
use Rattle.raft_model.specs.Step.{Outcome, Works, VoteFails, LogFails, Forgets, NodeStep, RestartWorks, RestartFails, arms}
use Rattle.raft_model.specs.World.{World, Move, WorldStep, Acts, TimesOut, Beats, Proposes, Probes, Delivers, Drops, Restarts, Ticks, Arms, IsReached, empty, again, step, StartAll}
use Rattle.raft_model.specs.declared.message.Message.{Message}
use Rattle.raft_model.specs.declared.message.Message.TheVariants.{Append, AskVote, No, Vote, Yes}
use Rattle.raft_model.specs.declared.message.Sent.{Sent}
use Rattle.std.specs.Prelude.{nat_le, nat_lt, ◌&&◌, ◌==◌, ◌^◌}
use Rattle.cluster_rules.specs.Cluster.{no_node, node_of}
use Rattle.cluster_rules.proofs.Tools.{at_item, is_node}

abbrev pub HasTerm : Node → Type 0
HasTerm n = (n.role ≡ Follower) ⊎ (0 < n.term)

appended_has : (n : Node) (e : Entry) → HasTerm n → HasTerm (appended n e)
appended_has n e b = at_bool (λ c. HasTerm (cond c (record n { log = n.log ++ e ∷ []; commit = length (n.log ++ e ∷ []) }) (record n { log = n.log ++ e ∷ [] }))) (n.servers == 1) (λ _. b) (λ _. b)

leads_has : (n : Node) → 0 < n.term → HasTerm (leads n).node
unfolding leads
leads_has n l = at_bool (λ b. HasTerm (cond b (leading n) (appended (leading n) (noop n.term)))) (is_full n.log) (λ _. inr l) (λ _. appended_has (leading n) (noop n.term) (inr l))

candidate_has : (n : Node) → 0 < n.term → HasTerm (candidate n).node
unfolding candidate
candidate_has n l = at_bool (λ b. HasTerm (cond b (leads n) (ask_all n)).node) (n.servers == 1) (λ _. leads_has n l) (λ _. inr l)

timed_out_has : (n : Node) (role : Role) → HasTerm n → HasTerm (timed_out n role).node
unfolding timed_out
timed_out_has n Leader b = b
timed_out_has n Follower b = at_bool (λ c. HasTerm (cond c (candidate (stands n)) (quiet n)).node) (nat_lt n.term (2 ^ 64 - 1)) (λ _. candidate_has (stands n) (omega arith)) (λ _. b)
timed_out_has n Candidate b = at_bool (λ c. HasTerm (cond c (candidate (stands n)) (quiet n)).node) (nat_lt n.term (2 ^ 64 - 1)) (λ _. candidate_has (stands n) (omega arith)) (λ _. b)

counted_has : (n : Node) → n.role ≡ Candidate → HasTerm n → HasTerm (counted n).node
unfolding counted
counted_has n r b = at_bool (λ c. HasTerm (cond c (leads n) (quiet n)).node) (is_majority n.servers (members n.votes)) (λ _. leads_has n (above b)) (λ _. b)
  where
    above : HasTerm n → 0 < n.term
    above (inl e) = absurd (cc (r, e))
    above (inr l) = l

voted_has : (n : Node) (from : ℕ) (g : Bool) (r : Role) → n.role ≡ r → HasTerm n → HasTerm (voted n from g r).node
unfolding voted
voted_has n from true Candidate e b = counted_has (record n { votes = with_voter n.votes from }) e b
voted_has n from true Follower e b = b
voted_has n from true Leader e b = b
voted_has n from false Candidate e b = b
voted_has n from false Follower e b = b
voted_has n from false Leader e b = b

accepts_has : (n : Node) (from prev : ℕ) (es : Log) (commit round : ℕ) → HasTerm (accepts n from prev es commit round).node
unfolding accepts
accepts_has n from prev es commit round = at_bool (λ b. HasTerm (cond b (quiet (follows n from))
    (reply (record (follows n from) { log = accepted n.log prev es; commit = max n.commit (min commit (prev + length es)) }) from (Yes n.term (prev + length es) round))).node)
    (is_refused n (accepted n.log prev es)) (λ _. inl refl) (λ _. inl refl)

offered_has : (n : Node) (r : Role) (from prev pt : ℕ) (es : Log) (commit round : ℕ) → HasTerm n → HasTerm (offered n r from prev pt es commit round).node
unfolding offered
offered_has n Leader from prev pt es commit round b = b
offered_has n Follower from prev pt es commit round b = at_bool (λ c. HasTerm (cond c (accepts n from prev es commit round) (reply (follows n from) from (No n.term (last n)))).node) (matches n prev pt) (λ _. accepts_has n from prev es commit round) (λ _. inl refl)
offered_has n Candidate from prev pt es commit round b = at_bool (λ c. HasTerm (cond c (accepts n from prev es commit round) (reply (follows n from) from (No n.term (last n)))).node) (matches n prev pt) (λ _. accepts_has n from prev es commit round) (λ _. inl refl)

agreed_has : (n : Node) (r : Role) (from matched round : ℕ) → HasTerm n → HasTerm (agreed_to n r from matched round).node
unfolding agreed_to
agreed_has n Follower from matched round b = b
agreed_has n Candidate from matched round b = b
agreed_has n Leader from matched round b =
    let m : Node = with_commit (noted n from matched round) in
    at_bool (λ c. HasTerm (cond c (after_yes n m from) (quiet n)).node) (nat_le matched (last n)) (λ _. subst (λ (z : Node). HasTerm z) (sym (after_yes_is n m from)) b) (λ _. b)

declined_has : (n : Node) (r : Role) (from k : ℕ) → HasTerm n → HasTerm (declined n r from k).node
unfolding declined
declined_has n Leader from k b = b
declined_has n Follower from k b = b
declined_has n Candidate from k b = b

own_has : (n : Node) (from : ℕ) (m : Message) → HasTerm n → HasTerm (of_own_term n from m).node
unfolding of_own_term asked
own_has n from (AskVote t li lt) b = at_bool (λ c. HasTerm (cond c (reply (record n { vote = Some from }) from (Vote n.term true)) (reply n from (Vote n.term false))).node) (may_vote n.vote from && is_up_to_date lt li n.log) (λ _. b) (λ _. b)
own_has n from (Vote t g) b = voted_has n from g n.role refl b
own_has n from (Append t prev pt es commit round) b = offered_has n n.role from prev pt es commit round b
own_has n from (Yes t matched round) b = agreed_has n n.role from matched round b
own_has n from (No t k) b = declined_has n n.role from k b

lower_has : (n : Node) (from : ℕ) (m : Message) → HasTerm n → HasTerm (of_lower_term n from m).node
unfolding of_lower_term
lower_has n from (AskVote t li lt) b = b
lower_has n from (Vote t g) b = b
lower_has n from (Append t prev pt es commit round) b = b
lower_has n from (Yes t matched round) b = b
lower_has n from (No t k) b = b

risen_has : (n : Node) (t : ℕ) → HasTerm n → HasTerm (risen n t)
risen_has n t b = at_bool (λ c. HasTerm (cond c (record n { term = t; vote = None; role = Follower; leader = None }) n)) (nat_lt n.term t) (λ _. inl refl) (λ _. b)

received_has : (n : Node) (from : ℕ) (m : Message) → HasTerm n → HasTerm (received n from m).node
unfolding received
received_has n from m b = at_bool (λ c. HasTerm (cond c (of_lower_term n from m) (of_own_term (risen n (term_of m)) from m)).node) (nat_lt (term_of m) n.term)
    (λ _. lower_has n from m b) (λ _. own_has (risen n (term_of m)) from m (risen_has n (term_of m) b))

beats_has : (n : Node) (r : Role) → HasTerm n → HasTerm (beats n r).node
unfolding beats
beats_has n Leader b = b
beats_has n Follower b = b
beats_has n Candidate b = b

proposes_has : (n : Node) (r : Role) (number : ℕ) (command : Command) → HasTerm n → HasTerm (proposes n r number command).node
unfolding proposes
proposes_has n Follower number command b = b
proposes_has n Candidate number command b = b
proposes_has n Leader number command b = at_bool (λ c. HasTerm (cond c (append_all (appended n (proposal n number command))) (quiet n)).node) (has_room n number command) (λ _. appended_has n (proposal n number command) b) (λ _. b)

probes_has : (n : Node) (r : Role) → HasTerm n → HasTerm (probes n r).node
unfolding probes
probes_has n Leader b = b
probes_has n Follower b = b
probes_has n Candidate b = b

does_has : (n : Node) (input : Input) → HasTerm n → HasTerm (does n input).node
unfolding does
does_has n Timeout b = timed_out_has n n.role b
does_has n Beat b = beats_has n n.role b
does_has n (Receive from m) b = received_has n from m b
does_has n (Propose number command) b = proposes_has n n.role number command b
does_has n Probe b = probes_has n n.role b

done_has : (n : Node) (input : Input) → HasTerm n → HasTerm (done n input).node
unfolding done
done_has n input b = at_bool (λ c. HasTerm (cond c (quiet n) (does n input)).node) n.halted (λ _. b) (λ _. does_has n input b)

step_has : (o : Outcome) (old : Node) (input : Input) (new : Node) (sent : List Sent) → NodeStep o old input new sent → HasTerm old → HasTerm new
step_has Works old input new sent (between, v, l, e, s) b = subst (λ (z : Node). HasTerm z) (sym e) (done_has old input b)
step_has VoteFails old input new sent (v, l, e, s) b = subst (λ (z : Node). HasTerm z) (sym e) (inl refl)
step_has LogFails old input new sent (between, v, l, k, e, s) b = subst (λ (z : Node). HasTerm z) (sym e) (inl refl)
step_has Forgets old input new sent (v, l, k, e, s) b = subst (λ (z : Node). HasTerm z) (sym e) (inl refl)

abbrev pub AllHaveTerms : World → Type 0
AllHaveTerms w = (i : ℕ) → HasTerm (node_of w i)

acts_has : (w : World) (i : ℕ) (input : Input) (w' : World) → Acts w i input w' → AllHaveTerms w → AllHaveTerms w'
acts_has w i input w' a h j = subst (λ (z : World). HasTerm (node_of z j)) (sym a.becomes)
    (at_item (λ (n : Node). HasTerm n) no_node w.nodes i a.new j (λ _. step_has a.outcome a.old input a.new a.sent a.step (subst (λ (n : Node). HasTerm n) (is_node w i a.old a.server) (h i))) (h j))

restart_has : (old new : Node) → RestartWorks old new ⊎ RestartFails old new → HasTerm new
restart_has old new (inl (kept, c, r, e)) = subst (λ (z : Node). HasTerm z) (sym e) (inl refl)
restart_has old new (inr (c, e)) = subst (λ (z : Node). HasTerm z) (sym e) (inl refl)

world_has : (w : World) (move : Move) (w' : World) → WorldStep w move w' → AllHaveTerms w → AllHaveTerms w'
world_has w (TimesOut i) w' a h = acts_has w i Timeout w' a h
world_has w (Beats i) w' a h = acts_has w i Beat w' a h
world_has w (Proposes i number command) w' a h = acts_has w i (Propose number command) w' a h
world_has w (Probes i) w' a h = acts_has w i Probe w' a h
world_has w (Delivers k) w' (p, e, a) h = acts_has w p.to (Receive p.from p.message) w' a h
world_has w (Drops k) w' (p, e, q) h = λ j. subst (λ (z : World). HasTerm (node_of z j)) (sym q) (h j)
world_has w (Restarts i) w' (old, new, at, r, q) h = λ j. subst (λ (z : World). HasTerm (node_of z j)) (sym q) (at_item (λ (n : Node). HasTerm n) no_node w.nodes i new j (λ _. restart_has old new r) (h j))
world_has w (Ticks i d) w' (old, at, q) h = λ j. subst (λ (z : World). HasTerm (node_of z j)) (sym q) (h j)
world_has w (Arms i nth) w' (old, at, q) h = λ j. subst (λ (z : World). HasTerm (node_of z j)) (sym q) (at_item (λ (n : Node). HasTerm n) no_node w.nodes i (arms old nth) j (λ _. subst (λ (n : Node). HasTerm n) (is_node w i old at) (h i)) (h j))

starts_have : (servers id : ℕ) (ss : List Store) (ns : List Node) → StartAll servers id ss ns → (w : World) → w.nodes ≡ ns → AllHaveTerms w
starts_have servers id ss ns a w e zero = inl refl
starts_have servers id ss ns a w e (suc j) = subst (λ (z : List Node). HasTerm (get z j)) (sym e) (go servers id ss ns a j)
  where
    get : List Node → ℕ → Node
    get z j = node_of (record w { nodes = z }) (suc j)

    go : (servers id : ℕ) (ss : List Store) (ns : List Node) → StartAll servers id ss ns → (j : ℕ) → HasTerm (get ns j)
    go servers id [] [] a j = inl refl
    go servers id [] (n ∷ ns) a j = absurd a
    go servers id (s ∷ ss) [] a j = absurd a
    go servers id (s ∷ ss) (n ∷ ns) ((kept, c, r, e), rest) zero = subst (λ (z : Node). HasTerm z) (sym e) (inl refl)
    go servers id (s ∷ ss) (n ∷ ns) (x, rest) (suc j) = go servers (suc id) ss ns rest j

pub reached_has : (w : World) → IsReached w → AllHaveTerms w
reached_has w (empty stores e b) = starts_have (length stores) 1 stores w.nodes b.nodes w refl
reached_has w (again stores r h b) = starts_have (length stores) 1 stores w.nodes b.nodes w refl
reached_has w (step {w = v} move r s) = world_has v move w s (reached_has v r)
