-- What the cluster uses of the world: that no step lowers a commit, a proposal's place, a probe's round, and what a
-- node that leads or is halted has.
use Rattle.std.proofs.Common.{◌≡◌, ℕ, zero, suc, ◌-◌, ◌^◌, ◌<◌, ◌≤◌, inl, inr, true, false, not, cond, List, [], ◌∷◌, ◌++◌, length, refl, sym, ◌∙◌, ap, subst, arith, Option, Some, None}
use Rattle.std.specs.Prelude.{nat_lt, ◌==◌, ◌&&◌}
use Rattle.std.proofs.lemmas.List.{length-take}
use Rattle.cat_model.specs.Role.{leads as is_leading}
use Rattle.cat_model.specs.declared.command.Entry.{Entry}
use Rattle.cat_model.specs.declared.command.Command.{Command}
use Rattle.cat_model.specs.declared.reply.Role.{Role}
use Rattle.cat_model.specs.declared.reply.Role.TheVariants.{Follower, Candidate, Leader}
use Rattle.cat_model.specs.declared.request.Event.{Event}
use Rattle.cat_model.specs.declared.request.Event.TheVariants as event
use Rattle.raft_model.specs.declared.message.Message.{Message}
use Rattle.raft_model.specs.declared.message.Message.TheVariants.{AskVote, Vote, Append, Yes, No}
use Rattle.raft_model.specs.declared.message.Sent.{Sent}
use Rattle.raft_model.specs.Facts.{IsPlaced, next_round}
use Rattle.raft_model.specs.Log.{Log, entry_at, term_at}
use Rattle.raft_model.specs.Node.{Node, last, quiet, set_server}
use Rattle.raft_model.specs.Rules.{Input, Timeout, Beat, Receive, Propose, Probe, append_all, appended, beats, candidate, does, done, has_room, of_lower_term, of_own_term, probes, proposal, proposes, received, risen, stands, term_of, timed_out}
use Rattle.raft_model.specs.Step.{Outcome, Works, VoteFails, LogFails, Forgets, NodeStep}
use Rattle.raft_model.specs.World.{World, Packet, Move, WorldStep, TimesOut, Beats, Proposes, Probes, Delivers, Acts, IsReached, IsServer, numbered, raised, step}
use Rattle.raft_model.proofs.Committing.{appended_up}
use Rattle.raft_model.proofs.Rising.{candidate_up, own_up}
use Rattle.raft_model.proofs.Servers.{running_done}
use Rattle.raft_model.proofs.Starts.{reached_sound}
use Rattle.raft_model.proofs.Tests.{at_bool, eq_tells, no_bool}
use Rattle.raft_model.proofs.Theorems.{agrees, placed, shows}
use Rattle.raft_model.proofs.Worlds.{fits_at}
use Rattle.cluster_rules.specs.Cluster.{no_node, node_of, runs_leading}
use Rattle.cluster_rules.specs.Step.{received as receives, input_of}
use Rattle.cluster_rules.specs.Sound.{IsFreshRound}
use Rattle.cluster_rules.proofs.Entries.{entry_last}
use Rattle.cluster_rules.proofs.Grows.{reaches_from}
use Rattle.cluster_rules.proofs.Tools.{both, not_tells_not, at_item, item_same, length_set_server, is_node, is_place, there_or_none, set_same}

-- No rule lowers the commit.
lower_up : (n : Node) (from : ℕ) (m : Message) → n.commit ≤ (of_lower_term n from m).node.commit
unfolding of_lower_term
lower_up n from (AskVote t li lt) = omega arith
lower_up n from (Vote t g) = omega arith
lower_up n from (Append t prev pt es commit round) = omega arith
lower_up n from (Yes t matched round) = omega arith
lower_up n from (No t k) = omega arith

risen_same : (n : Node) (t : ℕ) → ((risen n t).commit ≡ n.commit) × ((risen n t).log ≡ n.log)
risen_same n t = at_bool (λ b. ((cond b (record n { term = t; vote = None; role = Follower; leader = None }) n).commit ≡ n.commit) × ((cond b (record n { term = t; vote = None; role = Follower; leader = None }) n).log ≡ n.log)) (nat_lt n.term t) (λ _. (refl, refl)) (λ _. (refl, refl))

received_up : (n : Node) (from : ℕ) (m : Message) → n.commit ≤ last n → n.commit ≤ (received n from m).node.commit
unfolding received
received_up n from m l = at_bool (λ b. n.commit ≤ (cond b (of_lower_term n from m) (of_own_term (risen n (term_of m)) from m)).node.commit) (nat_lt (term_of m) n.term)
    (λ _. lower_up n from m)
    (λ _. let e = risen_same n (term_of m) in let g = ap (λ (x : Log). length x) e.1 in let c = e.0 in let k = own_up (risen n (term_of m)) from m (omega arith) in omega arith)

timed_up : (n : Node) (r : Role) → n.commit ≤ last n → n.commit ≤ (timed_out n r).node.commit
unfolding timed_out
timed_up n Leader l = omega arith
timed_up n Follower l = at_bool (λ b. n.commit ≤ (cond b (candidate (stands n)) (quiet n)).node.commit) (nat_lt n.term (2 ^ 64 - 1)) (λ _. candidate_up (stands n) l) (λ _. omega arith)
timed_up n Candidate l = at_bool (λ b. n.commit ≤ (cond b (candidate (stands n)) (quiet n)).node.commit) (nat_lt n.term (2 ^ 64 - 1)) (λ _. candidate_up (stands n) l) (λ _. omega arith)

beats_up : (n : Node) (r : Role) → n.commit ≤ (beats n r).node.commit
unfolding beats
beats_up n Leader = omega arith
beats_up n Follower = omega arith
beats_up n Candidate = omega arith

proposes_up : (n : Node) (r : Role) (number : ℕ) (command : Command) → n.commit ≤ last n → n.commit ≤ (proposes n r number command).node.commit
unfolding proposes
proposes_up n Follower number command l = omega arith
proposes_up n Candidate number command l = omega arith
proposes_up n Leader number command l = at_bool (λ b. n.commit ≤ (cond b (append_all (appended n (proposal n number command))) (quiet n)).node.commit) (has_room n number command) (λ _. appended_up n (proposal n number command) l) (λ _. omega arith)

probes_up : (n : Node) (r : Role) → n.commit ≤ (probes n r).node.commit
unfolding probes
probes_up n Leader = omega arith
probes_up n Follower = omega arith
probes_up n Candidate = omega arith

does_up : (n : Node) (input : Input) → n.commit ≤ last n → n.commit ≤ (does n input).node.commit
unfolding does
does_up n Timeout l = timed_up n n.role l
does_up n Beat l = beats_up n n.role
does_up n (Receive from m) l = received_up n from m l
does_up n (Propose number command) l = proposes_up n n.role number command l
does_up n Probe l = probes_up n n.role

done_up : (n : Node) (input : Input) → n.commit ≤ last n → n.commit ≤ (done n input).node.commit
unfolding done
done_up n input l = at_bool (λ b. n.commit ≤ (cond b (quiet n) (does n input)).node.commit) n.halted (λ _. omega arith) (λ _. does_up n input l)

step_up : (o : Outcome) (old : Node) (input : Input) (new : Node) (sent : List Sent) → old.commit ≤ last old → NodeStep o old input new sent → old.commit ≤ new.commit
step_up Works old input new sent l (between, v, g, e, s) = let k = done_up old input l in let q = ap (λ (n : Node). n.commit) e in omega arith
step_up VoteFails old input new sent l (v, f, e, s) = let q = ap (λ (n : Node). n.commit) e in omega arith
step_up LogFails old input new sent l (between, v, g, f, e, s) = let q = ap (λ (n : Node). n.commit) e in omega arith
step_up Forgets old input new sent l (v, w, g, e, s) = let q = ap (λ (n : Node). n.commit) e in omega arith

-- a server's commit is within its log
pub commit_within : (w : World) → IsReached w → (i : ℕ) (n : Node) → IsServer w i n → n.commit ≤ length n.log
commit_within w r i n at = let a = agrees w r i n at in let k = ap length a.1 in
    omega (arith, k, a.0, length-take n.commit n.log, length-take n.commit w.agreed)

-- no server's commit fell, and there are as many
pub record Rises (w w' : World) : Type 0 where
  pub count : length w'.nodes ≡ length w.nodes
  pub each : (j : ℕ) → (node_of w j).commit ≤ (node_of w' j).commit

pub acts_rise : (w : World) (i : ℕ) (input : Input) (w' : World) → IsReached w → Acts w i input w' → Rises w w'
acts_rise w i input w' r a = subst (λ (z : World). Rises w z) (sym a.becomes) (record {
  count = length_set_server w.nodes i a.new;
  each = λ j. at_item (λ (n : Node). (node_of w j).commit ≤ n.commit) no_node w.nodes i a.new j
      (λ e. let k = step_up a.outcome a.old input a.new a.sent (commit_within w r i a.old a.server) a.step in
      let q = ap (λ (n : Node). n.commit) (ap (node_of w) e ∙ is_node w i a.old a.server) in omega arith)
      (omega arith);
})

-- the move of an act
pub acts_proposes : (w : World) (i number : ℕ) (command : Command) (w' : World) → Acts w i (Propose number command) w' → WorldStep w (Proposes i number command) w'
acts_proposes w i number command w' a = a

pub acts_greatest : (w : World) (i : ℕ) (input : Input) (w' : World) → Acts w i input w' → w'.greatest ≡ raised input w.greatest
acts_greatest w i input w' a = ap (λ (z : World). z.greatest) a.becomes

-- the server of a step, afterwards
pub acts_server : (w : World) (i : ℕ) (input : Input) (w' : World) (a : Acts w i input w') → node_of w' i ≡ a.new
acts_server w i input w' a = let p = is_place w i a.old a.server in ap (λ (z : World). node_of z i) a.becomes ∙ item_same no_node w.nodes i a.new p.0 p.1

pub after_server : (w : World) (i : ℕ) (input : Input) (w' : World) (a : Acts w i input w') → IsServer w' i a.new
after_server w i input w' a = subst (λ (z : World). IsServer z i a.new) (sym a.becomes) (go i (is_place w i a.old a.server))
  where
    go : (i : ℕ) → (0 < i) × (i ≤ length w.nodes) → IsServer (record w { nodes = set_server w.nodes i a.new }) i a.new
    go zero p = absurd (omega (arith, p.0))
    go (suc j) p = (let k = length_set_server w.nodes (suc j) a.new in omega (arith, k, p.1), set_same w.nodes j a.new a.new (omega (arith, p.1)))

-- An event's own input is a move of the world, and has no number.
pub record InputIs (w : World) (input : Input) (w' : World) : Type 0 where
  pub move : Move
  pub step : WorldStep w move w'
  pub plain : (g : ℕ) → raised input g ≡ g

some_input : (a b : Input) → Some a ≡ Some b → a ≡ b
some_input a b p = cc p

no_input : (a : Input) → None ≡ Some a → ⊥
no_input a p = cc p

pub input_is : (w : World) (i : ℕ) (made : Event) (input : Input) (w' : World) → input_of w i made ≡ Some input → Acts w i input w' → InputIs w input w'
input_is w i (event.Timeout s) input w' e a = at_bool (λ b. cond b (Some Timeout) None ≡ Some input → InputIs w input w') (s == i)
    (λ _ p. subst (λ z. Acts w i z w' → InputIs w z w') (some_input Timeout input p) (λ a. record { move = TimesOut i; step = a; plain = λ g. refl }) a) (λ _ p. absurd (no_input input p)) e
input_is w i (event.Beat s) input w' e a = at_bool (λ b. cond b (Some Beat) None ≡ Some input → InputIs w input w') (s == i)
    (λ _ p. subst (λ z. Acts w i z w' → InputIs w z w') (some_input Beat input p) (λ a. record { move = Beats i; step = a; plain = λ g. refl }) a) (λ _ p. absurd (no_input input p)) e
input_is w i (event.Deliver k) input w' e a = by (numbered k w.bag.packets) refl e
  where
    by : (o : Option Packet) → numbered k w.bag.packets ≡ o → receives i o ≡ Some input → InputIs w input w'
    by None n p = absurd (no_input input p)
    by (Some m) n p = at_bool (λ b. (m.to == i) ≡ b → cond b (Some (Receive m.from m.message)) None ≡ Some input → InputIs w input w') (m.to == i)
        (λ _ t q. subst (λ z. Acts w i z w' → InputIs w z w') (some_input (Receive m.from m.message) input q)
        (λ a. record { move = Delivers k; step = (m, n, subst (λ z. Acts w z (Receive m.from m.message) w') (sym (eq_tells m.to i t)) a); plain = λ g. refl }) a)
        (λ _ _ q. absurd (no_input input q)) refl p
input_is w i (event.Tick s ms) input w' e a = absurd (no_input input e)
input_is w i (event.Drop k) input w' e a = absurd (no_input input e)
input_is w i (event.Restart s) input w' e a = absurd (no_input input e)
input_is w i (event.FailKeep s n) input w' e a = absurd (no_input input e)
input_is w i (event.Ask agent asked draw) input w' e a = absurd (no_input input e)
input_is w i (event.Sync agent) input w' e a = absurd (no_input input e)
input_is w i (event.AgentTick agent ms) input w' e a = absurd (no_input input e)

-- Roles. A node that is halted or none does not lead.
leads_tells : (r : Role) → is_leading r ≡ true → r ≡ Leader
leads_tells Leader e = refl
leads_tells Follower e = absurd (cc e)
leads_tells Candidate e = absurd (cc e)

pub leading_tells : (w : World) (i : ℕ) → runs_leading w i ≡ true → ((node_of w i).halted ≡ false) × ((node_of w i).role ≡ Leader)
leading_tells w i e = let b = both (not (node_of w i).halted) (is_leading (node_of w i).role) e in (not_tells_not (node_of w i).halted b.0, leads_tells (node_of w i).role b.1)

-- the server is there where its node leads
pub leader_there : (w : World) (i : ℕ) → runs_leading w i ≡ true → IsServer w i (node_of w i)
leader_there w i e = elim (there_or_none w i) [
  | inl n ↦ absurd (let k = ap (λ (z : Node). is_leading z.role) n in let l = (both (not (node_of w i).halted) (is_leading (node_of w i).role) e).1 in cc (k, l))
  | inr at ↦ at
]

pub halted_follows : (w : World) → IsReached w → (i : ℕ) → (node_of w i).halted ≡ true → (node_of w i).role ≡ Follower
halted_follows w r i h = elim (there_or_none w i) [
  | inl n ↦ ap (λ (z : Node). z.role) n
  | inr at ↦ elim (fits_at w (reached_sound w r) i (node_of w i) at) [
    | inl x ↦ absurd (no_bool (node_of w i).halted h x.1.running)
    | inr x ↦ x.1.rests
  ]
]

pub not_leading : (w : World) → IsReached w → (i : ℕ) → runs_leading w i ≡ false → is_leading (node_of w i).role ≡ false
not_leading w r i e = at_bool (λ b. (node_of w i).halted ≡ b → (not b && is_leading (node_of w i).role) ≡ false → is_leading (node_of w i).role ≡ false) (node_of w i).halted
    (λ _ h _. ap is_leading (halted_follows w r i h)) (λ _ h p. p) refl e

-- The log of a running server has no term above its own.
pub term_bound : (w : World) → IsReached w → (i : ℕ) (n : Node) → IsServer w i n → n.halted ≡ false → (m : ℕ) → 0 < m → m ≤ length n.log → term_at m n.log ≤ n.term
term_bound w r i n at up m p l = elim (fits_at w (reached_sound w r) i n at) [
  | inl x ↦ let k = (reached_sound w r).sound.logs.bound i m p (let z = ap (λ (y : Log). length y) x.1.log in omega arith) in let q = ap (term_at m) x.1.log in let t = x.1.term in omega arith
  | inr x ↦ absurd (no_bool n.halted x.0 up)
]

-- A proposal. A leader with room for it appends it.
leader_proposes : (n : Node) (number : ℕ) (command : Command) → n.halted ≡ false → n.role ≡ Leader → has_room n number command ≡ true → (done n (Propose number command)).node ≡ appended n (proposal n number command)
unfolding does proposes
leader_proposes n number command up lead room =
    ap (λ z. z.node) (running_done n (Propose number command) up)
    ∙ ap (λ (r : Role). (proposes n r number command).node) lead
    ∙ ap (λ b. (cond b (append_all (appended n (proposal n number command))) (quiet n)).node) room

appended_is : (n : Node) (e : Entry) → ((appended n e).log ≡ n.log ++ e ∷ []) × ((appended n e).term ≡ n.term) × ((appended n e).vote ≡ n.vote)
appended_is n e = at_bool (λ b. ((cond b (record n { log = n.log ++ e ∷ []; commit = length (n.log ++ e ∷ []) }) (record n { log = n.log ++ e ∷ [] })).log ≡ n.log ++ e ∷ []) × ((cond b (record n { log = n.log ++ e ∷ []; commit = length (n.log ++ e ∷ []) }) (record n { log = n.log ++ e ∷ [] })).term ≡ n.term) × ((cond b (record n { log = n.log ++ e ∷ []; commit = length (n.log ++ e ∷ []) }) (record n { log = n.log ++ e ∷ [] })).vote ≡ n.vote)) (n.servers == 1)
    (λ _. (refl, refl, refl)) (λ _. (refl, refl, refl))

appended_role : (n : Node) (e : Entry) → (appended n e).role ≡ n.role
appended_role n e = at_bool (λ b. (cond b (record n { log = n.log ++ e ∷ []; commit = length (n.log ++ e ∷ []) }) (record n { log = n.log ++ e ∷ [] })).role ≡ n.role) (n.servers == 1) (λ _. refl) (λ _. refl)

-- a leader that entered a proposal, and runs, leads on
pub leads_on : (w : World) (i number : ℕ) (command : Command) (w' : World) → Acts w i (Propose number command) w' → runs_leading w i ≡ true → has_room (node_of w i) number command ≡ true → (node_of w' i).halted ≡ false → runs_leading w' i ≡ true
leads_on w i number command w' a lead room up = ap (λ b. not b && is_leading (node_of w' i).role) up ∙ ap is_leading (ap (λ (n : Node). n.role) (acts_server w i (Propose number command) w' a) ∙ by a.outcome a.step ∙ l.1)
  where
    same : node_of w i ≡ a.old
    same = is_node w i a.old a.server

    l : (a.old.halted ≡ false) × (a.old.role ≡ Leader)
    l = subst (λ (n : Node). (n.halted ≡ false) × (n.role ≡ Leader)) same (leading_tells w i lead)

    e : Entry
    e = proposal a.old number command

    is : (done a.old (Propose number command)).node ≡ appended a.old e
    is = leader_proposes a.old number command l.0 l.1 (subst (λ (n : Node). has_room n number command ≡ true) same room)

    runs : a.new.halted ≡ false
    runs = ap (λ (n : Node). n.halted) (sym (acts_server w i (Propose number command) w' a)) ∙ up

    by : (o : Outcome) → NodeStep o a.old (Propose number command) a.new a.sent → a.new.role ≡ a.old.role
    by Works (between, v, g, n, s) = ap (λ (z : Node). z.role) n ∙ ap (λ (z : Node). z.role) is ∙ appended_role a.old e
    by VoteFails (v, f, n, s) = absurd (let k = ap (λ (z : Node). z.halted) n in cc (k, runs))
    by LogFails (between, v, g, f, n, s) = absurd (let k = ap (λ (z : Node). z.halted) n in cc (k, runs))
    by Forgets (v, f, g, n, s) = absurd (v (ap (λ (z : Node). z.term) is ∙ (appended_is a.old e).1, ap (λ (z : Node). z.vote) is ∙ (appended_is a.old e).2))

-- the entry of a proposal has its place, unless its server halted
pub proposed : (w : World) → IsReached w → (i number : ℕ) (command : Command) (w' : World) → Acts w i (Propose number command) w' → runs_leading w i ≡ true → has_room (node_of w i) number command ≡ true → (node_of w' i).halted ≡ false →
    IsPlaced w' (suc (length (node_of w i).log)) (proposal (node_of w i) number command)
proposed w r i number command w' a lead room up = subst (λ (n : Node). IsPlaced w' (suc (length n.log)) (proposal n number command)) (sym same) (by a.outcome a.step)
  where
    same : node_of w i ≡ a.old
    same = is_node w i a.old a.server

    e : Entry
    e = proposal a.old number command

    l : (a.old.halted ≡ false) × (a.old.role ≡ Leader)
    l = subst (λ (n : Node). (n.halted ≡ false) × (n.role ≡ Leader)) same (leading_tells w i lead)

    is : (done a.old (Propose number command)).node ≡ appended a.old (proposal a.old number command)
    is = leader_proposes a.old number command l.0 l.1 (subst (λ (n : Node). has_room n number command ≡ true) same room)

    runs : a.new.halted ≡ false
    runs = ap (λ (n : Node). n.halted) (sym (acts_server w i (Propose number command) w' a)) ∙ up

    there : IsServer w' i a.new
    there = after_server w i (Propose number command) w' a

    from : a.new.log ≡ a.old.log ++ proposal a.old number command ∷ [] → IsPlaced w' (suc (length a.old.log)) (proposal a.old number command)
    from g = placed w' (step (Proposes i number command) r a) i a.new there runs (suc (length a.old.log)) (proposal a.old number command) (ap (entry_at (suc (length a.old.log))) g ∙ entry_last a.old.log (proposal a.old number command))

    by : (o : Outcome) → NodeStep o a.old (Propose number command) a.new a.sent → IsPlaced w' (suc (length a.old.log)) (proposal a.old number command)
    by Works (between, v, g, n, s) = from (ap (λ (z : Node). z.log) n ∙ ap (λ (z : Node). z.log) is ∙ (appended_is a.old (proposal a.old number command)).0)
    by VoteFails (v, f, n, s) = absurd (let k = ap (λ (z : Node). z.halted) n in cc (k, runs))
    by LogFails (between, v, g, f, n, s) = absurd (let k = ap (λ (z : Node). z.halted) n in cc (k, runs))
    by Forgets (v, f, g, n, s) = absurd (v (ap (λ (z : Node). z.term) is ∙ (appended_is a.old (proposal a.old number command)).1, ap (λ (z : Node). z.vote) is ∙ (appended_is a.old (proposal a.old number command)).2))

-- A probe's round: once confirmed, all that was agreed at the probe was committed at its leader then.
pub probed : (w : World) → IsReached w → (i : ℕ) (w' : World) → Acts w i Probe w' → runs_leading w i ≡ true → 0 < (node_of w i).commit → term_at (node_of w i).commit (node_of w i).log ≡ (node_of w i).term → IsFreshRound w' (length w.agreed) (next_round (node_of w i))
probed w r i w' a lead p own v reach j d at confirmed =
    (shows w r i (node_of w i) (leader_there w i lead) (leading_tells w i lead, p, own) v (reaches_from w w' v (Probes i) a reach) j d at confirmed).0
