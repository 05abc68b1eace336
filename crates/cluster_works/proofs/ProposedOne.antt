-- What comes of one proposal for no request.
use Rattle.std.proofs.Common.{◌≡◌, ◌⊎◌, inl, inr, ℕ, ◌≤◌, Bool, true, false, List, Result, Ok, Err, refl, sym, ◌∙◌, ap, subst, arith}
use Rattle.cat_model.specs.declared.command.Command.{Command}
use Rattle.cat_model.specs.declared.memory.Memory as memory
use Rattle.raft_model.specs.declared.message.Place.{Place}
use Rattle.raft_model.specs.Log.{Log}
use Rattle.raft_model.specs.Node.{Node}
use Rattle.raft_model.specs.Rules.{Propose, has_room}
use Rattle.raft_model.specs.Step.{NodeStep, LogFails, Outcome}
use Rattle.raft_model.specs.World.{World, Acts as NodeActs}
use Rattle.raft_node.specs.declared.fault.ProposeFault.{ProposeFault}
use Rattle.raft_node.specs.declared.fault.ProposeFault.TheVariants as fault
use Rattle.raft_world.specs.Steps.{Proposes}
use Rattle.cluster_rules.specs.Cluster.{Cluster, Server, node_of, runs_leading}
use Rattle.cluster_rules.specs.Requests.{halted_now, moved}
use Rattle.cluster_rules.proofs.Boundary.{acts_greatest, acts_server, leader_there, leading_tells, leads_on}
use Rattle.cluster_rules.proofs.Tools.{is_node}
use Rattle.cluster_replicas.specs.Servers.{Servers}
use Rattle.cluster_requests.specs.Requests.{Requests, cluster_of as whole_of}
use Rattle.cluster_works.specs.declared.moves.Seen.{Seen}
use Rattle.cluster_works.specs.Moving.{MarksStep, seen_of}
use Rattle.cluster_works.specs.Proposing.{EndedOne, EndsProposal, OneProposed}
use Rattle.cluster_works.specs.Standing as standing
use Rattle.cluster_works.proofs.Carried.{acts_many}
use Rattle.cluster_works.proofs.Marking.{cluster_marked, stands_proposed}
use Rattle.cluster_rules.specs.Agents.{Agent}
use Rattle.cluster_works.specs.Watching.{Watching}

module _ (gs : List Agent) (wt : Watching) where
  -- the cluster of these parts, with these agents
  abbrev cluster_of : World → List Server → Requests → Cluster
  cluster_of w servers r = whole_of w servers gs r

  abbrev Stands : World → List Server → Requests → Type 0
  Stands w servers r = standing.Stands wt w servers r

  abbrev Ended : ℕ → Command → Cluster → World → List Server → Requests → Result Bool memory.Memory → Type 0
  Ended i command c w' servers r' result = EndedOne gs wt i command c w' servers r' result

  module _ (i : ℕ) (command : Command) (w w' : World) (servers : List Server) (r r' : Requests) (s : Stands w servers r) (lead : runs_leading w i ≡ true) where
    abbrev c : Cluster
    c = cluster_of w servers r

    module _ (a : NodeActs w i (Propose 0 command) w') (marks : MarksStep (seen_of w i) (seen_of w' i) i w'.agreed r r') where
      same_node : node_of w i ≡ a.old
      same_node = is_node w i a.old a.server

      moves : cluster_of w' servers r' ≡ moved i w' c
      moves = cluster_marked gs wt (halted_now w w' i) i w w' servers r r' marks

      low : w'.greatest ≤ r.asked
      low = omega (arith, acts_greatest w i (Propose 0 command) w' a, s.proposed)

      stands : Stands w' servers r'
      stands = stands_proposed gs wt (halted_now w w' i) i w w' servers r r' s (acts_many w i (Propose 0 command) w' a) low marks

      entered : (b : Bool) → b ≡ true → has_room (node_of w i) 0 command ≡ true → (node_of w' i).halted ≡ false → Ended i command c w' servers r' (Ok b)
      entered b e room up = record {
        told = subst (λ (z : Bool). OneProposed i command c z (cluster_of w' servers r')) (sym e) (record { world = w'; leads = lead; room = room; acts = a; runs = up; is = moves });
        leads = λ _. leads_on w i 0 command w' a lead room up;
        same = tt;
        stands = stands;
      }

      refused : (b : Bool) → b ≡ false → (has_room (node_of w i) 0 command ≡ false) ⊎ ((node_of w' i).halted ≡ true) → Ended i command c w' servers r' (Ok b)
      refused b e why = record {
        told = subst (λ (z : Bool). OneProposed i command c z (cluster_of w' servers r')) (sym e) (record { world = w'; leads = lead; acts = a; why = why; is = moves });
        leads = λ t. absurd (cc (e, t));
        same = tt;
        stands = stands;
      }

    ended_now : (proposed : Result Place ProposeFault) (result : Result Bool memory.Memory) → Proposes w i 0 command w' proposed → EndsProposal (seen_of w i) (seen_of w' i) i w'.agreed proposed result r r' → Ended i command c w' servers r' result
    ended_now (Ok place) (Ok b) made ends =
        let a = made.acts in
        entered a ends.1 b ends.0 (ap (λ (n : Node). has_room n 0 command) (same_node a ends.1) ∙ made.may.2) (ap (λ (n : Node). n.halted) (acts_server w i (Propose 0 command) w' a) ∙ made.runs)
    ended_now (Ok place) (Err e) made ends = absurd ends
    ended_now (Err fault.Full) (Ok b) made ends = let a = made.0.0.0 in refused a ends.1 b ends.0 (inl (made.1 (node_of w i) (leader_there w i lead)).2)
    ended_now (Err fault.Full) (Err e) made ends = absurd ends
    ended_now (Err fault.Halted) (Ok b) (inl made) ends = absurd (let down = made.1 (node_of w i) (leader_there w i lead) in let up = (leading_tells w i lead).0 in cc (down, up))
    ended_now (Err fault.Halted) (Ok b) (inr made) ends =
        let a = made.0 in
        let step : NodeStep LogFails a.old (Propose 0 command) a.new a.sent = subst (λ (o : Outcome). NodeStep o a.old (Propose 0 command) a.new a.sent) made.1 a.step in
        refused a ends.1 b ends.0 (inr (ap (λ (n : Node). n.halted) (acts_server w i (Propose 0 command) w' a ∙ step.4)))
    ended_now (Err fault.Halted) (Err e) made ends = absurd ends
    ended_now (Err fault.NotLeader) (Ok b) made ends = absurd ends
    ended_now (Err fault.NotLeader) (Err e) made ends = absurd ((made.1 (node_of w i) (leader_there w i lead)).1 (leading_tells w i lead).1)
    ended_now (Err fault.Memory) (Ok b) made ends = absurd ends
    ended_now (Err fault.Memory) (Err e) made ends =
        let same : cluster_of w' servers r' ≡ c = ap (λ (v : World). cluster_of v servers r') made.0 ∙ ap (cluster_of w servers) ends in
        record {
          told = tt;
          leads = tt;
          same = same;
          stands = subst (λ (v : World). Stands v servers r') (sym made.0) (subst (Stands w servers) (sym ends) s);
        }

  -- the same with what was seen
  pub one_ended : (i : ℕ) (command copy : Command) (s₁ s₂ : Servers) (r r' : Requests) (before now : Seen) (agreed : Log) (proposed : Result Place ProposeFault) (result : Result Bool memory.Memory) →
      Stands s₁.world s₁.servers r → runs_leading s₁.world i ≡ true → copy ≡ command → before ≡ seen_of s₁.world i → now ≡ seen_of s₂.world i → agreed ≡ s₂.world.agreed
      → Proposes s₁.world i 0 copy s₂.world proposed → s₂.servers ≡ s₁.servers → EndsProposal before now i agreed proposed result r r'
      → Ended i command (cluster_of s₁.world s₁.servers r) s₂.world s₂.servers r' result
  one_ended i command copy s₁ s₂ r r' before now agreed proposed result stands lead same_command was seen all made same ends =
      let marks : EndsProposal (seen_of s₁.world i) (seen_of s₂.world i) i s₂.world.agreed proposed result r r' =
      subst (λ (z : Seen). EndsProposal z (seen_of s₂.world i) i s₂.world.agreed proposed result r r') was
      (subst (λ (z : Seen). EndsProposal before z i s₂.world.agreed proposed result r r') seen (subst (λ (l : Log). EndsProposal before now i l proposed result r r') all ends)) in
      subst (λ (ss : List Server). Ended i command (cluster_of s₁.world s₁.servers r) s₂.world ss r' result) (sym same)
      (ended_now i command s₁.world s₂.world s₁.servers r r' stands lead proposed result (subst (λ (x : Command). Proposes s₁.world i 0 x s₂.world proposed) same_command made) marks)

  -- a proposal for which there is no memory
  pub not_proposed : (i : ℕ) (command : Command) (w : World) (servers : List Server) (r : Requests) (result : Result Bool memory.Memory) (e : memory.Memory) → result ≡ Err e → Stands w servers r → Ended i command (cluster_of w servers r) w servers r result
  not_proposed i command w servers r result e is s = subst (λ (z : Result Bool memory.Memory). Ended i command (cluster_of w servers r) w servers r z) (sym is) (record { told = tt; leads = tt; same = refl; stands = s })
