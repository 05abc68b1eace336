-- An act: a step of a server's node with its marks, or a part of one where memory ran out.
use Rattle.std.proofs.Common.{◌≡◌, ◌≢◌, ℕ, inl, inr, Bool, true, false, cond, not, List, Option, Some, None, Result, Ok, Err, OnOk, OnErr, refl, sym, ◌∙◌, ap, subst, arith}
use Rattle.std.specs.Prelude.{◌==◌, ◌&&◌}
use Rattle.cat_model.specs.declared.memory.Memory.{Memory}
use Rattle.cat_model.specs.declared.request.Event.{Event}
use Rattle.cat_model.specs.declared.request.Event.TheVariants as event
use Rattle.raft_model.specs.Log.{Log}
use Rattle.raft_model.specs.Node.{Node}
use Rattle.raft_model.specs.Rules.{Input, Timeout, Beat, Receive, Propose, Probe, done}
use Rattle.raft_model.specs.Step.{Outcome, Forgets, NodeStep}
use Rattle.raft_model.specs.World as world
use Rattle.raft_model.specs.World.{World, WorldStep, Packet, Acts as NodeActs, numbered, raised}
use Rattle.raft_world.specs.Steps.{Delivers, FindsNoMemory, StepsWhole, StepsWorking}
use Rattle.cluster_rules.specs.Offices.{Office, office_from}
use Rattle.raft_model.specs.Node.{set_server}
use Rattle.raft_model.proofs.Tests.{at_bool}
use Rattle.cluster_rules.specs.Cluster.{Cluster, Server, clock_of, no_node, node_of, runs_leading, seated, server_of, took_office, with_office}
use Rattle.cluster_replicas.specs.Servers.{Servers, officed}
use Rattle.cluster_rules.specs.Requests.{halted_now, moved}
use Rattle.cluster_rules.specs.Step.{Acts, Remembers, takes, arms, input_of, received, receiver}
use Rattle.cluster_rules.proofs.Tools.{eq_self, is_node, is_place, item_same, length_set_server}
use Rattle.cluster_order.specs.declared.cut.Cut.{Cut}
use Rattle.cluster_order.specs.declared.cut.Cut.TheVariants.{Before, Within}
use Rattle.cluster_requests.specs.Requests.{Requests, cluster_of as whole_of}
use Rattle.cluster_works.specs.declared.moves.Seen.{Seen}
use Rattle.cluster_works.specs.Moving.{Ends, MarksStep, Seats, seen_of}
use Rattle.cluster_works.specs.Acting as acting
use Rattle.cluster_works.specs.Standing as standing
use Rattle.cluster_works.proofs.Carried.{acts_many, all_officed, arming_many}
use Rattle.raft_model.proofs.Forgetting.{forgot}
use Rattle.cluster_works.proofs.Marking.{cluster_marked, stands_marked}
use Rattle.cluster_rules.specs.Agents.{Agent}
use Rattle.cluster_works.specs.Watching.{Watching}

module _ (gs : List Agent) (wt : Watching) where
  -- the cluster of these parts, with these agents
  abbrev cluster_of : World → List Server → Requests → Cluster
  cluster_of w servers r = whole_of w servers gs r

  abbrev Stands : World → List Server → Requests → Type 0
  Stands w servers r = standing.Stands wt w servers r

  -- the node behind a step
  stepped : (w : World) (i : ℕ) (input : Input) (w' : World) → (a : NodeActs w i input w') → node_of w' i ≡ a.new
  stepped w i input w' a =
      let place = is_place w i a.old a.server in
      ap (λ (v : World). node_of v i) a.becomes ∙ item_same no_node w.nodes i a.new place.0 place.1

  -- a node that forgot has another term
  forgets_term : (w : World) (i : ℕ) (input : Input) (w' : World) → (a : NodeActs w i input w') → a.outcome ≡ Forgets → (node_of w' i).term ≢ (node_of w i).term
  forgets_term w i input w' a e same =
      let step : NodeStep Forgets a.old input a.new a.sent = subst (λ (o : Outcome). NodeStep o a.old input a.new a.sent) e a.step in
      let new : (node_of w' i).term ≡ (done a.old input).node.term = ap (λ (n : Node). n.term) (stepped w i input w' a ∙ step.3) in
      let old : (node_of w i).term ≡ a.old.term = ap (λ (n : Node). n.term) (is_node w i a.old a.server) in
      forgot a.old input step.0 step.2 (sym new ∙ same ∙ old)

  same_term : (w : World) (i : ℕ) (input : Input) (w' : World) → FindsNoMemory w i input w' → (node_of w' i).term ≡ (node_of w i).term → w' ≡ w
  same_term w i input w' (inl same) e = same
  same_term w i input w' (inr (a, f)) e = absurd (forgets_term w i input w' a f e)

  other_term : (w : World) (i : ℕ) (input : Input) (w' : World) → FindsNoMemory w i input w' → (node_of w' i).term ≢ (node_of w i).term → (a : NodeActs w i input w') × (a.outcome ≡ Forgets)
  other_term w i input w' (inl same) d = absurd (d (ap (λ (v : World). (node_of v i).term) same))
  other_term w i input w' (inr f) d = f

  -- an input that proposes nothing
  abbrev pub IsPlain : Input → Type 0
  IsPlain (Propose number command) = ⊥
  IsPlain other = Unit {0}

  raised_none : (input : Input) (greatest : ℕ) → IsPlain input → raised input greatest ≡ greatest
  raised_none Timeout greatest p = refl
  raised_none Beat greatest p = refl
  raised_none (Receive from m) greatest p = refl
  raised_none (Propose number command) greatest p = absurd p
  raised_none Probe greatest p = refl

  greatest_kept : (w : World) (i : ℕ) (input : Input) (w' : World) → IsPlain input → NodeActs w i input w' → w'.greatest ≡ w.greatest
  greatest_kept w i input w' p a = ap (λ (v : World). v.greatest) a.becomes ∙ raised_none input w.greatest p

  abbrev Acted : ℕ → Event → Cluster → World → List Server → Requests → Result Unit Cut → Type 0
  Acted i made c w' servers' r' result = acting.Acted gs wt i made c w' servers' r' result

  -- the servers once server i has taken office, where it did
  pub seated_servers : World → World → ℕ → List Server → List Server
  seated_servers w w' i servers = cond (took_office w w' i) (set_server servers i (record (server_of servers i) { office = office_from (clock_of w' i) })) servers

  cluster_seated : (w w' : World) (i : ℕ) (servers : List Server) (r : Requests) → cluster_of w' (seated_servers w w' i servers) r ≡ seated w i (cluster_of w' servers r)
  unfolding seated_servers
  cluster_seated w w' i servers r = at_bool (λ b. cluster_of w' (cond b (set_server servers i (record (server_of servers i) { office = office_from (clock_of w' i) })) servers) r
      ≡ cond b (with_office i (office_from (clock_of w' i)) (cluster_of w' servers r)) (cluster_of w' servers r)) (took_office w w' i) (λ _. refl) (λ _. refl)

  -- another time in office of one server
  pub stands_officed : (i : ℕ) (o : Office) (w : World) (servers : List Server) (r : Requests) → Stands w servers r → Stands w (set_server servers i (record (server_of servers i) { office = o })) r
  stands_officed i o w servers r s = record {
    some = let k = length_set_server servers i (record (server_of servers i) { office = o }) in omega (arith, s.some, k);
    count = length_set_server servers i (record (server_of servers i) { office = o }) ∙ s.count;
    watching = (s.watching.0 ∙ sym (length_set_server servers i (record (server_of servers i) { office = o })), s.watching.1);
    proposed = s.proposed;
    ascends = s.ascends;
    held = all_officed wt servers i o r.asked r.held s.held;
  }

  stands_seated : (w w' : World) (i : ℕ) (servers : List Server) (r : Requests) → Stands w' servers r → Stands w' (seated_servers w w' i servers) r
  unfolding seated_servers
  stands_seated w w' i servers r s = at_bool (λ b. Stands w' (cond b (set_server servers i (record (server_of servers i) { office = office_from (clock_of w' i) })) servers) r) (took_office w w' i)
      (λ _. stands_officed i (office_from (clock_of w' i)) w' servers r s) (λ _. s)

  -- a server that was seen before, and is as it was, does not take office
  not_twice : (leads : Bool) (term : ℕ) → (leads && not (leads && (term == term))) ≡ false
  not_twice true term = ap not (eq_self term)
  not_twice false term = refl

  seated_none : (w : World) (i : ℕ) (servers : List Server) → seated_servers w w i servers ≡ servers
  unfolding seated_servers
  seated_none w i servers = ap (λ b. cond b (set_server servers i (record (server_of servers i) { office = office_from (clock_of w i) })) servers) (not_twice (runs_leading w i) (node_of w i).term)

  -- what the code's seating does
  pub are_seated : (i : ℕ) (w : World) (s₁ s₂ : Servers) (before now : Seen) → before ≡ seen_of w i → now ≡ seen_of s₁.world i → Seats before now i s₁ s₂
      → (s₂.world ≡ s₁.world) × (s₂.servers ≡ seated_servers w s₁.world i s₁.servers)
  unfolding seated_servers
  are_seated i w s₁ s₂ before now was seen m =
      let known : Seats (seen_of w i) (seen_of s₁.world i) i s₁ s₂ = subst (λ (z : Seen). Seats z (seen_of s₁.world i) i s₁ s₂) was (subst (λ (z : Seen). Seats before z i s₁ s₂) seen m) in (
        ap (λ (z : Servers). z.world) known ∙ at_bool (λ b. (cond b (officed i (office_from (clock_of s₁.world i)) s₁) s₁).world ≡ s₁.world) (took_office w s₁.world i) (λ _. refl) (λ _. refl),
        ap (λ (z : Servers). z.servers) known
            ∙ at_bool (λ b. (cond b (officed i (office_from (clock_of s₁.world i)) s₁) s₁).servers ≡ cond b (set_server s₁.servers i (record (server_of s₁.servers i) { office = office_from (clock_of s₁.world i) })) s₁.servers) (took_office w s₁.world i) (λ _. refl) (λ _. refl),
      )

  module _ (i : ℕ) (made : Event) (input : Input) (w w' : World) (servers : List Server) (r r' : Requests) (s : Stands w servers r) (plain : IsPlain input) (is : input_of w i made ≡ Some input) where
    step_acted : (a : NodeActs w i input w') → MarksStep (seen_of w i) (seen_of w' i) i w'.agreed r r'
        → Stands w' (seated_servers w w' i servers) r' × ((act : Acts 0 (cluster_of w servers r) i made (cluster_of w' (seated_servers w w' i servers) r')) × ((a.outcome ≢ Forgets → Remembers act) × (a.outcome ≡ Forgets → ¬ Remembers act)))
    step_acted a m =
        let moves : cluster_of w' servers r' ≡ moved i w' (cluster_of w servers r) = cluster_marked gs wt (halted_now w w' i) i w w' servers r r' m in (
          stands_seated w w' i servers r' (stands_marked gs wt (halted_now w w' i) i w w' servers r r' s (acts_many w i input w' a) (greatest_kept w i input w' plain a) m),
          (takes input w' refl is a (cluster_seated w w' i servers r' ∙ ap (seated w i) moves), ((λ n. n), (λ f n. n f))),
        )

    ended : (done : Result Unit Memory) (result : Result Unit Cut) → OnOk done (StepsWhole w i input w') → OnErr done (FindsNoMemory w i input w') → Ends (seen_of w i) (seen_of w' i) i w'.agreed done result r r'
        → Acted i made (cluster_of w servers r) w' (seated_servers w w' i servers) r' result
    ended (Ok x) (Ok y) (a, n) err m = let t = step_acted a m in record { stands = t.0; whole = (t.1.0, t.1.1.0 n); cut = tt }
    ended (Ok x) (Err y) ok err m = absurd m
    ended (Err x) (Ok y) ok err m = absurd m
    ended (Err x) (Err Before) ok err (same, e) =
        let world : w' ≡ w = same_term w i input w' err same in
        let unseated : seated_servers w w' i servers ≡ servers = ap (λ (v : World). seated_servers w v i servers) world ∙ seated_none w i servers in record {
          stands = subst (λ (v : World). Stands v (seated_servers w w' i servers) r') (sym world) (subst (λ (l : List Server). Stands w l r') (sym unseated) (subst (λ (q : Requests). Stands w servers q) (sym e) s));
          whole = tt;
          cut = ap (λ (v : World). cluster_of v (seated_servers w w' i servers) r') world ∙ ap (λ (l : List Server). cluster_of w l r') unseated ∙ ap (cluster_of w servers) e;
        }
    ended (Err x) (Err Within) ok err (differs, m) =
        let f = other_term w i input w' err differs in
        let t = step_acted f.0 m in record { stands = t.0; whole = tt; cut = (t.1.0, t.1.1.1 f.1) }

  -- what was seen in these worlds, beside the agreed log
  pub ends_seen : (i : ℕ) (w w' : World) (before now : Seen) (agreed : Log) (done : Result Unit Memory) (result : Result Unit Cut) (r r' : Requests) → before ≡ seen_of w i → now ≡ seen_of w' i → agreed ≡ w'.agreed
      → Ends before now i agreed done result r r' → Ends (seen_of w i) (seen_of w' i) i w'.agreed done result r r'
  ends_seen i w w' before now agreed done result r r' was seen all m =
      subst (λ (z : Seen). Ends z (seen_of w' i) i w'.agreed done result r r') was (subst (λ (z : Seen). Ends before z i w'.agreed done result r r') seen (subst (λ (l : Log). Ends before now i l done result r r') all m))

  -- A call that is given an input is an act.
  pub acts_by : (i : ℕ) (made : Event) (input : Input) (w : World) (servers : List Server) (s₁ s₂ : Servers) (r r' : Requests) (before now : Seen) (agreed : Log) (done : Result Unit Memory) (result : Result Unit Cut)
      → Stands w servers r → s₁.servers ≡ servers → IsPlain input → input_of w i made ≡ Some input
      → OnOk done (StepsWhole w i input s₁.world) → OnErr done (FindsNoMemory w i input s₁.world) → before ≡ seen_of w i → now ≡ seen_of s₁.world i → Seats before now i s₁ s₂ → agreed ≡ s₂.world.agreed
      → Ends before now i agreed done result r r' → Acted i made (cluster_of w servers r) s₂.world s₂.servers r' result
  acts_by i made input w servers s₁ s₂ r r' before now agreed done result s same plain is ok err was seen seats all m =
      let on = are_seated i w s₁ s₂ before now was seen seats in
      let ends = ends_seen i w s₁.world before now agreed done result r r' was seen (all ∙ ap (λ (v : World). v.agreed) on.0) m in
      let t = ended i made input w s₁.world servers r r' s plain is done result ok err ends in
      let same₂ : s₂.servers ≡ seated_servers w s₁.world i servers = on.1 ∙ ap (seated_servers w s₁.world i) same in
      subst (λ (v : World). Acted i made (cluster_of w servers r) v s₂.servers r' result) (sym on.0) (subst (λ (l : List Server). Acted i made (cluster_of w servers r) s₁.world l r' result) (sym same₂) t)

  pub input_here : (w : World) (i : ℕ) (input : Input) → cond (i == i) (Some input) None ≡ Some input
  input_here w i input = ap (λ b. cond b (Some input) None) (eq_self i)

  -- a call that found its memory or changed nothing
  pub working_whole : {T E : Type 0} (done : Result T E) (w : World) (i : ℕ) (input : Input) (w' : World) → OnOk done (StepsWorking w i input w') → OnErr done (w' ≡ w)
      → OnOk done (StepsWhole w i input w') × OnErr done (FindsNoMemory w i input w')
  working_whole (Ok x) w i input w' ok err = ((ok.0, λ f. absurd (cc (ok.1, f))), tt)
  working_whole (Err x) w i input w' ok err = (tt, inl err)

  -- the message that a server receives
  pub packet_for : (o : Option Packet) (i : ℕ) → receiver o ≡ Some i → (p : Packet) × (o ≡ Some p) × (p.to ≡ i)
  packet_for None i e = absurd cc
  packet_for (Some p) i e = (p, refl, cc)

  pub delivered_to : (steps : World → ℕ → Input → World → Type 0) (w w' : World) (k : ℕ) (p : Packet) (i : ℕ) → numbered k w.bag.packets ≡ Some p → p.to ≡ i → Delivers steps w k w' → steps w i (Receive p.from p.message) w'
  delivered_to steps w w' k p i e to (q, f, s) =
      let same : q ≡ p = cc in subst (λ n. steps w n (Receive p.from p.message) w') to (subst (λ (z : Packet). steps w z.to (Receive z.from z.message) w') same s)

  pub delivery : {T E : Type 0} (done : Result T E) (w w' : World) (k : ℕ) (p : Packet) (i : ℕ) → numbered k w.bag.packets ≡ Some p → p.to ≡ i → OnOk done (Delivers StepsWhole w k w') → OnErr done (Delivers FindsNoMemory w k w')
      → OnOk done (StepsWhole w i (Receive p.from p.message) w') × OnErr done (FindsNoMemory w i (Receive p.from p.message) w')
  delivery (Ok x) w w' k p i e to ok err = (delivered_to StepsWhole w w' k p i e to ok, tt)
  delivery (Err x) w w' k p i e to ok err = (tt, delivered_to FindsNoMemory w w' k p i e to err)

  pub receives : (w : World) (k : ℕ) (p : Packet) (i : ℕ) → numbered k w.bag.packets ≡ Some p → p.to ≡ i → input_of w i (event.Deliver k) ≡ Some (Receive p.from p.message)
  receives w k p i e to = ap (received i) e ∙ ap (λ b. cond b (Some (Receive p.from p.message)) None) (ap (λ n. n == i) to ∙ eq_self i)

  -- a call of a durable store that is to fail
  pub arming_acts : (i nth : ℕ) (w w' : World) (servers servers' : List Server) (r r' : Requests) (before now : Seen) (agreed : Log) → Stands w servers r → servers' ≡ servers → WorldStep w (world.Arms i nth) w'
      → before ≡ seen_of w i → now ≡ seen_of w' i → agreed ≡ w'.agreed → MarksStep before now i agreed r r' → Acted i (event.FailKeep i nth) (cluster_of w servers r) w' servers' r' (Ok tt)
  arming_acts i nth w w' servers servers' r r' before now agreed s same step was seen all m =
      let marks = ends_seen i w w' before now agreed (Ok tt) (Ok tt) r r' was seen all m in
      subst (λ (l : List Server). Acted i (event.FailKeep i nth) (cluster_of w servers r) w' l r' (Ok tt)) (sym same) (record {
        stands = stands_marked gs wt (halted_now w w' i) i w w' servers r r' s (arming_many w i nth w' step) (ap (λ (v : World). v.greatest) step.2) marks;
        whole = (arms nth w' refl refl step (cluster_marked gs wt (halted_now w w' i) i w w' servers r r' marks), tt);
        cut = tt;
      })

  -- a call that changed nothing
  pub nothing_acted : (i : ℕ) (made : Event) (s s' : Servers) (r : Requests) → s' ≡ s → Stands s.world s.servers r → Acted i made (cluster_of s.world s.servers r) s'.world s'.servers r (Err Before)
  nothing_acted i made s s' r same stands =
      subst (λ (z : Servers). Acted i made (cluster_of s.world s.servers r) z.world z.servers r (Err Before)) (sym same) (record { stands = stands; whole = tt; cut = refl })
