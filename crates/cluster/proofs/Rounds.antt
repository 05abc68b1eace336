-- A consistent read that was just noted is held until the round is confirmed that was begun for it.
use Rattle.std.proofs.Common.{◌≡◌, ℕ, suc, ◌+◌, ◌-◌, ◌≤◌, true, List, Result, Ok, Err, refl, sym, ap, ◌∙◌, subst, arith}
use Rattle.std.specs.Prelude.{IfOk, OnOk, OnErr, ◌||◌, ◌<◌, ◌^◌}
use Rattle.std.specs.List.{AllByRecursion as Each}
use Rattle.cat_model.specs.declared.memory.Memory as memory
use Rattle.raft_model.specs.declared.message.Round.{Round}
use Rattle.raft_model.specs.Facts.{next_round}
use Rattle.raft_model.specs.Log.{Log}
use Rattle.raft_model.specs.Node.{Node}
use Rattle.raft_model.specs.Rules.{Probe}
use Rattle.raft_model.specs.World.{World, Acts as NodeActs, IsServer}
use Rattle.raft_node.specs.declared.fault.ProbeFault.{ProbeFault}
use Rattle.raft_world.specs.Steps.{Begun}
use Rattle.cat_model.specs.Taken.{IsTakenAsked}
use Rattle.cluster_rules.specs.Cluster.{Cluster, InRound, Pending, Probed, Server, node_of}
use Rattle.cluster_rules.specs.Replies.{Question}
use Rattle.cluster_rules.specs.Requests.{halted_now, holding, is_ready, is_stale_read, moved, probes}
use Rattle.cluster_rules.proofs.Boundary.{acts_greatest}
use Rattle.cluster_rules.proofs.Tools.{is_node, one_of}
use Rattle.cluster_order.specs.Turns.{HandlesNewest, IsCome, newest, numbered}
use Rattle.cluster_replicas.specs.Servers.{Servers}
use Rattle.cluster_requests.specs.Requests.{Requests, cluster_of as whole_of, holding_with, numbered_with, used}
use Rattle.cluster_works.specs.declared.moves.Seen.{Seen}
use Rattle.cluster_works.specs.Asking.{EndsProbe, IsNewRead}
use Rattle.cluster_works.specs.Moving.{MarksStep, seen_of}
use Rattle.cluster_works.specs.Standing as standing
use Rattle.cluster_works.proofs.Carried.{acts_many}
use Rattle.cluster.proofs.Handled.{Comes, below_next, hold_stands, holds_as, numbered_cluster, numbered_stands}
use Rattle.cluster_works.proofs.Marking.{cluster_marked, stands_proposed}
use Rattle.cluster.proofs.Results.{all_as, stands_alike}
use Rattle.cluster_rules.specs.Agents.{Agent}
use Rattle.cluster_works.specs.Watching.{Watching}

module _ (gs : List Agent) (wt : Watching) where
  -- the cluster of these parts, with these agents
  abbrev cluster_of : World → List Server → Requests → Cluster
  cluster_of w servers r = whole_of w servers gs r

  abbrev Stands : World → List Server → Requests → Type 0
  Stands w servers r = standing.Stands wt w servers r

  -- the next round fits
  pub rounds_fit : (w : World) (i : ℕ) → (node_of w i).round < 2 ^ 64 - 1 → (n : Node) → IsServer w i n → n.round < 2 ^ 64 - 1
  rounds_fit w i l n at = subst (λ (m : Node). m.round < 2 ^ 64 - 1) (is_node w i n at) l

  -- what is known of a read for which a round is begun
  pub record IsProbing (w : World) (servers : List Server) (r : Requests) (i : ℕ) (read : Question) (deadline : ℕ) : Type 0 where
    pub at : Comes gs wt w servers r (cluster_of w servers r) read.agent read.asked read.draw
    pub new : IsNewRead (cluster_of w servers r) i read deadline
    pub taken : IsTakenAsked read.asked
    pub go : (is_stale_read read.asked || is_ready (cluster_of w servers r) i) ≡ true

  module _ (w w' : World) (servers : List Server) (r r' : Requests) (i : ℕ) (read : Question) (deadline : ℕ) (is : IsProbing w servers r i read deadline) where
    abbrev r₁ : Requests
    r₁ = used (numbered_with read.agent read.asked read.draw (record r { room = 4 }))

    abbrev c₁ : Cluster
    c₁ = numbered read.agent read.asked read.draw (cluster_of w servers r)

    abbrev q : Question
    q = newest read.agent read.asked read.draw c₁

    next : r.asked + 1 ≡ suc r.asked
    next = omega arith

    question_is : read ≡ q
    question_is = ap (λ k. record { number = k; agent = read.agent; asked = read.asked; draw = read.draw }) (is.new.number ∙ next)

    -- the step is marked
    module _ (a : NodeActs w i Probe w') (mid : Requests) (marks : MarksStep (seen_of w i) (seen_of w' i) i w'.agreed r₁ mid) where
      stands₁ : Stands w servers r₁
      stands₁ = numbered_stands gs wt w servers r (cluster_of w servers r) read.agent read.asked read.draw is.at

      moved_cluster : cluster_of w' servers mid ≡ moved i w' c₁
      moved_cluster = cluster_marked gs wt (halted_now w w' i) i w w' servers r₁ mid marks ∙ ap (moved i w') (numbered_cluster gs wt w servers r (cluster_of w servers r) read.agent read.asked read.draw is.at)

      low : w'.greatest ≤ r₁.asked
      low = omega (arith, acts_greatest w i Probe w' a, is.at.stands.proposed)

      moved_stands : Stands w' servers mid
      moved_stands = stands_proposed gs wt (halted_now w w' i) i w w' servers r₁ mid stands₁ (acts_many w i Probe w' a) low marks

      held_so : (round : Round) → round ≡ next_round a.old → r' ≡ used (holding_with read i (InRound round deadline) (Probed read.number i round) mid)
          → HandlesNewest i read.agent read.asked read.draw (cluster_of w servers r) (cluster_of w' servers r') × Stands w' servers r'
      held_so round begun e =
          let same : round ≡ next_round (node_of w i) = begun ∙ ap next_round (sym (is_node w i a.old a.server)) in
          let done = holds_as gs wt w' servers mid r' read i (InRound round deadline) (Probed read.number i round) (moved i w' c₁) moved_cluster e in (
            probes is.new.wait w' is.new.look (one_of (is_stale_read read.asked) (is_ready (cluster_of w servers r) i) is.go) a
                (done ∙ ap (λ (x : Question). holding x i (InRound round deadline) (Probed x.number i round) (moved i w' c₁)) question_is
                ∙ ap (λ (x : Round). holding q i (InRound x deadline) (Probed q.number i x) (moved i w' c₁)) same
                ∙ ap (λ d. holding q i (InRound (next_round (node_of w i)) d) (Probed q.number i (next_round (node_of w i))) (moved i w' c₁)) is.new.deadline_is),
            hold_stands gs wt w' servers mid r' read i (InRound round deadline) (Probed read.number i round) moved_stands below given is.taken tt fresh e,
          )
        where
          below : Each (λ (h : Pending). h.question.number < read.number) mid.held
          below = subst (Each (λ (h : Pending). h.question.number < read.number)) (sym (ap (λ (x : Requests). x.held) marks)) (below_next gs wt w servers r read.number is.at.stands is.new.number)

          given : read.number ≤ mid.asked
          given = omega (arith, is.new.number, ap (λ (x : Requests). x.asked) marks)

          fresh : wt.seen < read.number
          fresh = omega (arith, is.new.number, is.at.stands.watching.1)

    -- what comes of it
    abbrev Ended : Result Unit memory.Memory → Type 0
    Ended result =
        OnOk result (HandlesNewest i read.agent read.asked read.draw (cluster_of w servers r) (cluster_of w' servers r'))
        × OnErr result (cluster_of w' servers r' ≡ cluster_of w servers r) × Stands w' servers r'

    ended : (probed : Result Round ProbeFault) (result : Result Unit memory.Memory) → IfOk probed (Begun w i w') → OnErr probed (w' ≡ w)
        → EndsProbe read (seen_of w i) (seen_of w' i) i w'.agreed deadline probed result (record r { room = 4 }) r' → Ended result
    ended (Ok round) (Ok u) begun same ends = let done = held_so begun.0 ends.0 ends.1 round begun.3 ends.2 in (done.0, tt, done.1)
    ended (Ok round) (Err u) begun same ends = absurd ends
    ended (Err why) (Ok u) begun same ends = absurd ends
    ended (Err why) (Err u) begun same ends = (
      tt,
      subst (λ (v : World). cluster_of v servers r' ≡ cluster_of w servers r) (sym same) (ap (cluster_of w servers) ends),
      subst (λ (v : World). Stands v servers r') (sym same) (stands_alike is.at.stands ends refl refl),
    )

  -- the same for a cluster that is seen so
  pub done_probe : (s s' : Servers) (r p r' : Requests) (i : ℕ) (read : Question) (deadline : ℕ) (c : Cluster) (before now : Seen) (agreed : Log) (probed : Result Round ProbeFault) (result : Result Unit memory.Memory) →
      Stands s.world s.servers r → cluster_of s.world s.servers r ≡ c → IsCome read.agent read.asked read.draw c.past → IsNewRead c i read deadline → IsTakenAsked read.asked
      → (is_stale_read read.asked || is_ready c i) ≡ true → p ≡ record r { room = 4 } → before ≡ seen_of s.world i → now ≡ seen_of s'.world i → agreed ≡ s'.world.agreed
      → IfOk probed (Begun s.world i s'.world) → OnErr probed (s'.world ≡ s.world) → s'.servers ≡ s.servers → EndsProbe read before now i agreed deadline probed result p r'
      → OnOk result (HandlesNewest i read.agent read.asked read.draw c (cluster_of s'.world s'.servers r'))
      × OnErr result (cluster_of s'.world s'.servers r' ≡ c) × Stands s'.world s'.servers r'
  done_probe s s' r p r' i read deadline c before now agreed probed result stands view come new taken go prepared was seen known begun same kept ends =
      let Goal : Cluster → List Server → Type 0 = λ d ss.
      OnOk result (HandlesNewest i read.agent read.asked read.draw d (cluster_of s'.world ss r')) × OnErr result (cluster_of s'.world ss r' ≡ d) × Stands s'.world ss r' in
      let is : IsProbing s.world s.servers r i read deadline = record {
        at = record { stands = stands; view = refl; come = subst (λ (d : Cluster). IsCome read.agent read.asked read.draw d.past) (sym view) come };
        new = subst (λ (d : Cluster). IsNewRead d i read deadline) (sym view) new;
        taken = taken;
        go = subst (λ (d : Cluster). (is_stale_read read.asked || is_ready d i) ≡ true) (sym view) go;
      } in
      subst (λ (ss : List Server). Goal c ss) (sym kept) (subst (λ (d : Cluster). Goal d s.servers) view
      (ended s.world s'.world s.servers r r' i read deadline is probed result begun same
      (subst (λ (o : Requests). EndsProbe read (seen_of s.world i) (seen_of s'.world i) i s'.world.agreed deadline probed result o r') prepared
      (all_as (λ (b a : Seen) (l : Log). EndsProbe read b a i l deadline probed result p r') was seen known ends))))

  -- Each part of it, for a cluster that is seen so afterwards.
  pub read_probed : (s s' : Servers) (r p r' : Requests) (i : ℕ) (read : Question) (deadline : ℕ) (c c' : Cluster) (before now : Seen) (agreed : Log) (probed : Result Round ProbeFault) (result : Result Unit memory.Memory) →
      Stands s.world s.servers r → cluster_of s.world s.servers r ≡ c → IsCome read.agent read.asked read.draw c.past → IsNewRead c i read deadline → IsTakenAsked read.asked
      → (is_stale_read read.asked || is_ready c i) ≡ true → p ≡ record r { room = 4 } → before ≡ seen_of s.world i → now ≡ seen_of s'.world i → agreed ≡ s'.world.agreed
      → IfOk probed (Begun s.world i s'.world) → OnErr probed (s'.world ≡ s.world) → s'.servers ≡ s.servers → EndsProbe read before now i agreed deadline probed result p r' → cluster_of s'.world s'.servers r' ≡ c'
      → OnOk result (HandlesNewest i read.agent read.asked read.draw c c') × OnErr result (c' ≡ c)
  read_probed s s' r p r' i read deadline c c' before now agreed probed result stands view come new taken go prepared was seen known begun same kept ends shown =
      let t = done_probe s s' r p r' i read deadline c before now agreed probed result stands view come new taken go prepared was seen known begun same kept ends in
      subst (λ (d : Cluster). OnOk result (HandlesNewest i read.agent read.asked read.draw c d) × OnErr result (d ≡ c)) shown (t.0, t.1)
