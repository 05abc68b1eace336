-- A write that was just noted is proposed: it is held at its place, or refused by what the proposal answered.
use Rattle.std.proofs.Common.{◌≡◌, inl, inr, ℕ, suc, ◌+◌, ◌≤◌, Bool, true, false, cond, length, List, [], ◌∷◌, ◌++◌, None, Result, Ok, Err, refl, sym, ap, ◌∙◌, subst, arith}
use Rattle.std.specs.Prelude.{OnOk, OnErr, ◌<◌}
use Rattle.std.specs.List.{AllByRecursion as Each}
use Rattle.std.proofs.lemmas.List.{length-append}
use Rattle.cat_model.specs.declared.command.Command.{Command}
use Rattle.cat_model.specs.declared.command.Entry.{Entry}
use Rattle.cat_model.specs.declared.memory.Memory as memory
use Rattle.cat_model.specs.declared.request.Asked.TheVariants.{Good}
use Rattle.cat_model.specs.declared.request.Request.TheVariants.{Write as Writes}
use Rattle.cat_model.specs.declared.reply.Kind.TheVariants.{Refused}
use Rattle.cat_model.specs.declared.reply.Refusal.{Refusal}
use Rattle.cat_model.specs.declared.reply.Refusal.TheVariants as refusal
use Rattle.cat_model.specs.LogLimits.{command_bytes, is_noop, log_bytes}
use Rattle.raft_model.specs.declared.message.Place.{Place}
use Rattle.raft_model.specs.Log.{Log}
use Rattle.raft_model.specs.Node.{Node, last}
use Rattle.raft_model.specs.Rules.{Propose, has_room, proposal}
use Rattle.raft_model.specs.Step.{NodeStep, LogFails, Outcome}
use Rattle.raft_model.specs.World.{World, Acts as NodeActs}
use Rattle.raft_node.specs.declared.fault.ProposeFault.{ProposeFault}
use Rattle.raft_node.specs.declared.fault.ProposeFault.TheVariants as fault
use Rattle.raft_world.specs.Steps.{Proposes}
use Rattle.cat_model.specs.Taken.{IsTakenAsked, is_command_taken}
use Rattle.cluster_rules.specs.Cluster.{AtPlace, Cluster, Pending, Proposed, Server, node_of, runs_leading, server_of}
use Rattle.cluster_rules.specs.Replies.{Question, Says, entered}
use Rattle.cluster_rules.specs.Requests.{delayed_at, full, halted_now, holding, is_ready, log_with, moved, proposes, refused, stops}
use Rattle.cluster_rules.proofs.Boundary.{acts_greatest, acts_server, leader_there, leading_tells}
use Rattle.cluster_rules.proofs.Tools.{is_node}
use Rattle.cluster_order.specs.Turns.{HandlesNewest, IsCome, newest, numbered}
use Rattle.cluster_replicas.specs.Servers.{IsBehind, Servers}
use Rattle.cluster_requests.specs.Requests.{Requests, answered_with, cluster_of as whole_of, holding_with, numbered_with, used}
use Rattle.cluster_works.specs.declared.writes.Write.{Write}
use Rattle.cluster_works.specs.declared.moves.Seen.{Seen}
use Rattle.cluster_works.specs.Asking.{EndsWrite, IsCopied, IsTakenWrite}
use Rattle.cluster_works.specs.Moving.{MarksStep, seen_of}
use Rattle.cluster_works.specs.Standing as standing
use Rattle.cluster_works.specs.Standing.{IsAwaited}
use Rattle.cluster_works.proofs.Carried.{acts_many}
use Rattle.cluster.proofs.Handled.{Comes, below_next, hold_stands, holds_as, numbered_cluster, numbered_stands, refusal_stands, refuses_as}
use Rattle.cluster_works.proofs.Marking.{cluster_marked, stands_proposed}
use Rattle.cluster.proofs.Results.{all_as, stands_alike}
use Rattle.cluster.proofs.Taken.{is_counted}
use Rattle.cluster_rules.specs.Agents.{Agent}
use Rattle.cluster_works.specs.Watching.{Watching}

module _ (gs : List Agent) (wt : Watching) where
  -- the cluster of these parts, with these agents
  abbrev cluster_of : World → List Server → Requests → Cluster
  cluster_of w servers r = whole_of w servers gs r

  abbrev Stands : World → List Server → Requests → Type 0
  Stands w servers r = standing.Stands wt w servers r

  entry_bytes : (b : Bool) (k : ℕ) → b ≡ false → (cond b 0 k) + 0 ≡ k
  entry_bytes true k e = absurd cc
  entry_bytes false k e = omega arith

  bytes_more : (log : Log) (e : Entry) → is_noop e.command ≡ false → log_bytes (log ++ e ∷ []) ≡ log_bytes log + command_bytes e.command
  bytes_more [] e n = let one = entry_bytes (is_noop e.command) (command_bytes e.command) n in omega (arith, one)
  bytes_more (x ∷ log) e n = let more = bytes_more log e n in omega (arith, more)

  -- what is known of a write that is proposed
  pub record IsProposing (w : World) (servers : List Server) (r : Requests) (i : ℕ) (write : Write) (command : Command) : Type 0 where
    pub at : Comes gs wt w servers r (cluster_of w servers r) write.question.agent write.question.asked write.question.draw
    pub copied : IsCopied (cluster_of w servers r) i write.question.agent write.question.asked write.question.draw command write
    pub asked : write.question.asked ≡ Good (Writes command)
    pub taken : IsTakenAsked write.question.asked
    pub leads : runs_leading w i ≡ true
    pub ready : is_ready (cluster_of w servers r) i ≡ true
    pub free : delayed_at (cluster_of w servers r) i command ≡ None
    pub behind : length (server_of servers i).applied ≤ length (node_of w i).log

  module _ (w w' : World) (servers : List Server) (r r' : Requests) (i : ℕ) (write : Write) (command : Command) (is : IsProposing w servers r i write command) where
    agent : ℕ
    agent = write.question.agent

    abbrev r₁ : Requests
    r₁ = used (numbered_with write.question.agent write.question.asked write.question.draw (record r { room = 4 }))

    abbrev c₁ : Cluster
    c₁ = numbered write.question.agent write.question.asked write.question.draw (cluster_of w servers r)

    abbrev q : Question
    q = newest write.question.agent write.question.asked write.question.draw c₁

    next : r.asked + 1 ≡ suc r.asked
    next = omega arith

    question_is : write.question ≡ q
    question_is = is.copied.question ∙ ap (λ k. record { number = k; agent = write.question.agent; asked = write.question.asked; draw = write.question.draw }) next

    number_is : write.question.number ≡ q.number
    number_is = ap (λ (x : Question). x.number) question_is

    taken_write : is_command_taken command ≡ true
    taken_write = subst IsTakenAsked is.asked is.taken

    -- the command that is entered
    abbrev enters : Command
    enters = entered write.question command

    entry_is : write.entry ≡ proposal (node_of w i) q.number (entered q command)
    entry_is = is.copied.entry ∙ ap (λ (z : Question). record { term = (node_of w i).term; number = z.number; command = entered z command }) question_is

    -- the step is marked
    module _ (a : NodeActs w i (Propose write.question.number enters) w') (mid : Requests) (marks : MarksStep (seen_of w i) (seen_of w' i) i w'.agreed r₁ mid) where
      stands₁ : Stands w servers r₁
      stands₁ = numbered_stands gs wt w servers r (cluster_of w servers r) write.question.agent write.question.asked write.question.draw is.at

      moved_cluster : cluster_of w' servers mid ≡ moved i w' c₁
      moved_cluster = cluster_marked gs wt (halted_now w w' i) i w w' servers r₁ mid marks ∙ ap (moved i w') (numbered_cluster gs wt w servers r (cluster_of w servers r) write.question.agent write.question.asked write.question.draw is.at)

      low : w'.greatest ≤ r₁.asked
      low = omega (arith, acts_greatest w i (Propose write.question.number enters) w' a, is.at.stands.proposed, ap (λ (x : Question). x.number) is.copied.question)

      moved_stands : Stands w' servers mid
      moved_stands = stands_proposed gs wt (halted_now w w' i) i w w' servers r₁ mid stands₁ (acts_many w i (Propose write.question.number enters) w' a) low marks

      acts_now : NodeActs w i (Propose q.number (entered q command)) w'
      acts_now = subst (λ (z : Question). NodeActs w i (Propose z.number (entered z command)) w') question_is a

      same_node : node_of w i ≡ a.old
      same_node = is_node w i a.old a.server

      room_is : (b : Bool) → has_room a.old write.question.number enters ≡ b → has_room (node_of w i) q.number (entered q command) ≡ b
      room_is b e =
          ap (λ (n : Node). has_room n q.number (entered q command)) same_node
          ∙ ap (λ (z : Question). has_room a.old z.number (entered z command)) (sym question_is) ∙ e

      -- it is held
      held_so : (place : Place) → place ≡ record { index = suc (last a.old); term = a.old.term } → has_room a.old write.question.number enters ≡ true → a.new.halted ≡ false
          → r' ≡ used (holding_with write.question i (AtPlace place.index place.term) (Proposed place.index write.entry) mid)
          → HandlesNewest i write.question.agent write.question.asked write.question.draw (cluster_of w servers r) (cluster_of w' servers r') × Stands w' servers r'
      held_so place here room up e =
          let at : place ≡ record { index = suc (length (node_of w i).log); term = (node_of w i).term } = here ∙ ap (λ (n : Node). record { index = suc (length n.log); term = n.term }) (sym same_node) in
          let done = holds_as gs wt w' servers mid r' write.question i (AtPlace place.index place.term) (Proposed place.index write.entry) (moved i w' c₁) moved_cluster e in (
            proposes command w' is.asked is.free (inr is.ready) (room_is true room) acts_now (ap (λ (n : Node). n.halted) (acts_server w i (Propose write.question.number enters) w' a) ∙ up)
                (done ∙ ap (λ (x : Question). holding x i (AtPlace place.index place.term) (Proposed place.index write.entry) (moved i w' c₁)) question_is
                ∙ ap (λ (x : Entry). holding q i (AtPlace place.index place.term) (Proposed place.index x) (moved i w' c₁)) entry_is
                ∙ ap (λ (p : Place). holding q i (AtPlace p.index p.term) (Proposed p.index (proposal (node_of w i) q.number (entered q command))) (moved i w' c₁)) at),
            hold_stands gs wt w' servers mid r' write.question i (AtPlace place.index place.term) (Proposed place.index write.entry) moved_stands below given is.taken (waits_at place at) fresh e,
          )
        where
          below : Each (λ (h : Pending). h.question.number < write.question.number) mid.held
          below = subst (Each (λ (h : Pending). h.question.number < write.question.number)) (sym (ap (λ (x : Requests). x.held) marks)) (below_next gs wt w servers r write.question.number is.at.stands (ap (λ (x : Question). x.number) is.copied.question))

          given : write.question.number ≤ mid.asked
          given = omega (arith, ap (λ (x : Question). x.number) is.copied.question, ap (λ (x : Requests). x.asked) marks)

          fresh : wt.seen < write.question.number
          fresh = omega (arith, ap (λ (x : Question). x.number) is.copied.question, is.at.stands.watching.1)

          waits_at : (place : Place) → place ≡ record { index = suc (length (node_of w i).log); term = (node_of w i).term } → IsAwaited (length (server_of servers i).applied) (AtPlace place.index place.term)
          waits_at place at = omega (arith, is.behind, ap (λ (p : Place). p.index) at)

      -- it is refused
      refused_so : (why : Refusal) → r' ≡ used (answered_with write.question.number (Refused why) false 0 (Says why) mid) → (cluster_of w' servers r' ≡ refused q why (moved i w' c₁)) × Stands w' servers r'
      refused_so why e = (refuses_as gs wt w' servers mid r' q why (moved i w' c₁) write.question.number (sym number_is) moved_cluster e, refusal_stands gs wt w' servers mid r' write.question.number why moved_stands e)

      full_so : has_room a.old write.question.number enters ≡ false → r' ≡ used (answered_with write.question.number (Refused (refusal.LogFull write.entries write.bytes)) false 0 (Says (refusal.LogFull write.entries write.bytes)) mid)
          → HandlesNewest i write.question.agent write.question.asked write.question.draw (cluster_of w servers r) (cluster_of w' servers r') × Stands w' servers r'
      full_so room e =
          let log = (node_of w i).log in
          let entries : write.entries ≡ length (log_with (node_of w i) q command) = is.copied.entries ∙ sym (length-append log (proposal (node_of w i) q.number (entered q command) ∷ [])) in
          let counts : is_noop (entered q command) ≡ false = is_counted q command taken_write in
          let bytes : write.bytes ≡ log_bytes (log_with (node_of w i) q command) =
          is.copied.bytes ∙ ap (λ (z : Question). log_bytes log + command_bytes (entered z command)) question_is ∙ sym (bytes_more log (proposal (node_of w i) q.number (entered q command)) counts) in
          let done = refused_so (refusal.LogFull write.entries write.bytes) e in (
            full command w' is.asked is.free (inr is.ready) (room_is false room) acts_now
                (done.0 ∙ ap (λ k. refused q (refusal.LogFull k write.bytes) (moved i w' c₁)) entries ∙ ap (λ k. refused q (refusal.LogFull (length (log_with (node_of w i) q command)) k) (moved i w' c₁)) bytes),
            done.1,
          )

      stops_so : has_room a.old write.question.number enters ≡ true → a.outcome ≡ LogFails → r' ≡ used (answered_with write.question.number (Refused (refusal.Halted i)) false 0 (Says (refusal.Halted i)) mid)
          → HandlesNewest i write.question.agent write.question.asked write.question.draw (cluster_of w servers r) (cluster_of w' servers r') × Stands w' servers r'
      stops_so room fails e =
          let step : NodeStep LogFails a.old (Propose write.question.number enters) a.new a.sent = subst (λ (o : Outcome). NodeStep o a.old (Propose write.question.number enters) a.new a.sent) fails a.step in
          let down : (node_of w' i).halted ≡ true = ap (λ (n : Node). n.halted) (acts_server w i (Propose write.question.number enters) w' a ∙ step.4) in
          let done = refused_so (refusal.Halted i) e in
          (stops command w' is.asked is.free (inr is.ready) (room_is true room) acts_now down done.0, done.1)

    -- what comes of it
    abbrev Ended : Result Unit memory.Memory → Type 0
    Ended result =
        OnOk result (HandlesNewest i write.question.agent write.question.asked write.question.draw (cluster_of w servers r) (cluster_of w' servers r'))
        × OnErr result (cluster_of w' servers r' ≡ cluster_of w servers r) × Stands w' servers r'

    ended : (proposed : Result Place ProposeFault) (result : Result Unit memory.Memory) → Proposes w i write.question.number enters w' proposed
        → EndsWrite write (seen_of w i) (seen_of w' i) i w'.agreed proposed result (record r { room = 4 }) r' → Ended result
    ended (Ok place) (Ok u) made ends =
        let done = held_so made.acts ends.0 ends.1 place made.is made.may.2 made.runs ends.2 in (done.0, tt, done.1)
    ended (Ok place) (Err u) made ends = absurd ends
    ended (Err fault.Full) (Ok u) made ends =
        let a = made.0.0.0 in
        let done = full_so a ends.0 ends.1 (made.1 a.old a.server).2 ends.2 in (done.0, tt, done.1)
    ended (Err fault.Full) (Err u) made ends = absurd ends
    ended (Err fault.Halted) (Ok u) (inl made) ends = absurd (let down = made.1 (node_of w i) (leader_there w i is.leads) in let up = (leading_tells w i is.leads).0 in cc (down, up))
    ended (Err fault.Halted) (Ok u) (inr made) ends =
        let done = stops_so made.0 ends.0 ends.1 made.2.2 made.1 ends.2 in (done.0, tt, done.1)
    ended (Err fault.Halted) (Err u) made ends = absurd ends
    ended (Err fault.NotLeader) (Ok u) made ends = absurd ends
    ended (Err fault.NotLeader) (Err u) made ends = absurd ((made.1 (node_of w i) (leader_there w i is.leads)).1 (leading_tells w i is.leads).1)
    ended (Err fault.Memory) (Ok u) made ends = absurd ends
    ended (Err fault.Memory) (Err u) made ends = (
      tt,
      subst (λ (v : World). cluster_of v servers r' ≡ cluster_of w servers r) (sym made.0) (ap (cluster_of w servers) ends),
      subst (λ (v : World). Stands v servers r') (sym made.0) (stands_alike is.at.stands ends refl refl),
    )

  -- the same for a cluster that is seen so
  pub done_write : (s s' : Servers) (r p r' : Requests) (i : ℕ) (write : Write) (enters : Command) (c : Cluster) (before now : Seen) (agreed : Log) (number : ℕ) (proposed : Result Place ProposeFault) (result : Result Unit memory.Memory) →
      Stands s.world s.servers r → IsBehind s i → cluster_of s.world s.servers r ≡ c → IsCome write.question.agent write.question.asked write.question.draw c.past → IsTakenWrite c i write → enters ≡ write.entry.command
      → runs_leading c.world i ≡ true → is_ready c i ≡ true → ((asks : Command) → write.question.asked ≡ Good (Writes asks) → delayed_at c i asks ≡ None)
      → p ≡ record r { room = 4 } → number ≡ write.question.number → before ≡ seen_of s.world i → now ≡ seen_of s'.world i → agreed ≡ s'.world.agreed
      → Proposes s.world i number enters s'.world proposed → s'.servers ≡ s.servers → EndsWrite write before now i agreed proposed result p r'
      → OnOk result (HandlesNewest i write.question.agent write.question.asked write.question.draw c (cluster_of s'.world s'.servers r'))
      × OnErr result (cluster_of s'.world s'.servers r' ≡ c) × Stands s'.world s'.servers r'
  done_write s s' r p r' i write enters c before now agreed number proposed result stands behind view come taken own leads ready free prepared n was seen known made same ends =
      let command = taken.command in
      let Goal : Cluster → List Server → Type 0 = λ d ss.
      OnOk result (HandlesNewest i write.question.agent write.question.asked write.question.draw d (cluster_of s'.world ss r')) × OnErr result (cluster_of s'.world ss r' ≡ d) × Stands s'.world ss r' in
      let is : IsProposing s.world s.servers r i write command = record {
        at = record { stands = stands; view = refl; come = subst (λ (d : Cluster). IsCome write.question.agent write.question.asked write.question.draw d.past) (sym view) come };
        copied = subst (λ (d : Cluster). IsCopied d i write.question.agent write.question.asked write.question.draw command write) (sym view) taken.copied;
        asked = taken.asked;
        taken = taken.taken;
        leads = subst (λ (d : Cluster). runs_leading d.world i ≡ true) (sym view) leads;
        ready = subst (λ (d : Cluster). is_ready d i ≡ true) (sym view) ready;
        free = subst (λ (d : Cluster). delayed_at d i taken.command ≡ None) (sym view) (free taken.command taken.asked);
        behind = let k = behind.applied in let l = behind.committed in omega arith;
      } in
      let enters_is : enters ≡ entered write.question command = own ∙ ap (λ (e : Entry). e.command) taken.copied.entry in
      subst (λ (ss : List Server). Goal c ss) (sym same) (subst (λ (d : Cluster). Goal d s.servers) view
      (ended s.world s'.world s.servers r r' i write command is proposed result
      (subst (λ (x : Command). Proposes s.world i write.question.number x s'.world proposed) enters_is (subst (λ k. Proposes s.world i k enters s'.world proposed) n made))
      (subst (λ (o : Requests). EndsWrite write (seen_of s.world i) (seen_of s'.world i) i s'.world.agreed proposed result o r') prepared
      (all_as (λ (b a : Seen) (l : Log). EndsWrite write b a i l proposed result p r') was seen known ends))))

  -- Each part of it, for a cluster that is seen so afterwards.
  pub write_handled : (s s' : Servers) (r p r' : Requests) (i : ℕ) (write : Write) (enters : Command) (c c' : Cluster) (before now : Seen) (agreed : Log) (number : ℕ) (proposed : Result Place ProposeFault) (result : Result Unit memory.Memory) →
      Stands s.world s.servers r → IsBehind s i → cluster_of s.world s.servers r ≡ c → IsCome write.question.agent write.question.asked write.question.draw c.past → IsTakenWrite c i write → enters ≡ write.entry.command
      → runs_leading c.world i ≡ true → is_ready c i ≡ true → ((asks : Command) → write.question.asked ≡ Good (Writes asks) → delayed_at c i asks ≡ None)
      → p ≡ record r { room = 4 } → number ≡ write.question.number → before ≡ seen_of s.world i → now ≡ seen_of s'.world i → agreed ≡ s'.world.agreed
      → Proposes s.world i number enters s'.world proposed → s'.servers ≡ s.servers → EndsWrite write before now i agreed proposed result p r' → cluster_of s'.world s'.servers r' ≡ c'
      → OnOk result (HandlesNewest i write.question.agent write.question.asked write.question.draw c c') × OnErr result (c' ≡ c)
  write_handled s s' r p r' i write enters c c' before now agreed number proposed result stands behind view come taken own leads ready free prepared n was seen known made same ends shown =
      let t = done_write s s' r p r' i write enters c before now agreed number proposed result stands behind view come taken own leads ready free prepared n was seen known made same ends in
      subst (λ (d : Cluster). OnOk result (HandlesNewest i write.question.agent write.question.asked write.question.draw c d) × OnErr result (d ≡ c)) shown (t.0, t.1)
