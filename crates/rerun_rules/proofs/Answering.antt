-- Each event keeps it so that no answer tells of a server that failed or that lost its leadership.
use Rattle.std.proofs.Common.{◌≡◌, ℕ, suc, ◌<◌, ◌≤◌, inl, inr, Bool, true, false, cond, List, [], ◌∷◌, ◌++◌, length, take, Option, Some, None, refl, sym, ◌∙◌, ap, subst, arith}
use Rattle.std.specs.Prelude.{◌||◌}
use Rattle.std.proofs.Math.Seq.{take-length}
use Rattle.std.proofs.lemmas.List.{length-append}
use Rattle.cat_model.specs.declared.command.Command.{Command}
use Rattle.cat_model.specs.declared.request.AgentOp.{AgentOp}
use Rattle.cat_model.specs.declared.request.Asked.{Asked}
use Rattle.cat_model.specs.declared.request.Asked.TheVariants.{Bad, Good}
use Rattle.cat_model.specs.declared.request.Draw.{Draw}
use Rattle.cat_model.specs.declared.request.Event.{Event}
use Rattle.cat_model.specs.declared.request.Event.TheVariants as event
use Rattle.cat_model.specs.declared.request.Request.TheVariants.{Agent as OfAgent, Execute, Read, Renew, Write}
use Rattle.cat_model.specs.declared.reply.Kind.TheVariants.{Refused}
use Rattle.cat_model.specs.declared.reply.Mark.{Mark}
use Rattle.cat_model.specs.declared.reply.Mark.TheVariants as mark
use Rattle.cat_model.specs.declared.reply.Refusal.{Refusal}
use Rattle.cat_model.specs.declared.reply.Refusal.TheVariants as refusal
use Rattle.cat_model.specs.declared.reply.Role.TheVariants.{Leader}
use Rattle.cluster_rules.specs.Agents.{Agent, change, unknown}
use Rattle.raft_model.specs.Log.{term_at}
use Rattle.raft_model.specs.Node.{Node, Store}
use Rattle.raft_model.specs.Rules.{Propose, has_room, proposal, term_of}
use Rattle.raft_model.specs.World.{Acts as NodeActs, Drops, Packet, Ticks, World, WorldStep}
use Rattle.raft_model.proofs.Tests.{at_bool}
use Rattle.cluster_rules.specs.Cluster.{AtPlace, Cluster, Looked, Pending, Stand, Start, agent_of, applied_of, no_node, node_of, runs_leading}
use Rattle.cluster_rules.specs.Due.{due, work}
use Rattle.cluster_rules.specs.Proposals.{Proposals, Syncs, Tends, adopted, agent_did, breaks, breaks_off, cut_first, cut_off, did_own, enters, finds_none, idles, in_turn, looked, none_left, over_rows, plans, refuses, told, with_change, with_ends}
use Rattle.cluster_rules.specs.Reached.{AreSure, IsBegun, Move, Reached, at_start, by_advancing, by_event, by_handing, by_settling, by_taking}
use Rattle.cluster_rules.specs.Replies.{Out, Question, entered}
use Rattle.cluster_rules.specs.Requests.{Answers, Goes, Handles, asked_server, delays, full, holding, is_ready, is_stale_read, moved, probes, proposes, reads, refused, renews, stops, to_leader, unready, way, way_of}
use Rattle.cluster_rules.specs.Sound.{IsAmong}
use Rattle.cluster_rules.specs.Step.{Acts, ClusterStep, Does, Passes, act, arms, cut, cut_between, cut_early, done, handles, leaderless, loses, marked, noted, over, passed, replies, restarts, shelved, stays, syncs, takes, tends, ticks}
use Rattle.cluster_rules.proofs.Asking.{goes_leading}
use Rattle.cluster_rules.proofs.Boundary.{leading_tells}
use Rattle.cluster_rules.proofs.Entries.{entry_last, entry_term}
use Rattle.cluster_rules.proofs.Handling.{fresh_look}
use Rattle.cluster_rules.proofs.Reached.{fresh_server}
use Rattle.cluster_rules.proofs.Tools.{each_append, is_node, is_place, item_same}
use Rattle.cluster_rules.specs.Lasting.{is_stale}
use Rattle.run_rules.specs.Serving.{AreServing, Serves, Size}
use Rattle.rerun_rules.specs.Leading.{CameBad, IsForemost, TellsLoss}
use Rattle.rerun_rules.proofs.Ahead.{IsAhead, IsFirsts, IsWell, StaysAhead, acts_ahead, leader_works}
use Rattle.rerun_rules.proofs.Bags.{each_without}
use Rattle.rerun_rules.proofs.Beginning.{start_ahead}
use Rattle.rerun_rules.proofs.Finding.{way_if}
use Rattle.rerun_rules.proofs.Growing.{done_proposes}
use Rattle.rerun_rules.proofs.Keeping.{AppliesFront, IsKept, StandsWell, Tells, Where, answered_kept, leader_is, more_told, moved_kept, none_halted, office_kept, seated_kept, with_kept, works_kept}
use Rattle.rerun_rules.proofs.Serving.{MayCome, may_serve, may_take}
use Rattle.rerun_rules.proofs.Taking.{marked_world, works_world}

-- What is proposed at a leader with room stands behind its log.
proposed_log : (w : World) (i number : ℕ) (command : Command) (w' : World) → IsAhead w → runs_leading w i ≡ true → has_room (node_of w i) number command ≡ true → NodeActs w i (Propose number command) w' →
    (node_of w' i).log ≡ (node_of w i).log ++ proposal (node_of w i) number command ∷ []
proposed_log w i number command w' ahead lead room a =
    subst (λ (n : Node). (node_of w' i).log ≡ n.log ++ proposal n number command ∷ []) (sym was)
    (ap (λ (n : Node). n.log) (now ∙ leader_works a.outcome a.old (Propose number command) a.new a.sent a.step well tt leads)
    ∙ done_proposes a.old number command well.runs leads (subst (λ (n : Node). has_room n number command ≡ true) was room))
  where
    place : (0 < i) × (i ≤ length w.nodes)
    place = is_place w i a.old a.server

    was : node_of w i ≡ a.old
    was = is_node w i a.old a.server

    now : node_of w' i ≡ a.new
    now = ap (λ (z : World). node_of z i) a.becomes ∙ item_same no_node w.nodes i a.new place.0 place.1

    well : IsWell a.old
    well = subst IsWell was (ahead.well i place.0 place.1)

    leads : a.old.role ≡ Leader
    leads = subst (λ (n : Node). n.role ≡ Leader) was (leading_tells w i lead).1

-- the write that is held for it stands well
at_place : (w : World) (i number : ℕ) (command : Command) (w' : World) → IsAhead w → runs_leading w i ≡ true → has_room (node_of w i) number command ≡ true → NodeActs w i (Propose number command) w' → StaysAhead w w' →
    StandsWell (node_of w' 1) i (AtPlace (suc (length (node_of w i).log)) (node_of w i).term)
at_place w i number command w' ahead lead room a x =
    subst (λ z. StandsWell (node_of w' 1) z (AtPlace (suc (length (node_of w z).log)) (node_of w z).term)) (sym first) (
      refl,
      on.0,
      sym on.1,
      (let k = ap length log in let l = length-append (node_of w 1).log (proposal (node_of w 1) number command ∷ []) in omega arith),
      ap (term_at (suc (length (node_of w 1).log))) log
          ∙ entry_term (suc (length (node_of w 1).log)) ((node_of w 1).log ++ proposal (node_of w 1) number command ∷ []) (proposal (node_of w 1) number command) (entry_last (node_of w 1).log (proposal (node_of w 1) number command))
          ∙ sym on.1,
    )
  where
    first : i ≡ 1
    first = leader_is w ahead i lead

    on : ((node_of w' 1).role ≡ Leader) × ((node_of w' 1).term ≡ (node_of w 1).term)
    on = x.on (subst (λ z. (node_of w z).role ≡ Leader) first (leading_tells w i lead).1)

    log : (node_of w' 1).log ≡ (node_of w 1).log ++ proposal (node_of w 1) number command ∷ []
    log = subst (λ z. (node_of w' z).log ≡ (node_of w z).log ++ proposal (node_of w z) number command ∷ []) first (proposed_log w i number command w' ahead lead room a)

module _ (all : Bool) (old : List Mark) where
  holding_kept : (q : Question) (i : ℕ) (stand : Stand) (start : Start) (c : Cluster) → StandsWell (node_of c.world 1) i stand → IsKept all old c → IsKept all old (holding q i stand start c)
  holding_kept q i stand start c s k = record {
    ahead = k.ahead;
    told = k.told;
    held = each_append (λ (h : Pending). StandsWell (node_of c.world 1) h.server h.stand) c.held (record { question = q; server = i; stand = stand } ∷ []) k.held (s, tt);
    front = k.front;
  }

  starts_kept : (starts : List Start) (c : Cluster) → IsKept all old c → IsKept all old (record c { starts = starts })
  starts_kept starts c k = record { ahead = k.ahead; told = k.told; held = k.held; front = k.front }

  refused_kept : (q : Question) (why : Refusal) (c : Cluster) → (Tells all why → ⊥) → IsKept all old c → IsKept all old (refused q why c)
  refused_kept q why c n k = answered_kept all old q (Refused why) false 0 [] c (λ other e t. let same : other ≡ why = cc e in n (subst (Tells all) same t)) k

  -- server 1 is ready, if that is asked for
  abbrev pub Calm : Cluster → Type 0
  Calm c = is_ready c 1 ≡ false → Where all → ⊥

  handles_kept : (c : Cluster) (a i : ℕ) (q : Question) (c' : Cluster) → way c.world a q.asked ≡ Some (Goes i) → Handles c i q c' → (i ≡ 1 → Calm c) → IsKept all old c → IsKept all old c'
  handles_kept c a i q c' goes (unready st r e) calm k =
      let first = leader_is c.world k.ahead i (goes_leading c.world a i q.asked goes st) in
      subst (IsKept all old) (sym e) (refused_kept q _ c (λ t. calm first (subst (λ z. is_ready c z ≡ false) first r) t) k)
  handles_kept c a i q c' goes (full command w' ask free go room x e) calm k = subst (IsKept all old) (sym e) (refused_kept q _ (moved i w' c) (λ t. t) (moved_kept all old c i _ w' x tt k))
  handles_kept c a i q c' goes (proposes command w' ask free go room x up e) calm k =
      let lead = goes_leading c.world a i q.asked goes (ap is_stale_read ask) in
      subst (IsKept all old) (sym e) (holding_kept q i _ _ (moved i w' c) (at_place c.world i q.number (entered q command) w' k.ahead lead room x (acts_ahead c.world i _ w' x tt k.ahead)) (moved_kept all old c i _ w' x tt k))
  handles_kept c a i q c' goes (stops command w' ask free go room x down e) calm k = absurd (let n = none_halted w' (acts_ahead c.world i _ w' x tt k.ahead).ahead i in cc (n, down))
  handles_kept c a i q c' goes (delays command key ask go d e) calm k = subst (IsKept all old) (sym e) (answered_kept all old q _ false 0 [] c (λ why z t. absurd (cc z)) k)
  handles_kept c a i q c' goes (renews id ask go e) calm k = subst (IsKept all old) (sym e)
      (answered_kept all old q _ false 0 (applied_of c i) _ (λ why z t. absurd (cc z)) (office_kept all old i _ _ (starts_kept (Looked q.number i (length (applied_of c i)) ∷ c.starts) c k)))
  handles_kept c a i q c' goes (probes wait w' look go x e) calm k =
      let lead = goes_leading c.world a i q.asked goes (fresh_look q.asked wait look) in
      let first = leader_is c.world k.ahead i lead in
      let on = (acts_ahead c.world i _ w' x tt k.ahead).on (subst (λ z. (node_of c.world z).role ≡ Leader) first (leading_tells c.world i lead).1) in
      subst (IsKept all old) (sym e) (holding_kept q i _ _ (moved i w' c) (first, on.0, ap (λ z. (node_of c.world z).term) first ∙ sym on.1) (moved_kept all old c i _ w' x tt k))
  handles_kept c a i q c' goes (reads mode wait look d go e) calm k = subst (IsKept all old) (sym e) (holding_kept q i _ _ c tt k)

  proposals_kept : (i : ℕ) (commands : List Command) (c : Cluster) (n : ℕ) (c' : Cluster) (whole : Bool) → Proposals i commands c n c' whole → IsKept all old c → IsKept all old c'
  proposals_kept i commands c n c' whole none_left k = k
  proposals_kept i commands c n c' whole breaks k = k
  proposals_kept i (command ∷ commands) c n c' whole (enters {n = m} w' lead room a up more) k = proposals_kept i commands (moved i w' c) m c' whole more (moved_kept all old c i _ w' a tt k)
  proposals_kept i (command ∷ commands) c n c' whole (refuses w' lead a why) k = moved_kept all old c i _ w' a tt k

  tends_kept : (i : ℕ) (c c' : Cluster) (whole : Bool) → Tends i c c' whole → IsKept all old c → IsKept all old c'
  tends_kept i c c' whole (idles lead e) k = subst (IsKept all old) (sym e) k
  tends_kept i c c' whole (in_turn n m c₁ c₂ lead p r e) k =
      subst (IsKept all old) (sym e) (proposals_kept i _ (looked i (with_ends i (take n (over_rows c i)) c₁)) m c₂ whole r (office_kept all old i _ _ (office_kept all old i _ c₁ (proposals_kept i _ c n c₁ true p k))))
  tends_kept i c c' whole (cut_off n c₁ lead p e) k = subst (IsKept all old) (sym e) (office_kept all old i _ c₁ (proposals_kept i _ c n c₁ false p k))

  -- What is no part of it.
  agents_kept : (agents : List Agent) (c : Cluster) → IsKept all old c → IsKept all old (record c { agents = agents })
  agents_kept agents c k = record { ahead = k.ahead; told = k.told; held = k.held; front = k.front }

  told_kept : (c : Cluster) (q : Question) (op : AgentOp) (g : Option Agent) → IsKept all old c → IsKept all old (told q op g c)
  told_kept c q op None k = answered_kept all old q _ false 0 [] c (λ why e t. let same : why ≡ refusal.NotFound (unknown op) = cc e in subst (Tells all) same t) k
  told_kept c q op (Some g) k = answered_kept all old q _ false 0 [] (with_change q.agent (Some g) c) (λ why e t. absurd (cc e)) (agents_kept _ c k)

  agent_kept : (c : Cluster) (made : Event) → IsKept all old c → IsKept all old (agent_did made c)
  agent_kept c (event.AgentTick a ms) k = agents_kept _ c k
  agent_kept c (event.Ask a (Good (OfAgent op)) draw) k = told_kept c (record { number = c.asked; agent = a; asked = Good (OfAgent op); draw = draw }) op (change a op (agent_of c a)) k
  agent_kept c other k = k

  syncs_kept : (i a : ℕ) (own : Bool) (c c' : Cluster) (whole : Bool) → Syncs i a own c c' whole → IsKept all old c → IsKept all old c'
  syncs_kept i a own c c' whole (finds_none r e) k = subst (IsKept all old) (sym e) (record { ahead = k.ahead; told = k.told; held = k.held; front = k.front })
  syncs_kept i a own c c' whole (plans n c₁ r p e) k = let x = proposals_kept i _ (adopted a i c) n c₁ true p (agents_kept _ c k) in subst (IsKept all old) (sym e) (record { ahead = x.ahead; told = x.told; held = x.held; front = x.front })
  syncs_kept i a own c c' whole (breaks_off n some r p) k = proposals_kept i _ (adopted a i c) n c' false p (agents_kept _ c k)
  syncs_kept i a own c c' whole (cut_first mine r e) k = subst (IsKept all old) (sym e) k

  -- a clock goes on, or a message is lost
  tick_ahead : (w : World) (i ms : ℕ) (w' : World) → WorldStep w (Ticks i ms) w' → IsAhead w → StaysAhead w w'
  tick_ahead w i ms w' (old, at, e) a = subst (StaysAhead w) (sym e)
      (record { ahead = record { well = a.well; follow = a.follow; told = a.told; appends = a.appends; led = a.led }; count = refl; grows = take-length (node_of w 1).log; on = λ r. (r, refl); holds = λ i p l d e. e })

  loss_ahead : (w : World) (k : ℕ) (w' : World) → WorldStep w (Drops k) w' → IsAhead w → StaysAhead w w'
  loss_ahead w k w' (p, n, e) a = subst (StaysAhead w) (sym e)
      (record {
        ahead = record {
          well = a.well;
          follow = a.follow;
          told = each_without (λ (x : Packet). term_of x.message ≤ (node_of w 1).term) k w.bag.packets a.told;
          appends = each_without (λ (x : Packet). IsFirsts (node_of w 1) x.from x.message) k w.bag.packets a.appends;
          led = a.led;
        };
        count = refl;
        grows = take-length (node_of w 1).log;
        on = λ r. (r, refl);
        holds = λ i p l d e. e;
      })

  acts_kept : (n : ℕ) (c : Cluster) (i : ℕ) (made : Event) (c' : Cluster) → Acts n c i made c' → MayCome made → (n ≡ 0 → i ≡ 1 → Calm c) → IsKept all old c → IsKept all old c'
  acts_kept n c i made c' (takes input w' z is a e) m calm k = subst (IsKept all old) (sym e) (seated_kept all old c.world i (moved i w' c) (moved_kept all old c i input w' a (may_take c.world i made input m is k.ahead) k))
  acts_kept n c i made c' (ticks ms w' z is st e) m calm k = subst (IsKept all old) (sym e) (with_kept all old _ i w' c (tick_ahead c.world i ms w' st k.ahead) k)
  acts_kept n c i made c' (arms nth w' z is st e) m calm k = absurd (subst MayCome is m)
  acts_kept n c i made c' (restarts w' z is st e) m calm k = absurd (subst MayCome is m)
  acts_kept n c i made c' (handles agent asked draw z is goes h) m calm k = handles_kept c (asked_server (length c.servers) agent) i (record { number = c.asked; agent = agent; asked = asked; draw = draw }) c' goes h (λ e. calm z e) k
  acts_kept n c i made c' (tends ms whole z is t) m calm k = tends_kept i c c' whole t k
  acts_kept n c i made c' (syncs a whole z is goes y) m calm k = syncs_kept i a (did_own made) (agent_did made c) c' whole y (agent_kept c made k)

  does_kept : (i : ℕ) (made : Event) (n : ℕ) (c c' : Cluster) (whole : Bool) → Does i made n c c' whole → MayCome made → (n ≡ 0 → i ≡ 1 → Calm c) → IsKept all old c → IsKept all old c'
  does_kept i made n c c' whole (over e) m calm k = k
  does_kept i made n c c' whole (act c₁ c₂ a r up more) m calm k = does_kept i made (suc n) c₂ c' whole more m (λ z. absurd (omega arith)) (works_kept all old i c₁ c₂ up.0 (acts_kept n c i made c₁ a m calm k))
  does_kept i made n c c' whole (cut c₁ a works short) m calm k = works_kept all old i c₁ c' works (acts_kept n c i made c₁ a m calm k)
  does_kept i made n c c' whole (cut_between l u) m calm k = k

  -- one mark more, which answers nothing
  mark_kept : (m : Mark) (c : Cluster) (asked : ℕ) → ((number : ℕ) (why : Refusal) (known : Bool) (contact : ℕ) → mark.Answered number (Refused why) known contact ≡ m → ⊥) → IsKept all old c → IsKept all old (record c { asked = asked; past = m ∷ c.past })
  mark_kept m c asked n k = record { ahead = k.ahead; told = more_told all old m c.past (λ number why known contact e t. absurd (n number why known contact e)) k.told; held = k.held; front = k.front }

  noted_kept : (made : Event) (c : Cluster) → IsKept all old c → IsKept all old (noted made c)
  noted_kept made c k = mark_kept (mark.Made made) c c.asked (λ number why known contact e. cc e) k

  marked_kept : (made : Event) (c : Cluster) → IsKept all old c → IsKept all old (marked made c)
  marked_kept (event.Ask agent asked draw) c k = mark_kept (mark.Asked (suc c.asked) agent asked draw) c (suc c.asked) (λ number why known contact e. cc e) k
  marked_kept (event.Timeout s) c k = noted_kept (event.Timeout s) c k
  marked_kept (event.Beat s) c k = noted_kept (event.Beat s) c k
  marked_kept (event.Tick s ms) c k = noted_kept (event.Tick s ms) c k
  marked_kept (event.Deliver j) c k = noted_kept (event.Deliver j) c k
  marked_kept (event.Drop j) c k = noted_kept (event.Drop j) c k
  marked_kept (event.Restart s) c k = noted_kept (event.Restart s) c k
  marked_kept (event.FailKeep s nth) c k = noted_kept (event.FailKeep s nth) c k
  marked_kept (event.Sync a) c k = noted_kept (event.Sync a) c k
  marked_kept (event.AgentTick a ms) c k = noted_kept (event.AgentTick a ms) c k

  -- What is answered at once: no server is halted, so a loss is told to a request alone that came with it.
  leader_loss : (w : World) (a : ℕ) (o : Option ℕ) (why : Refusal) → to_leader w a o ≡ Answers why → Tells all why → ⊥
  leader_loss w a None why e t = let same : why ≡ refusal.NoLeader (node_of w a).term (node_of w a).role None = cc e in subst (Tells all) same t
  leader_loss w a (Some l) why e t = at_bool (λ b. cond b (Goes l) (Answers (refusal.NoLeader (node_of w a).term (node_of w a).role (Some (record { server = l; term = (node_of w l).term; role = (node_of w l).role })))) ≡ Answers why → ⊥) (runs_leading w l)
      (λ _ e. cc e)
      (λ _ e. let same : why ≡ refusal.NoLeader (node_of w a).term (node_of w a).role (Some (record { server = l; term = (node_of w l).term; role = (node_of w l).role })) = cc e in subst (Tells all) same t) e

  way_of_loss : (w : World) (a : ℕ) (stale : Bool) (why : Refusal) → IsAhead w → Some (way_of w a stale) ≡ Some (Answers why) → Tells all why → ⊥
  way_of_loss w a stale why ahead e t =
      let same : way_of w a stale ≡ Answers why = cc e in
      at_bool (λ b. cond b (Goes a) (to_leader w a (node_of w a).leader) ≡ Answers why → ⊥) (stale || runs_leading w a)
      (λ _ e. cc e) (λ _ e. leader_loss w a (node_of w a).leader why e t) (sym (way_if w a stale (none_halted w ahead a)) ∙ same)

  way_loss : (w : World) (a : ℕ) (asked : Asked) (why : Refusal) → IsAhead w → way w a asked ≡ Some (Answers why) → Tells all why → asked ≡ Bad why
  way_loss w a (Bad other) why ahead e t = let same : other ≡ why = cc e in ap (λ z. Bad z) same
  way_loss w a (Good (Read query mode least wait raw)) why ahead e t = absurd (way_of_loss w a (is_stale mode) why ahead e t)
  way_loss w a (Good (Write command)) why ahead e t = absurd (way_of_loss w a false why ahead e t)
  way_loss w a (Good (Execute name limit mode)) why ahead e t = absurd (way_of_loss w a (is_stale mode) why ahead e t)
  way_loss w a (Good (Renew id)) why ahead e t = absurd (way_of_loss w a false why ahead e t)
  way_loss w a (Good (OfAgent op)) why ahead e t = absurd (cc e)

  -- the request of this event is marked
  abbrev IsMarked : Event → Cluster → Type 0
  IsMarked made c = (agent : ℕ) (asked : Asked) (draw : Draw) → made ≡ event.Ask agent asked draw → IsAmong (mark.Asked c.asked agent asked draw) c.past

  is_marked : (made : Event) (c : Cluster) → IsMarked made (marked made c)
  is_marked made c agent asked draw e = subst (λ (m : Event). IsAmong (mark.Asked (marked m c).asked agent asked draw) (marked m c).past) (sym e) (inl refl)

  at_once_kept : (c : Cluster) (a : ℕ) (q : Question) (why : Refusal) → way c.world a q.asked ≡ Some (Answers why) → IsAmong (mark.Asked q.number q.agent q.asked q.draw) c.past → IsKept all old c → IsKept all old (refused q why c)
  at_once_kept c a q why goes m k =
      let x = answered_kept all old q (Refused (refusal.TooMany 0)) false 0 [] c (λ other e t. let same : other ≡ refusal.TooMany 0 = cc e in subst (Tells all) same t) k in
      record {
        ahead = k.ahead;
        told = more_told all old (mark.Answered q.number (Refused why) false 0) c.past (λ number other known contact e t.
            let n : number ≡ q.number = cc e in let r : other ≡ why = cc e in
            let bad = way_loss c.world a q.asked why k.ahead goes (subst (Tells all) r t) in
            subst (λ z. CameBad z other (mark.Answered q.number (Refused why) false 0 ∷ c.past)) (sym n)
            (subst (λ z. CameBad q.number z (mark.Answered q.number (Refused why) false 0 ∷ c.past)) (sym r)
            (q.agent, q.draw, inr (subst (λ z. IsAmong (mark.Asked q.number q.agent z q.draw) c.past) bad m)))) k.told;
        held = x.held;
        front = k.front;
      }

  passes_kept : (c : Cluster) (made : Event) (c' : Cluster) → Passes c made c' → IsMarked made c → IsKept all old c → IsKept all old c'
  passes_kept c made c' (loses j w' is st e) m k =
      let x = with_kept all old false 1 w' c (loss_ahead c.world j w' st k.ahead) k in subst (IsKept all old) (sym e) (record { ahead = x.ahead; told = k.told; held = x.held; front = x.front })
  passes_kept c made c' (replies agent asked draw why is goes e) m k =
      subst (IsKept all old) (sym e) (at_once_kept c (asked_server (length c.servers) agent) (record { number = c.asked; agent = agent; asked = asked; draw = draw }) why goes (m agent asked draw is) k)
  passes_kept c made c' (stays own free e) m k = subst (IsKept all old) (sym e) (agent_kept c made k)
  passes_kept c made c' (leaderless a why own is goes e) m k = let x = agent_kept c made k in subst (IsKept all old) (sym e) (record { ahead = x.ahead; told = x.told; held = x.held; front = x.front })

  shelved_kept : (c c' : Cluster) → c' ≡ shelved c → IsKept all old c → IsKept all old c'
  shelved_kept c c' e k = subst (IsKept all old) (sym e) (record { ahead = k.ahead; told = k.told; held = k.held; front = k.front })

  -- it is ready where it has caught up
  abbrev pub IsCalm : World → Type 0
  IsCalm w = (c : Cluster) → c.world ≡ w → IsKept all old c → due 1 c ≡ None → Calm c

  pub step_kept : (c c' : Cluster) (made : Event) (whole : Bool) → ClusterStep c made c' whole → MayCome made → IsCalm c.world → IsKept all old c → IsKept all old c'
  step_kept c c' made whole (done i c₁ c₂ up d e) m calm k =
      let x = works_kept all old i (marked made c) c₁ up.0 (marked_kept made c k) in
      shelved_kept c₂ c' e (does_kept i made 0 c₁ c₂ whole d m (λ _ q. calm c₁ (works_world i (marked made c) c₁ up.0 ∙ marked_world made c) x (subst (λ z. due z c₁ ≡ None) q up.1)) x)
  step_kept c c' made whole (passed c₁ w p e) m calm k = shelved_kept c₁ c' e (passes_kept (marked made c) made c₁ p (is_marked made c) (marked_kept made c k))
  step_kept c c' made whole (cut_early i w c₁ short for d more e) m calm k = shelved_kept c₁ c' e (works_kept all old i (noted made c) c₁ (work w d more) (noted_kept made c k))

  pub taken_kept : (number : ℕ) (tray : List Out) (c : Cluster) → IsKept all old c → IsKept all old (record c { tray = tray; past = mark.Taken number ∷ c.past })
  taken_kept number tray c k = let x = mark_kept (mark.Taken number) c c.asked (λ number why known contact e. cc e) k in record { ahead = x.ahead; told = x.told; held = x.held; front = x.front }

  pub handed_kept : (tray : List Out) (c : Cluster) → IsKept all old c → IsKept all old (record c { tray = tray })
  handed_kept tray c k = record { ahead = k.ahead; told = k.told; held = k.held; front = k.front }

  pub settled_kept : (pairs : ℕ) (whole : Bool) (c : Cluster) → IsKept all old c → IsKept all old (record c { past = mark.Settled pairs whole ∷ c.past })
  settled_kept pairs whole c k = mark_kept (mark.Settled pairs whole) c c.asked (λ number why known contact e. cc e) k

-- No answer tells a loss.
pub run_kept : (start : Cluster) (whole : Bool) (moves : List Move) (c : Cluster) → Reached start whole moves c → AreServing moves → IsKept false [] start → IsKept false [] c
run_kept start whole moves c at_start s k = k
run_kept start whole moves c (by_event {whole = w} {moves = ms} {c = c₀} made all r fits step) s k = step_kept false [] c₀ c made all step (may_serve made ms s.0) (λ _ _ _ _ _ t. t) (run_kept start w ms c₀ r s.1 k)
run_kept start whole moves c (by_taking {whole = w} {moves = ms} {c = c₀} number out before after r is there) s k = taken_kept false [] number (before ++ after) c₀ (run_kept start w ms c₀ r s.1 k)
run_kept start whole moves c (by_handing {whole = w} {moves = ms} {c = c₀} out before after r is there) s k = handed_kept false [] (before ++ after) c₀ (run_kept start w ms c₀ r s k)
run_kept start whole moves c (by_settling {whole = w} {moves = ms} {c = c₀} pairs all r ends) s k = settled_kept false [] pairs all c₀ (run_kept start w ms c₀ r s.1 k)
run_kept start whole moves c (by_advancing ms made r ends) s k = absurd s.0

pub start_kept : (ss : List Store) (c : Cluster) → IsBegun ss c → IsAhead c.world → IsKept false [] c
start_kept ss c b a = subst (IsKept false []) (sym b.is) (record {
  ahead = subst (λ (z : Cluster). IsAhead z.world) b.is a;
  told = λ number why known contact m t. absurd m;
  held = tt;
  front = subst (AppliesFront (node_of b.world 1)) (sym (fresh_server (length b.world.nodes) 1)) refl;
})

tells_loss : (why : Refusal) → TellsLoss why → Tells false why
tells_loss (refusal.Halted server) t = tt
tells_loss (refusal.Lost old found) t = tt
tells_loss other t = absurd t

pub none_lost : (size : Size) (c : Cluster) → AreSure size.stores → IsForemost size.stores → Serves size c → (number : ℕ) (why : Refusal) (known : Bool) (contact : ℕ) → IsAmong (mark.Answered number (Refused why) known contact) c.past → TellsLoss why → CameBad number why c.past
none_lost size c sure first s number why known contact m t =
    elim ((run_kept s.start s.whole s.moves c s.reached s.serving (start_kept size.stores s.start s.begins (start_ahead size.stores s.start s.begins sure first))).told number why known contact m (tells_loss why t)) [
      | inl b ↦ b
      | inr o ↦ absurd o
    ]
