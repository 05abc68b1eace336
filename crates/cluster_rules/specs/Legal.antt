-- When a reply is legal in the cluster in which it is made, and what a held request waits for where nothing is due.
use Rattle.std.specs.Prelude.{◌≡◌, ◌≢◌, ℕ, suc, ◌<◌, ◌≤◌, nat_le, ◌&&◌, Bool, true, false, List, length, Some, None}
use Rattle.cat_model.specs.declared.command.Command.{Command}
use Rattle.cat_model.specs.declared.request.Asked.{Asked}
use Rattle.cat_model.specs.declared.request.Asked.TheVariants.{Good}
use Rattle.cat_model.specs.declared.request.Event.{Event}
use Rattle.cat_model.specs.declared.request.Request.TheVariants.{Execute, Write, Renew, Agent}
use Rattle.cat_model.specs.declared.request.AgentOp.{AgentOp}
use Rattle.cat_model.specs.declared.request.Mode.TheVariants.{Default}
use Rattle.cat_model.specs.declared.request.Event.TheVariants as event
use Rattle.cat_model.specs.declared.reply.Kind.{Kind}
use Rattle.cat_model.specs.declared.reply.Kind.TheVariants.{Acked, At, Seen, Local, Delayed, Refused}
use Rattle.cat_model.specs.declared.reply.Refusal.{Refusal}
use Rattle.cat_model.specs.declared.reply.Refusal.TheVariants as refusal
use Rattle.cat_model.specs.Indexes.{index_of}
use Rattle.cat_model.specs.Log.{commands_of}
use Rattle.cat_model.specs.LogLimits.{log_bytes}
use Rattle.raft_model.specs.Log.{term_at, last_term}
use Rattle.raft_model.specs.Rules.{has_room, is_confirmed}
use Rattle.cluster_rules.specs.Replies.{Question, came, entered}
use Rattle.cluster_rules.specs.Lasting.{IsRead, Lasting}
use Rattle.cluster_rules.specs.Cluster.{Stand, AtPlace, InRound, ForIndex, Ended, Pending, Cluster, node_of, applied_of, clock_of, agent_of, until_at, knows, contact_of}
use Rattle.cluster_rules.specs.Agents.{Agent as AgentRows, change, unknown, agent_body}
use Rattle.cluster_rules.specs.Proposals.{kind_told}
use Rattle.cluster_rules.specs.Due.{Work, Replies, Holds, Closes, Applies, did, waiting, Works, none, work}
use Rattle.cluster_rules.specs.Requests.{Answers, Goes, way, asked_server, is_ready, is_stale_read, delayed_at, log_with, moved, Handles, unready, full, proposes, stops, delays, probes, reads, renews}
use Rattle.cluster_rules.specs.Step.{Acts, takes, ticks, arms, restarts, handles, tends, syncs, Does, over, act, cut, cut_between, Passes, loses, replies, stays, leaderless, noted, marked, ClusterStep, done, passed, cut_early}
use Rattle.cluster_rules.specs.Sound.{IsAmong}

-- What an index query that waits here allows: its index at all that the server has applied, above the one given or
-- once the wait is over; or a refusal, where it is new and 4,096 wait already.
abbrev pub AllowsIndex : Cluster → ℕ → Asked → ℕ → Bool → Kind → Type 0
AllowsIndex c i asked deadline looked (At mode prefix index clock deadline') =
    (prefix ≡ length (applied_of c i)) × (clock ≡ clock_of c.world i) × (deadline' ≡ deadline)
AllowsIndex c i (Good (Execute name limit mode)) deadline looked (Seen by prefix) = (prefix ≡ length (applied_of c i)) × (by ≡ mode)
AllowsIndex c i asked deadline looked (Refused (refusal.TooMany n)) =
    (n ≡ waiting i c.held) × (4096 ≤ n) × (looked ≡ false)
    × IsRead asked (λ query mode least. (index_of query (commands_of (applied_of c i)) ≤ least) × (clock_of c.world i < deadline))
AllowsIndex c i asked deadline looked (Refused (refusal.Halted s)) = (s ≡ i) × ((node_of c.world i).halted ≡ true)
AllowsIndex c i asked deadline looked kind = ⊥

-- the answers that a held request may get, by what it waits for
abbrev pub Allows : Cluster → ℕ → Asked → Stand → Kind → Type 0
Allows c i asked (AtPlace index term) (Acked position) = (position ≡ index) × (index ≤ length (applied_of c i)) × (term_at index (applied_of c i) ≡ term)
Allows c i asked (AtPlace index term) (Refused (refusal.Lost old found)) =
    (old ≡ term) × (index ≤ length (applied_of c i)) × (found ≡ term_at index (applied_of c i)) × (old ≢ found)
Allows c i asked (AtPlace index term) (Refused (refusal.Halted s)) = (s ≡ i) × ((node_of c.world i).halted ≡ true)
Allows c i asked (InRound round deadline) (Refused (refusal.Lost old found)) = (old ≡ round.term) × (found ≡ (node_of c.world i).term) × (old < found)
Allows c i asked (InRound round deadline) (Refused (refusal.Halted s)) = (s ≡ i) × ((node_of c.world i).halted ≡ true)
Allows c i asked (ForIndex deadline looked) kind = AllowsIndex c i asked deadline looked kind
Allows c i asked stand kind = ⊥

-- why server i gives the request an answer of this kind
pub data Cause (c : Cluster) (i : ℕ) (q : Question) (kind : Kind) : Type 0 where
  waited : (h : Pending) → IsAmong h c.held → h.question ≡ q → h.server ≡ i → Allows c i q.asked h.stand kind → Cause c i q kind
  at_once : (why : Refusal) → kind ≡ Refused why → way c.world (asked_server (length c.servers) q.agent) q.asked ≡ Some (Answers why) → Cause c i q kind
  not_ready : kind ≡ Refused (refusal.NotReady (node_of c.world i).term (last_term (applied_of c i))) → way c.world (asked_server (length c.servers) q.agent) q.asked ≡ Some (Goes i) →
      is_stale_read q.asked ≡ false → is_ready c i ≡ false → Cause c i q kind
  no_room : (command : Command) → kind ≡ Refused (refusal.LogFull (length (log_with (node_of c.world i) q command)) (log_bytes (log_with (node_of c.world i) q command))) →
      way c.world (asked_server (length c.servers) q.agent) q.asked ≡ Some (Goes i) → q.asked ≡ Good (Write command) → is_ready c i ≡ true →
      has_room (node_of c.world i) q.number (entered q command) ≡ false → Cause c i q kind
  delay : (command : Command) (key : List ℕ) → kind ≡ Delayed key (until_at c i key) (clock_of c.world i) → way c.world (asked_server (length c.servers) q.agent) q.asked ≡ Some (Goes i) →
      q.asked ≡ Good (Write command) → is_ready c i ≡ true → delayed_at c i command ≡ Some key → Cause c i q kind
  renewed : (id : ℕ) → kind ≡ Seen Default (length (applied_of c i)) → way c.world (asked_server (length c.servers) q.agent) q.asked ≡ Some (Goes i) → q.asked ≡ Good (Renew id) → is_ready c i ≡ true → Cause c i q kind
  by_agent : (op : AgentOp) (g : AgentRows) → q.asked ≡ Good (Agent op) → change q.agent op (agent_of c q.agent) ≡ Some g → kind ≡ Local (agent_body q.agent op g) → Cause c i q kind
  unknown_there : (op : AgentOp) → q.asked ≡ Good (Agent op) → change q.agent op (agent_of c q.agent) ≡ None → kind ≡ Refused (refusal.NotFound (unknown op)) → Cause c i q kind
  stopped : (command : Command) → kind ≡ Refused (refusal.Halted i) → q.asked ≡ Good (Write command) → (node_of c.world i).halted ≡ true → Cause c i q kind

-- an answer of server i in this cluster
pub record IsLegal (c : Cluster) (i : ℕ) (q : Question) (kind : Kind) (known : Bool) (contact : ℕ) : Type 0 where
  pub asked : IsAmong (came q) c.past
  pub lasts : Lasting q kind c.world.agreed
  pub cause : Cause c i q kind
  pub known_is : known ≡ knows c.world i kind
  pub contact_is : contact ≡ contact_of c.world i kind

-- a work at server i is legal: an answer, a closing of a request whose server restarted, or a position that is committed
abbrev pub WorkIsLegal : Cluster → ℕ → Work → Type 0
WorkIsLegal c i (Replies q kind) = IsLegal c i q kind (knows c.world i kind) (contact_of c.world i kind)
WorkIsLegal c i (Holds h) = Unit {0}
WorkIsLegal c i (Closes number event) = (h : Pending) × IsAmong h c.held × (h.question.number ≡ number) × (h.server ≡ i) × (h.stand ≡ Ended event)
WorkIsLegal c i Applies = length (applied_of c i) < (node_of c.world i).commit

-- each thing that is done on the way is legal where it is done
abbrev pub AllLegal : (i : ℕ) (c c' : Cluster) → Works i c c' → Type 0
AllLegal i c c' none = Unit {0}
AllLegal i c c' (work w e more) = WorkIsLegal c i w × AllLegal i (did i w c) c' more

-- What a held request waits for at a server at which nothing is due: it is answered in the very event that allows it.
abbrev pub StillWaits : Cluster → ℕ → Pending → Stand → Type 0
StillWaits c i h (AtPlace index term) = length (applied_of c i) < index
StillWaits c i h (InRound round deadline) =
    ((node_of c.world i).term ≤ round.term) × ((is_confirmed (node_of c.world i) round && nat_le round.commit (length (applied_of c i))) ≡ false)
StillWaits c i h (ForIndex deadline looked) =
    IsRead h.question.asked (λ query mode least. (index_of query (commands_of (applied_of c i)) ≤ least) × (clock_of c.world i < deadline))
StillWaits c i h (Ended event) = ⊥

-- The replies of an act. A request that is refused where it arrives is refused in the cluster that it finds, one whose
-- proposal fails in the cluster that the failure leaves.
abbrev pub HandleIsLegal : (c : Cluster) (i : ℕ) (q : Question) (c' : Cluster) → Handles c i q c' → Type 0
HandleIsLegal c i q c' (unready st r e) = IsLegal c i q (Refused (refusal.NotReady (node_of c.world i).term (last_term (applied_of c i)))) false 0
HandleIsLegal c i q c' (full command w' ask free go room a e) =
    IsLegal c i q (Refused (refusal.LogFull (length (log_with (node_of c.world i) q command)) (log_bytes (log_with (node_of c.world i) q command)))) false 0
HandleIsLegal c i q c' (proposes command w' ask free go room a up e) = Unit {0}
HandleIsLegal c i q c' (stops command w' ask free go room a down e) = IsLegal (moved i w' c) i q (Refused (refusal.Halted i)) false 0
HandleIsLegal c i q c' (delays command key ask go d e) = IsLegal c i q (Delayed key (until_at c i key) (clock_of c.world i)) false 0
HandleIsLegal c i q c' (probes wait w' ask go a e) = Unit {0}
HandleIsLegal c i q c' (reads mode wait ask d go e) = Unit {0}
HandleIsLegal c i q c' (renews id ask go e) = IsLegal c i q (Seen Default (length (applied_of c i))) false 0

-- an agent's answer, in the cluster that it finds
abbrev pub AgentIsLegal : Cluster → Event → Type 0
AgentIsLegal c (event.Ask a (Good (Agent op)) draw) =
    IsLegal c (asked_server (length c.servers) a) (record { number = c.asked; agent = a; asked = Good (Agent op); draw = draw }) (kind_told a op (change a op (agent_of c a))) false 0
AgentIsLegal c other = Unit {0}

-- only a request is answered in an act
abbrev pub ActIsLegal : (n : ℕ) (c : Cluster) (i : ℕ) (made : Event) (c' : Cluster) → Acts n c i made c' → Type 0
ActIsLegal n c i made c' (takes input w' z is a e) = Unit {0}
ActIsLegal n c i made c' (ticks ms w' z is st e) = Unit {0}
ActIsLegal n c i made c' (arms nth w' z is st e) = Unit {0}
ActIsLegal n c i made c' (restarts w' z is st e) = Unit {0}
ActIsLegal n c i made c' (handles agent asked draw z is goes h) = HandleIsLegal c i (record { number = c.asked; agent = agent; asked = asked; draw = draw }) c' h
ActIsLegal n c i made c' (tends ms whole z is t) = Unit {0}
ActIsLegal n c i made c' (syncs a whole z is goes y) = AgentIsLegal c made

-- the acts of an event, and what is caught up on between them
abbrev pub DoesLegally : (i : ℕ) (made : Event) (n : ℕ) (c c' : Cluster) (whole : Bool) → Does i made n c c' whole → Type 0
DoesLegally i made n c c' whole (over e) = Unit {0}
DoesLegally i made n c c' whole (act c₁ c₂ a r m more) = ActIsLegal n c i made c₁ a × AllLegal i c₁ c₂ m.0 × DoesLegally i made (suc n) c₂ c' whole more
DoesLegally i made n c c' whole (cut c₁ a m short) = ActIsLegal n c i made c₁ a × AllLegal i c₁ c' m
DoesLegally i made n c c' whole (cut_between l k) = Unit {0}

-- a request that is answered at once
abbrev pub PassIsLegal : (c : Cluster) (made : Event) (c' : Cluster) → Passes c made c' → Type 0
PassIsLegal c made c' (loses k w' is st e) = Unit {0}
PassIsLegal c made c' (replies agent asked draw why is goes e) =
    IsLegal c (asked_server (length c.servers) agent) (record { number = c.asked; agent = agent; asked = asked; draw = draw }) (Refused why) false 0
PassIsLegal c made c' (stays own quiet e) = AgentIsLegal c made
PassIsLegal c made c' (leaderless a why own is goes e) = AgentIsLegal c made

-- each reply and closing of a step is legal where it is made
abbrev pub StepIsLegal : (c : Cluster) (made : Event) (c' : Cluster) (whole : Bool) → ClusterStep c made c' whole → Type 0
StepIsLegal c made c' whole (done i c₁ c₂ m d e) = AllLegal i (marked made c) c₁ m.0 × DoesLegally i made 0 c₁ c₂ whole d
StepIsLegal c made c' whole (passed c₁ w p e) = PassIsLegal (marked made c) made c₁ p
StepIsLegal c made c' whole (cut_early i w c₁ short for d more e) = AllLegal i (noted made c) c₁ (work w d more)
