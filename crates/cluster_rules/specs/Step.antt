-- One event of a cluster. It is marked; its server catches up on what is due; then come its acts, each followed by
-- making up; then its outs join the tray. It may be cut short for lack of memory wherever something is left to do.
use Rattle.std.specs.Prelude.{◌≡◌, ◌≢◌, ℕ, suc, ◌==◌, ◌<◌, ◌⊎◌, Bool, true, false, List, [], ◌∷◌, ◌++◌, length, map, if◌then◌else◌, Option, Some, None}
use Rattle.cat_model.specs.declared.request.Asked.{Asked}
use Rattle.cat_model.specs.declared.request.Asked.TheVariants.{Good}
use Rattle.cat_model.specs.declared.request.Request.TheVariants.{Agent}
use Rattle.cat_model.specs.declared.request.Draw.{Draw}
use Rattle.cat_model.specs.declared.request.Event.{Event}
use Rattle.cat_model.specs.declared.request.Event.TheVariants as event
use Rattle.cat_model.specs.declared.reply.Mark.{Mark}
use Rattle.cat_model.specs.declared.reply.Mark.TheVariants as mark
use Rattle.cat_model.specs.declared.reply.Refusal.{Refusal}
use Rattle.raft_model.specs.Node.{set_server}
use Rattle.raft_model.specs.Rules.{Input, Timeout, Beat, Receive}
use Rattle.raft_model.specs.Step.{Forgets}
use Rattle.raft_model.specs.World.{World, Packet, WorldStep, numbered, Acts as NodeActs}
use Rattle.raft_model.specs.World as world
use Rattle.cluster_rules.specs.Cluster.{Ended, Pending, Cluster, no_server, node_of, seated}
use Rattle.cluster_rules.specs.Due.{Work, did, due, IsDue, Works, IsMadeUp}
use Rattle.cluster_rules.specs.Requests.{Way, Answers, Goes, way, way_of, asked_server, moved_with, moved, refused, Handles}
use Rattle.cluster_rules.specs.Proposals.{Tends, Syncs, did_own, sync_of, agent_did, is_agents, synced}

-- how many events there were, by their marks
abbrev pub events_in : List Mark → ℕ
events_in [] = 0
events_in (mark.Asked number agent asked draw ∷ past) = suc (events_in past)
events_in (mark.Made event ∷ past) = suc (events_in past)
events_in (other ∷ past) = events_in past

-- server i restarted: it has applied nothing, and the requests that it holds are to be closed
abbrev pub ended : ℕ → ℕ → Pending → Pending
ended i event h = if h.server == i then record h { stand = Ended event } else h

-- server i begins anew, in the event that was marked last
abbrev pub begun_anew : ℕ → Cluster → Cluster
begun_anew i c = record c { servers = set_server c.servers i no_server; held = map (ended i (events_in c.past)) c.held }

-- what a node is given by an event that is no request
abbrev pub received : ℕ → Option Packet → Option Input
received i None = None
received i (Some p) = if p.to == i then Some (Receive p.from p.message) else None

-- the input that an event gives node i, if it gives one
abbrev pub input_of : World → ℕ → Event → Option Input
input_of w i (event.Timeout s) = if s == i then Some Timeout else None
input_of w i (event.Beat s) = if s == i then Some Beat else None
input_of w i (event.Deliver k) = received i (numbered k w.bag.packets)
input_of w i other = None

-- One act of an event at its server, of which `n` are done. A tick has a second one, in which the server proposes what
-- is due by its clock.
pub data Acts (n : ℕ) (c : Cluster) (i : ℕ) (made : Event) (c' : Cluster) : Type 0 where
  takes : (input : Input) (w' : World) → n ≡ 0 → input_of c.world i made ≡ Some input → NodeActs c.world i input w' → c' ≡ seated c.world i (moved i w' c) → Acts n c i made c'
  ticks : (ms : ℕ) (w' : World) → n ≡ 0 → made ≡ event.Tick i ms → WorldStep c.world (world.Ticks i ms) w' → c' ≡ moved i w' c → Acts n c i made c'
  arms : (nth : ℕ) (w' : World) → n ≡ 0 → made ≡ event.FailKeep i nth → WorldStep c.world (world.Arms i nth) w' → c' ≡ moved i w' c → Acts n c i made c'
  -- a restart that fails leaves the server halted, also where it was halted before
  restarts : (w' : World) → n ≡ 0 → made ≡ event.Restart i → WorldStep c.world (world.Restarts i) w' → c' ≡ begun_anew i (moved_with (node_of w' i).halted i w' c) → Acts n c i made c'
  handles : (agent : ℕ) (asked : Asked) (draw : Draw) → n ≡ 0 → made ≡ event.Ask agent asked draw → way c.world (asked_server (length c.servers) agent) asked ≡ Some (Goes i) →
      Handles c i (record { number = c.asked; agent = agent; asked = asked; draw = draw }) c' → Acts n c i made c'
  tends : (ms : ℕ) (whole : Bool) → n ≡ 1 → made ≡ event.Tick i ms → Tends i c c' whole → Acts n c i made c'
  syncs : (a : ℕ) (whole : Bool) → n ≡ 0 → sync_of c made ≡ Some a → way_of c.world (asked_server (length c.servers) a) false ≡ Goes i → Syncs i a (did_own made) (agent_did made c) c' whole → Acts n c i made c'

-- how many acts an event has
abbrev pub acts_of : Event → ℕ
acts_of (event.Tick s ms) = 2
acts_of other = 1

-- The act found the memory that it needed: it left no node with a term that it had just saved, and proposed all that it
-- had to.
abbrev pub Remembers : {n : ℕ} {c : Cluster} {i : ℕ} {made : Event} {c' : Cluster} → Acts n c i made c' → Type 0
Remembers (takes input w' z is acts e) = acts.outcome ≢ Forgets
Remembers (tends ms whole z is t) = whole ≡ true
Remembers (syncs a whole z is goes y) = whole ≡ true
Remembers other = Unit {0}

-- An act is cut short where something is still due once its works stop, or where it forgot.
abbrev pub IsShort : {n : ℕ} {c : Cluster} {i : ℕ} {made : Event} {c₁ : Cluster} → Acts n c i made c₁ → Cluster → Type 0
IsShort {i = i} a c' = (due i c' ≢ None) ⊎ ¬ Remembers a

-- The acts of an event from the one numbered n on, to the end (true) or cut short (false).
pub data Does (i : ℕ) (made : Event) : ℕ → Cluster → Cluster → Bool → Type 0 where
  over : {n : ℕ} {c : Cluster} → n ≡ acts_of made → Does i made n c c true
  act : {n : ℕ} {c c' : Cluster} {whole : Bool} (c₁ c₂ : Cluster) (a : Acts n c i made c₁) → Remembers a → IsMadeUp i c₁ c₂ → Does i made (suc n) c₂ c' whole → Does i made n c c' whole
  cut : {n : ℕ} {c c' : Cluster} (c₁ : Cluster) (a : Acts n c i made c₁) → Works i c₁ c' → IsShort a c' → Does i made n c c' false
  cut_between : {n : ℕ} {c : Cluster} → 0 < n → n < acts_of made → Does i made n c c false

-- where a request goes, as a server
abbrev pub goes : Option Way → Option ℕ
goes None = None
goes (Some (Answers why)) = None
goes (Some (Goes i)) = Some i

-- the server to which a message goes
abbrev pub receiver : Option Packet → Option ℕ
receiver None = None
receiver (Some p) = Some p.to

-- the server to which an agent's sync goes
abbrev pub sync_goes : Cluster → Option ℕ → Option ℕ
sync_goes c None = None
sync_goes c (Some a) = goes (Some (way_of c.world (asked_server (length c.servers) a) false))

-- the server of an event
abbrev pub goes_to : Cluster → Event → Option ℕ
goes_to c (event.Timeout s) = Some s
goes_to c (event.Beat s) = Some s
goes_to c (event.Tick s ms) = Some s
goes_to c (event.Deliver k) = receiver (numbered k c.world.bag.packets)
goes_to c (event.Drop k) = None
goes_to c (event.Restart s) = Some s
goes_to c (event.FailKeep s nth) = Some s
goes_to c (event.Ask agent (Good (Agent op)) draw) = sync_goes c (sync_of c (event.Ask agent (Good (Agent op)) draw))
goes_to c (event.Ask agent asked draw) = goes (way c.world (asked_server (length c.servers) agent) asked)
goes_to c (event.Sync agent) = sync_goes c (sync_of c (event.Sync agent))
goes_to c (event.AgentTick agent ms) = sync_goes c (sync_of c (event.AgentTick agent ms))

-- An event that goes to no server: the loss of a message, a request that is answered at once, or an agent's event without
-- a sync, or with one that finds no leader.
pub data Passes (c : Cluster) (made : Event) (c' : Cluster) : Type 0 where
  loses : (k : ℕ) (w' : World) → made ≡ event.Drop k → WorldStep c.world (world.Drops k) w' → c' ≡ record c { world = w' } → Passes c made c'
  replies : (agent : ℕ) (asked : Asked) (draw : Draw) (why : Refusal) → made ≡ event.Ask agent asked draw → way c.world (asked_server (length c.servers) agent) asked ≡ Some (Answers why) →
      c' ≡ refused (record { number = c.asked; agent = agent; asked = asked; draw = draw }) why c → Passes c made c'
  stays : is_agents made ≡ true → sync_of c made ≡ None → c' ≡ agent_did made c → Passes c made c'
  leaderless : (a : ℕ) (why : Refusal) → is_agents made ≡ true → sync_of c made ≡ Some a → way_of c.world (asked_server (length c.servers) a) false ≡ Answers why → c' ≡ synced a None (agent_did made c) → Passes c made c'

-- the mark of an event, whatever it is
abbrev pub noted : Event → Cluster → Cluster
noted made c = record c { past = mark.Made made ∷ c.past }

-- the mark of an event; a request takes its number
abbrev pub marked : Event → Cluster → Cluster
marked (event.Ask agent asked draw) c = record c { asked = suc c.asked; past = mark.Asked (suc c.asked) agent asked draw ∷ c.past }
marked other c = noted other c

-- the outs of an event join the tray
abbrev pub shelved : Cluster → Cluster
shelved c = record c { tray = c.tray ++ c.fresh; fresh = [] }

-- A step. Where it is not whole, it was cut short for lack of memory. An event that changed nothing is no step.
pub data ClusterStep (c : Cluster) (made : Event) (c' : Cluster) (whole : Bool) : Type 0 where
  done : (i : ℕ) (c₁ c₂ : Cluster) → IsMadeUp i (marked made c) c₁ → Does i made 0 c₁ c₂ whole → c' ≡ shelved c₂ → ClusterStep c made c' whole
  passed : (c₁ : Cluster) → whole ≡ true → Passes (marked made c) made c₁ → c' ≡ shelved c₁ → ClusterStep c made c' whole
  -- cut while it caught up on what was due before: a request takes no number
  cut_early : (i : ℕ) (w : Work) (c₁ : Cluster) → whole ≡ false → goes_to c made ≡ Some i → IsDue i (noted made c) w → Works i (did i w (noted made c)) c₁ → c' ≡ shelved c₁ → ClusterStep c made c' whole
