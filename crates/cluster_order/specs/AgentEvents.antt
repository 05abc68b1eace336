-- Agents' events: what an agent does by itself, and its sync at the server to which that goes.
use Rattle.std.specs.Prelude.{◌≡◌, ◌≢◌, ◌⊎◌, ℕ, Bool, true, false, List, length, Some, None}
use Rattle.cat_model.specs.declared.request.Asked.{Asked}
use Rattle.cat_model.specs.declared.request.Asked.TheVariants.{Good}
use Rattle.cat_model.specs.declared.request.Event.{Event}
use Rattle.cat_model.specs.declared.request.Event.TheVariants as event
use Rattle.cat_model.specs.declared.request.Request.TheVariants.{Agent}
use Rattle.cat_model.specs.declared.reply.Mark.{Mark}
use Rattle.cat_model.specs.declared.reply.Refusal.{Refusal}
use Rattle.cluster_rules.specs.Cluster.{Cluster}
use Rattle.cluster_rules.specs.Due.{due, Works, IsMadeUp}
use Rattle.cluster_rules.specs.Proposals.{Syncs, agent_did, did_own, sync_of, synced}
use Rattle.cluster_rules.specs.Requests as rules
use Rattle.cluster_rules.specs.Requests.{Answers, Goes, asked_server}
use Rattle.cluster_rules.specs.Step.{marked}
use Rattle.cluster_order.specs.Turns.{IsCome, WorkedSome, numbered}
use Rattle.cluster_order.specs.declared.agent_event.AgentEvent.{AgentEvent}
use Rattle.cluster_order.specs.declared.agent_event.AgentEvent.TheVariants as agents
use Rattle.cluster_order.specs.declared.cut.Cut.{Cut}
use Rattle.cluster_order.specs.declared.cut.Cut.TheVariants.{Before, Within}

-- the event of an agent's event
abbrev pub event_of_agent : AgentEvent → Event
event_of_agent (agents.Sync agent) = event.Sync agent
event_of_agent (agents.Tick agent ms) = event.AgentTick agent ms
event_of_agent (agents.Ask agent asked draw) = event.Ask agent asked.now draw

-- the agent itself answers the request
abbrev pub is_for_agent : Asked → Bool
is_for_agent (Good (Agent op)) = true
is_for_agent other = false

-- the agent of an event
abbrev pub agent_in : Event → ℕ
agent_in (event.Sync agent) = agent
agent_in (event.AgentTick agent ms) = agent
agent_in (event.Ask agent asked draw) = agent
agent_in other = 0

-- the way of an agent's sync, which is that of a request to the leader
abbrev pub sync_way : ℕ → Cluster → rules.Way
sync_way agent c = rules.way_of c.world (asked_server (length c.servers) agent) false

-- the event's sync goes to server i
abbrev pub SyncsThere : ℕ → Event → Cluster → Type 0
SyncsThere i made c = (sync_of c made ≡ Some (agent_in made)) × (sync_way (agent_in made) c ≡ Goes i)

-- The event goes to no server: no sync is a part of it, or one that finds no leader.
abbrev pub IsAlone : Bool → Event → Cluster → Type 0
IsAlone false made c = sync_of c made ≡ None
IsAlone true made c = (sync_of c made ≡ Some (agent_in made)) × ((why : Refusal) × (sync_way (agent_in made) c ≡ Answers why))

-- An event that goes to no server: it is marked, the agent does its own part, and a sync that finds no leader says so.
abbrev pub alone : Bool → Event → Cluster → Cluster
alone false made c = agent_did made (marked made c)
alone true made c = synced (agent_in made) None (agent_did made (marked made c))

-- The event was noted last. Of a request this is read off its mark, which is to get its number.
abbrev pub IsNoted : Event → List Mark → Type 0
IsNoted (event.Ask agent asked draw) past = IsCome agent asked draw past
IsNoted other past = Unit {0}

-- a request that was noted takes its number
abbrev pub with_number : Event → Cluster → Cluster
with_number (event.Ask agent asked draw) c = numbered agent asked draw c
with_number other c = c

-- The agent does its own part, once a request has its number, and then the sync at server i.
abbrev pub SyncsAt : ℕ → Event → Cluster → Cluster → Bool → Type 0
SyncsAt i made c c' whole = Syncs i (agent_in made) (did_own made) (agent_did made (with_number made c)) c' whole

-- where memory runs out: nothing was done, or a first part
abbrev pub SyncsInPart : ℕ → Event → Cut → Cluster → Cluster → Type 0
SyncsInPart i made Before c c' = c' ≡ c
SyncsInPart i made Within c c' = SyncsAt i made c c' false

-- What an agent's event that was noted makes its server do.
abbrev pub IsSynced : ℕ → Event → Cluster → Cluster → Type 0
IsSynced i made c c' = (c₁ : Cluster) × (c₂ : Cluster) × IsMadeUp i c c₁ × SyncsAt i made c₁ c₂ true × IsMadeUp i c₂ c'

-- and where it is cut short: while the server catches up before, in the sync, or behind it
abbrev pub IsSyncedInPart : ℕ → Event → Cut → Cluster → Cluster → Type 0
IsSyncedInPart i made Before c c' = c' ≡ c
IsSyncedInPart i made Within c c' =
    WorkedSome i c c'
    ⊎ (((c₁ : Cluster) × IsMadeUp i c c₁ × SyncsAt i made c₁ c' false)
    ⊎ ((c₁ : Cluster) × (c₂ : Cluster) × IsMadeUp i c c₁ × SyncsAt i made c₁ c₂ true × Works i c₂ c' × (due i c' ≢ None)))
