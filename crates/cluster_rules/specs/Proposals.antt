-- What a leading server proposes for no request: in a tick the ends of sessions and a reap, and an agent's sync.
-- Consul, Sessions: "Session Design" (TTL); "Anti-Entropy".
use Rattle.std.specs.Prelude.{◌≡◌, ℕ, suc, nat_le, ◌<◌, ◌&&◌, ◌⊎◌, Bool, true, false, is_some, if◌then◌else◌, List, [], ◌∷◌, map, take, Option, Some, None}
use Rattle.cat_model.specs.declared.command.Command.{Command}
use Rattle.cat_model.specs.declared.command.Command.TheVariants.{Reap, SessionDestroy}
use Rattle.cat_model.specs.declared.fired.Local.{Local}
use Rattle.cat_model.specs.declared.fired.Remote.{Remote}
use Rattle.cat_model.specs.declared.request.AgentOp.{AgentOp}
use Rattle.cat_model.specs.declared.request.Asked.TheVariants.{Good}
use Rattle.cat_model.specs.declared.request.Event.{Event}
use Rattle.cat_model.specs.declared.request.Event.TheVariants as event
use Rattle.cat_model.specs.declared.request.Request.TheVariants.{Agent as OfAgent}
use Rattle.cat_model.specs.declared.reply.Kind.{Kind}
use Rattle.cat_model.specs.declared.reply.Kind.TheVariants.{Local as LocalKind, Refused}
use Rattle.cat_model.specs.declared.reply.Refusal.TheVariants as refusal
use Rattle.cat_model.specs.declared.row.SessionRow.{SessionRow}
use Rattle.cat_model.specs.Log.{commands_of}
use Rattle.cat_model.specs.Machine.{catalog_at}
use Rattle.cat_model.specs.Syncs.{merged, plan}
use Rattle.raft_model.specs.Node.{set_server}
use Rattle.raft_model.specs.Rules.{Propose, has_room}
use Rattle.raft_model.specs.World.{World, Acts as NodeActs}
use Rattle.cluster_rules.specs.Agents.{Agent, agent_node, change, changes, unknown, agent_body, local_of, remote_of, ticked, wants_sync}
use Rattle.cluster_rules.specs.Offices.{over_now, ended_too, has_removed, looks_on}
use Rattle.cluster_rules.specs.Replies.{Question, Synced}
use Rattle.cluster_rules.specs.Cluster.{Cluster, node_of, server_of, applied_of, clock_of, agent_of, office_of, with_office, runs_leading}
use Rattle.cluster_rules.specs.Due.{answered, put_out}
use Rattle.cluster_rules.specs.Requests.{is_ready, moved}

-- Server i proposes commands of no request, in order, up to the first that its log has no room for or at which its
-- durable store fails; so many were proposed. Where it is not whole, it was cut short for lack of memory. Nothing of
-- it is applied meanwhile.
pub data Proposals (i : ℕ) : List Command → Cluster → ℕ → Cluster → Bool → Type 0 where
  none_left : {c : Cluster} → Proposals i [] c 0 c true
  breaks : {commands : List Command} {c : Cluster} → Proposals i commands c 0 c false
  enters : {command : Command} {commands : List Command} {c c' : Cluster} {n : ℕ} {whole : Bool} (w' : World) → runs_leading c.world i ≡ true → has_room (node_of c.world i) 0 command ≡ true →
      NodeActs c.world i (Propose 0 command) w' → (node_of w' i).halted ≡ false → Proposals i commands (moved i w' c) n c' whole → Proposals i (command ∷ commands) c (suc n) c' whole
  refuses : {command : Command} {commands : List Command} {c : Cluster} (w' : World) → runs_leading c.world i ≡ true → NodeActs c.world i (Propose 0 command) w' →
      (has_room (node_of c.world i) 0 command ≡ false) ⊎ ((node_of w' i).halted ≡ true) → Proposals i (command ∷ commands) c 0 (moved i w' c) true

-- the sessions at server i that are over by its clock, in the order in which their ends are proposed
abbrev pub over_rows : Cluster → ℕ → List SessionRow
over_rows c i = over_now (commands_of (applied_of c i)) (server_of c.servers i).clocks (office_of c i) (clock_of c.world i)

abbrev pub ends_of : List SessionRow → List Command
ends_of rows = map (λ (s : SessionRow). SessionDestroy s.id) rows

-- the reap that a tick proposes, where one is due
abbrev pub reaps_of : Cluster → ℕ → List Command
reaps_of c i = if runs_leading c.world i && (nat_le (office_of c i).reap (clock_of c.world i) && has_removed (commands_of (applied_of c i))) then Reap ∷ [] else []

-- those that were proposed are not proposed again, unless renewed
abbrev pub with_ends : ℕ → List SessionRow → Cluster → Cluster
with_ends i rows c = with_office i (ended_too rows (office_of c i)) c

abbrev pub looked : ℕ → Cluster → Cluster
looked i c = with_office i (looks_on (clock_of c.world i) (office_of c i)) c

-- The second act of a tick, at a server that leads: the ends of the sessions that are over, as far as its log has room,
-- and then a reap.
pub data Tends (i : ℕ) (c c' : Cluster) : Bool → Type 0 where
  idles : runs_leading c.world i ≡ false → c' ≡ c → Tends i c c' true
  in_turn : {whole : Bool} (n m : ℕ) (c₁ c₂ : Cluster) → runs_leading c.world i ≡ true → Proposals i (ends_of (over_rows c i)) c n c₁ true →
      Proposals i (reaps_of (with_ends i (take n (over_rows c i)) c₁) i) (looked i (with_ends i (take n (over_rows c i)) c₁)) m c₂ whole → c' ≡ c₂ → Tends i c c' whole
  cut_off : (n : ℕ) (c₁ : Cluster) → runs_leading c.world i ≡ true → Proposals i (ends_of (over_rows c i)) c n c₁ false → c' ≡ with_ends i (take n (over_rows c i)) c₁ → Tends i c c' false

-- Agents: what an agent does by itself in an event.
abbrev pub with_agent : ℕ → Agent → Cluster → Cluster
with_agent a g c = record c { agents = set_server c.agents a g }

-- an agent's answer
abbrev pub kind_told : ℕ → AgentOp → Option Agent → Kind
kind_told a op None = Refused (refusal.NotFound (unknown op))
kind_told a op (Some g) = LocalKind (agent_body a op g)

abbrev pub with_change : ℕ → Option Agent → Cluster → Cluster
with_change a None c = c
with_change a (Some g) c = with_agent a g c

abbrev pub told : Question → AgentOp → Option Agent → Cluster → Cluster
told q op g c = answered q (kind_told q.agent op g) false 0 [] (with_change q.agent g c)

abbrev pub agent_did : Event → Cluster → Cluster
agent_did (event.AgentTick a ms) c = with_agent a (ticked ms (agent_of c a)) c
agent_did (event.Ask a (Good (OfAgent op)) draw) c = told (record { number = c.asked; agent = a; asked = Good (OfAgent op); draw = draw }) op (change a op (agent_of c a)) c
agent_did other c = c

-- the event is an agent's
abbrev pub is_agents : Event → Bool
is_agents (event.AgentTick a ms) = true
is_agents (event.Ask a (Good (OfAgent op)) draw) = true
is_agents (event.Sync a) = true
is_agents other = false

-- the agent whose sync is a part of the event
abbrev pub sync_of : Cluster → Event → Option ℕ
sync_of c (event.Sync a) = Some a
sync_of c (event.AgentTick a ms) = if wants_sync ms (agent_of c a) then Some a else None
sync_of c (event.Ask a (Good (OfAgent op)) draw) = if changes op && is_some (change a op (agent_of c a)) then Some a else None
sync_of c other = None

-- a sync's out: how many commands were proposed, or that no leader was found
abbrev pub synced : ℕ → Option ℕ → Cluster → Cluster
synced a count c = record c { fresh = put_out (Synced a count) c.fresh }

-- the catalog's rows of agent a's node at server i
abbrev pub remote_at : ℕ → ℕ → Cluster → Remote
remote_at a i c = remote_of (agent_node a) (catalog_at (commands_of (applied_of c i)))

-- the agent takes over the tags of services that allow it
abbrev pub merged_at : ℕ → ℕ → Cluster → Local
merged_at a i c = merged (local_of a (agent_of c a)) (remote_at a i c)

abbrev pub adopted : ℕ → ℕ → Cluster → Cluster
adopted a i c = with_agent a (record (agent_of c a) { services = (merged_at a i c).services }) c

-- the agent did something by itself before it
abbrev pub did_own : Event → Bool
did_own (event.AgentTick a ms) = true
did_own (event.Ask a (Good (OfAgent op)) draw) = true
did_own other = false

-- The sync of agent a at server i, to which its requests go. Where memory runs out before the first proposal, the agent
-- has done its own part at least.
pub data Syncs (i a : ℕ) (own : Bool) (c c' : Cluster) : Bool → Type 0 where
  finds_none : is_ready c i ≡ false → c' ≡ synced a None c → Syncs i a own c c' true
  plans : (n : ℕ) (c₁ : Cluster) → is_ready c i ≡ true → Proposals i (plan (merged_at a i c) (remote_at a i c)) (adopted a i c) n c₁ true → c' ≡ synced a (Some n) c₁ → Syncs i a own c c' true
  breaks_off : (n : ℕ) → 0 < n → is_ready c i ≡ true → Proposals i (plan (merged_at a i c) (remote_at a i c)) (adopted a i c) n c' false → Syncs i a own c c' false
  cut_first : own ≡ true → is_ready c i ≡ true → c' ≡ c → Syncs i a own c c' false
