-- What a line of a script says, and whether its event fits the cluster.
use Rattle.std.specs.Prelude.{ℕ, ◌+◌, ◌^◌, nat_le, nat_lt, ◌&&◌, if◌then◌else◌, List, length, codes, is_some, Option, Some, None}
use Rattle.cat_model.specs.declared.request.Event.{Event}
use Rattle.cat_model.specs.declared.request.Event.TheVariants as event
use Rattle.raft_model.specs.World.{numbered}
use Rattle.run_rules.specs.declared.misfit.Misfit.{Misfit}
use Rattle.run_rules.specs.declared.misfit.Misfit.TheVariants.{NoServer, NoAgent, NoMessage, Clock}
use Rattle.cluster_rules.specs.Cluster.{Cluster, clock_of}

-- What a line says: nothing, an event, at most so many deliveries each followed by the message's loss, or that it is
-- refused, with the text of the reason.
pub data Said : Type 0 where
  Nothing : Said
  Makes : (made : Event) → Said
  Settles : (most : ℕ) → Said
  Refuses : (why : List ℕ) → Said

-- the reason of an event that does not fit
abbrev pub misfit_text : Misfit → List ℕ
misfit_text NoServer = codes "no such server"
misfit_text NoAgent = codes "no such agent"
misfit_text NoMessage = codes "no such message"
misfit_text Clock = codes "clock too far"

-- servers are numbered from 1
abbrev pub server_misfit : Cluster → ℕ → Option Misfit
server_misfit c s = if nat_lt 0 s && nat_le s (length c.servers) then None else Some NoServer

-- and so are agents
abbrev pub agent_misfit : Cluster → ℕ → Option Misfit
agent_misfit c agent = if nat_lt 0 agent && nat_le agent (length c.agents) then None else Some NoAgent

-- a message of that number is on its way
abbrev pub message_misfit : Cluster → ℕ → Option Misfit
message_misfit c k = if is_some (numbered k c.world.bag.packets) then None else Some NoMessage

-- no clock passes 2 ^ 53 milliseconds
abbrev pub clock_misfit : Cluster → ℕ → ℕ → Option Misfit → Option Misfit
clock_misfit c s ms (Some why) = Some why
clock_misfit c s ms None = if nat_le (clock_of c.world s + ms) (2 ^ 53) then None else Some Clock

-- Why an event does not fit, if it does not: what it names is not there, or a clock would pass its end.
unfoldable pub misfit : Cluster → Event → Option Misfit
misfit c (event.Timeout s) = server_misfit c s
misfit c (event.Beat s) = server_misfit c s
misfit c (event.Tick s ms) = clock_misfit c s ms (server_misfit c s)
misfit c (event.Deliver k) = message_misfit c k
misfit c (event.Drop k) = message_misfit c k
misfit c (event.Restart s) = server_misfit c s
misfit c (event.FailKeep s nth) = server_misfit c s
misfit c (event.Ask agent asked draw) = agent_misfit c agent
misfit c (event.Sync agent) = agent_misfit c agent
misfit c (event.AgentTick agent ms) = agent_misfit c agent
