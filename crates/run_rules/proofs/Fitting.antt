-- An event without a misfit fits.
use Rattle.std.proofs.Common.{◌≡◌, ℕ, ◌+◌, ◌^◌, ◌<◌, ◌≤◌, Bool, true, false, cond, length, refl, sym, arith, Option, Some, None}
use Rattle.std.specs.Prelude.{nat_le, nat_lt, ◌&&◌, is_some}
use Rattle.cat_model.specs.declared.request.Event.{Event}
use Rattle.cat_model.specs.declared.request.Event.TheVariants as event
use Rattle.raft_model.specs.World.{Packet, numbered}
use Rattle.raft_model.proofs.Tests.{at_bool, and_tells, le_tells, lt_tells}
use Rattle.run_rules.specs.declared.misfit.Misfit.{Misfit}
use Rattle.run_rules.specs.declared.misfit.Misfit.TheVariants.{NoServer, NoAgent, NoMessage, Clock}
use Rattle.cluster_rules.specs.Cluster.{Cluster, clock_of}
use Rattle.cluster_rules.specs.Reached.{Fits, IsAgentNumber, IsServerNumber, IsUnderWay}
use Rattle.run_rules.specs.Lines.{agent_misfit, clock_misfit, message_misfit, misfit, server_misfit}

none_some : (why : Misfit) → Some why ≡ None → ⊥
none_some why e = cc e

unless : (b : Bool) (why : Misfit) → cond b None (Some why) ≡ None → b ≡ true
unless true why e = refl
unless false why e = absurd (none_some why e)

server_there : (c : Cluster) (s : ℕ) → server_misfit c s ≡ None → IsServerNumber c s
server_there c s e =
    let t = and_tells (nat_lt 0 s) (nat_le s (length c.servers)) (unless (nat_lt 0 s && nat_le s (length c.servers)) NoServer e) in
    (lt_tells 0 s t.0, le_tells s (length c.servers) t.1)

agent_there : (c : Cluster) (a : ℕ) → agent_misfit c a ≡ None → IsAgentNumber c a
agent_there c a e =
    let t = and_tells (nat_lt 0 a) (nat_le a (length c.agents)) (unless (nat_lt 0 a && nat_le a (length c.agents)) NoAgent e) in
    (lt_tells 0 a t.0, le_tells a (length c.agents) t.1)

under_way : (o : Option Packet) → is_some o ≡ true → (p : Packet) × (o ≡ Some p)
under_way None e = absurd (cc e)
under_way (Some p) e = (p, refl)

message_there : (c : Cluster) (k : ℕ) → message_misfit c k ≡ None → IsUnderWay c k
message_there c k e = under_way (numbered k c.world.bag.packets) (unless (is_some (numbered k c.world.bag.packets)) NoMessage e)

clock_fits : (c : Cluster) (s ms : ℕ) (o : Option Misfit) → clock_misfit c s ms o ≡ None → (o ≡ None) × (clock_of c.world s + ms ≤ 2 ^ 53)
clock_fits c s ms (Some why) e = absurd (none_some why e)
clock_fits c s ms None e = (refl, le_tells (clock_of c.world s + ms) (2 ^ 53) (unless (nat_le (clock_of c.world s + ms) (2 ^ 53)) Clock e))

pub event_fits : (c : Cluster) (made : Event) → misfit c made ≡ None → Fits c made
unfolding misfit
event_fits c (event.Timeout s) e = server_there c s e
event_fits c (event.Beat s) e = server_there c s e
event_fits c (event.Tick s ms) e = let t = clock_fits c s ms (server_misfit c s) e in (server_there c s t.0, t.1)
event_fits c (event.Deliver k) e = message_there c k e
event_fits c (event.Drop k) e = message_there c k e
event_fits c (event.Restart s) e = server_there c s e
event_fits c (event.FailKeep s nth) e = server_there c s e
event_fits c (event.Ask agent asked draw) e = agent_there c agent e
event_fits c (event.Sync agent) e = agent_there c agent e
event_fits c (event.AgentTick agent ms) e = agent_there c agent e
