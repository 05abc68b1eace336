-- Runs of a cluster: which events fit, how it starts, and what is done to it.
use Rattle.std.specs.Prelude.{◌≡◌, ℕ, zero, suc, ◌+◌, ◌^◌, ◌<◌, ◌≤◌, ◌&&◌, ◌⊎◌, Bool, true, false, List, [], ◌∷◌, ◌++◌, length, map, take, Option, Some, None}
use Rattle.cat_model.specs.declared.request.Event.{Event}
use Rattle.cat_model.specs.declared.request.Event.TheVariants as event
use Rattle.cat_model.specs.declared.reply.Mark.{Mark}
use Rattle.cat_model.specs.declared.reply.Mark.TheVariants as mark
use Rattle.raft_model.specs.Node.{Store}
use Rattle.raft_model.specs.World.{World, Packet, IsReached, AreEmpty, HoldAll, Begins, numbered}
use Rattle.cluster_rules.specs.Replies.{Out, number_of}
use Rattle.cluster_rules.specs.Cluster.{Cluster, clock_of, started}
use Rattle.cluster_rules.specs.Step.{ClusterStep}

-- servers are numbered from 1
abbrev pub IsServerNumber : Cluster → ℕ → Type 0
IsServerNumber c s = (0 < s) × (s ≤ length c.servers)

-- and so are agents
abbrev pub IsAgentNumber : Cluster → ℕ → Type 0
IsAgentNumber c agent = (0 < agent) × (agent ≤ length c.agents)

-- a message of this number is on its way
abbrev pub IsUnderWay : Cluster → ℕ → Type 0
IsUnderWay c k = (p : Packet) × (numbered k c.world.bag.packets ≡ Some p)

-- An event fits where what it names is there; no clock passes 2 ^ 53 milliseconds.
abbrev pub Fits : Cluster → Event → Type 0
Fits c (event.Timeout s) = IsServerNumber c s
Fits c (event.Beat s) = IsServerNumber c s
Fits c (event.Tick s ms) = IsServerNumber c s × (clock_of c.world s + ms ≤ 2 ^ 53)
Fits c (event.Deliver k) = IsUnderWay c k
Fits c (event.Drop k) = IsUnderWay c k
Fits c (event.Restart s) = IsServerNumber c s
Fits c (event.FailKeep s nth) = IsServerNumber c s
Fits c (event.Ask agent asked draw) = IsAgentNumber c agent
Fits c (event.Sync agent) = IsAgentNumber c agent
Fits c (event.AgentTick agent ms) = IsAgentNumber c agent

-- no store is to fail a call
abbrev pub AreUnarmed : List Store → Type 0
AreUnarmed [] = Unit {0}
AreUnarmed (s ∷ ss) = (s.armed ≡ 0) × AreUnarmed ss

-- each store fails only where it is armed, and then holds what it held
abbrev pub AreSure : List Store → Type 0
AreSure [] = Unit {0}
AreSure (s ∷ ss) = (s.sure ≡ true) × AreSure ss

-- The stores are empty, or hold what those of an earlier run of as many servers held.
abbrev pub MayBegin : List Store → Type 0
MayBegin stores = AreEmpty stores ⊎ ((earlier : World) × IsReached earlier × HoldAll stores earlier.nodes)

-- A beginning of 1 to 7 servers and up to 64 agents over these stores, whatever they hold; none of them is to fail.
pub record IsBegun (stores : List Store) (c : Cluster) : Type 0 where
  pub world : World
  pub agents : ℕ
  pub some : (0 < length stores) × (length stores ≤ 7)
  pub few : agents ≤ 64
  pub unarmed : AreUnarmed stores
  pub begins : Begins stores world
  pub is : c ≡ started world agents

-- A start of 1 to 7 servers and up to 64 agents: from empty stores, or from stores that hold what those of an earlier
-- run of as many servers held.
pub record IsStart (c : Cluster) : Type 0 where
  pub stores : List Store
  pub world : World
  pub agents : ℕ
  pub some : (0 < length stores) × (length stores ≤ 7)
  pub few : agents ≤ 64
  pub unarmed : AreUnarmed stores
  pub begins : Begins stores world
  pub kept : AreEmpty stores ⊎ ((earlier : World) × IsReached earlier × HoldAll stores earlier.nodes)
  pub is : c ≡ started world agents

-- What is done to a cluster: an event, the taking of a request's out, or so many deliveries, each followed by the
-- message's loss, with whether memory sufficed, or an advance of all clocks, with how many events it made.
pub data Move : Type 0 where
  Makes : (made : Event) → Move
  Takes : (number : ℕ) → Move
  Settles : (pairs : ℕ) (whole : Bool) → Move
  Advances : (ms made : ℕ) → Move

-- The moves, the last one first, end in so many deliveries, each followed by the same message's loss.
abbrev pub EndInPairs : ℕ → List Move → Type 0
EndInPairs zero moves = Unit {0}
EndInPairs (suc n) (Makes (event.Drop k) ∷ Makes (event.Deliver j) ∷ moves) = (k ≡ j) × EndInPairs n moves
EndInPairs (suc n) other = ⊥

-- Where memory did not suffice, one more delivery may lack its loss.
abbrev pub EndInCutPairs : ℕ → List Move → Type 0
EndInCutPairs n (Makes (event.Deliver k) ∷ moves) = EndInPairs n moves
EndInCutPairs n moves = EndInPairs n moves

-- the moves end in the pairs that were made, where memory sufficed or not
abbrev pub Settled : ℕ → Bool → List Move → Type 0
Settled pairs true moves = EndInPairs pairs moves
Settled pairs false moves = EndInCutPairs pairs moves

-- An advance: each server's clock goes on, and then each agent's. The numbers from k on, so many.
abbrev pub numbers : ℕ → ℕ → List ℕ
numbers k zero = []
numbers k (suc n) = k ∷ numbers (suc k) n

abbrev pub ticks_of : ℕ → ℕ → ℕ → List Event
ticks_of ms servers agents = map (λ s. event.Tick s ms) (numbers 1 servers) ++ map (λ a. event.AgentTick a ms) (numbers 1 agents)

-- these events as moves, the last one first, after the earlier ones
abbrev pub then_made : List Event → List Move → List Move
then_made [] moves = moves
then_made (made ∷ events) moves = then_made events (Makes made ∷ moves)

-- the moves end in these events
abbrev pub EndIn : List Event → List Move → Type 0
EndIn events moves = (earlier : List Move) × (moves ≡ then_made events earlier)

-- Where memory did not suffice, one more event may have been made in part.
abbrev pub EndInAdvance : ℕ → ℕ → ℕ → ℕ → List Move → Type 0
EndInAdvance ms servers agents made moves =
    (made ≤ servers + agents) × (EndIn (take made (ticks_of ms servers agents)) moves ⊎ EndIn (take (suc made) (ticks_of ms servers agents)) moves)

-- A cluster that was reached by these moves, the last one first: whether each event was whole.
pub data Reached (start : Cluster) : Bool → List Move → Cluster → Type 0 where
  at_start : Reached start true [] start
  by_event : {whole : Bool} {moves : List Move} {c c' : Cluster} (made : Event) (all : Bool) → Reached start whole moves c → Fits c made → ClusterStep c made c' all →
      Reached start (whole && all) (Makes made ∷ moves) c'
  by_taking : {whole : Bool} {moves : List Move} {c : Cluster} (number : ℕ) (out : Out) (before after : List Out) → Reached start whole moves c → number_of out ≡ Some number → c.tray ≡ before ++ out ∷ after →
      Reached start whole (Takes number ∷ moves) (record c { tray = before ++ after; past = mark.Taken number ∷ c.past })
  -- the taking of a sync's out has no mark
  by_handing : {whole : Bool} {moves : List Move} {c : Cluster} (out : Out) (before after : List Out) → Reached start whole moves c → number_of out ≡ None → c.tray ≡ before ++ out ∷ after →
      Reached start whole moves (record c { tray = before ++ after })
  by_settling : {whole : Bool} {moves : List Move} {c : Cluster} (pairs : ℕ) (all : Bool) → Reached start whole moves c → Settled pairs all moves →
      Reached start whole (Settles pairs all ∷ moves) (record c { past = mark.Settled pairs all ∷ c.past })
  by_advancing : {whole : Bool} {moves : List Move} {c : Cluster} (ms made : ℕ) → Reached start whole moves c → EndInAdvance ms (length c.servers) (length c.agents) made moves →
      Reached start whole (Advances ms made ∷ moves) (record c { past = mark.Advanced ms made ∷ c.past })

-- the moves that the marks name
abbrev pub moves_of : List Mark → List Move
moves_of [] = []
moves_of (mark.Asked number agent asked draw ∷ past) = Makes (event.Ask agent asked draw) ∷ moves_of past
moves_of (mark.Made made ∷ past) = Makes made ∷ moves_of past
moves_of (mark.Taken number ∷ past) = Takes number ∷ moves_of past
moves_of (mark.Settled pairs whole ∷ past) = Settles pairs whole ∷ moves_of past
moves_of (mark.Advanced ms made ∷ past) = Advances ms made ∷ moves_of past
moves_of (other ∷ past) = moves_of past

-- the message of the lowest number
abbrev pub lowest : List Packet → Option Packet
lowest [] = None
lowest (p ∷ ps) = Some p

-- So many pairs of whole events from one cluster to another: the message of the lowest number is delivered, then lost.
pub data Settling : ℕ → Cluster → Cluster → Type 0 where
  none : {c : Cluster} → Settling 0 c c
  pair : {n : ℕ} {c c' : Cluster} (p : Packet) (c₁ c₂ : Cluster) → lowest c.world.bag.packets ≡ Some p → Fits c (event.Deliver p.number) → ClusterStep c (event.Deliver p.number) c₁ true → Fits c₁ (event.Drop p.number) → ClusterStep c₁ (event.Drop p.number) c₂ true → Settling n c₂ c' → Settling (suc n) c c'

-- These whole events, one after the other, as an advance makes its own.
pub data Making : List Event → Cluster → Cluster → Type 0 where
  no_more : {c : Cluster} → Making [] c c
  one : {events : List Event} {c c' : Cluster} (made : Event) (c₁ : Cluster) → Fits c made → ClusterStep c made c₁ true → Making events c₁ c' → Making (made ∷ events) c c'
