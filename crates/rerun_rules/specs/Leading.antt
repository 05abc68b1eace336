-- Who leads in a cluster that serves: server 1, and nobody else.
use Rattle.std.specs.Prelude.{◌≡◌, ◌≢◌, ℕ, ◌-◌, ◌^◌, ◌<◌, ◌≤◌, ◌⊎◌, length, Bool, true, false, List, [], ◌∷◌, Some}
use Rattle.std.specs.List.{AllByRecursion as Each}
use Rattle.cat_model.specs.declared.request.Asked.TheVariants.{Bad}
use Rattle.cat_model.specs.declared.request.Draw.{Draw}
use Rattle.cat_model.specs.declared.request.Event.TheVariants as event
use Rattle.cat_model.specs.declared.reply.Mark.{Mark}
use Rattle.cat_model.specs.declared.reply.Mark.TheVariants as mark
use Rattle.cat_model.specs.declared.reply.Refusal.{Refusal}
use Rattle.cat_model.specs.declared.reply.Refusal.TheVariants as refusal
use Rattle.cat_model.specs.declared.reply.Role.TheVariants.{Follower}
use Rattle.raft_model.specs.Log.{IsUpToDate, last_term}
use Rattle.raft_model.specs.Node.{Kept, Node, Store}
use Rattle.raft_model.specs.Rules.{term_of}
use Rattle.raft_model.specs.World.{AreEmpty, IsServer, Packet, World}
use Rattle.cluster_rules.specs.Cluster.{Cluster, node_of}
use Rattle.cluster_rules.specs.Reached.{AreSure, Move, Makes, Settles, Reached}
use Rattle.cluster_rules.specs.Reached.{at_start, by_event, by_taking, by_handing, by_settling, by_advancing}
use Rattle.cluster_rules.specs.Requests.{Goes, way_of}
use Rattle.cluster_rules.specs.Sound.{IsAmong}
use Rattle.run_rules.specs.Serving.{Serves, Size}

-- each of these stores tells what it holds, with a term that is not above this one
abbrev pub HoldUpTo : ℕ → List Store → Type 0
HoldUpTo term [] = Unit {0}
HoldUpTo term (s ∷ ss) = ((kept : Kept) × (s.contents ≡ Some kept) × (kept.term ≤ term)) × HoldUpTo term ss

-- Server 1's store tells what it holds, and no other store holds a higher term. What their logs hold does not matter,
-- since nobody but server 1 asks for votes.
abbrev pub IsForemost : List Store → Type 0
IsForemost [] = Unit {0}
IsForemost (first ∷ others) = (kept : Kept) × (first.contents ≡ Some kept) × HoldUpTo kept.term others

-- each of these stores tells what it holds, with no higher term than this and no more up to date a log
abbrev pub HoldBehind : Kept → List Store → Type 0
HoldBehind first [] = Unit {0}
HoldBehind first (s ∷ ss) =
    ((kept : Kept) × (s.contents ≡ Some kept) × (kept.term ≤ first.term)
    × IsUpToDate (last_term first.log) (length first.log) kept.log) × HoldBehind first ss

-- Server 1's store holds this, and it is ahead of all others in both, its term and its log.
abbrev pub IsAheadBy : Kept → List Store → Type 0
IsAheadBy first [] = Unit {0}
IsAheadBy first (s ∷ others) = (s.contents ≡ Some first) × HoldBehind first others

-- All servers run. Each one but server 1 is a follower, and neither its term nor that of a message on its way is above
-- server 1's.
pub record OnlyFirstLeads (w : World) : Type 0 where
  pub run : (i : ℕ) (n : Node) → IsServer w i n → n.halted ≡ false
  pub follow : (i : ℕ) (n : Node) → IsServer w i n → i ≢ 1 → n.role ≡ Follower
  pub terms : (i : ℕ) (n : Node) → IsServer w i n → n.term ≤ (node_of w 1).term
  pub messages : Each (λ (p : Packet). term_of p.message ≤ (node_of w 1).term) w.bag.packets

-- The run that led to a cluster was once at this one: at its beginning, behind one of its moves, or now.
abbrev pub WasAt : {start : Cluster} {whole : Bool} {moves : List Move} {c : Cluster} → Cluster →
    Reached start whole moves c → Type 0
WasAt {c = c} earlier at_start = earlier ≡ c
WasAt {c = c} earlier (by_event made all before fits step) = (earlier ≡ c) ⊎ WasAt earlier before
WasAt {c = c} earlier (by_taking number out these those before is there) = (earlier ≡ c) ⊎ WasAt earlier before
WasAt {c = c} earlier (by_handing out these those before is there) = (earlier ≡ c) ⊎ WasAt earlier before
WasAt {c = c} earlier (by_settling pairs all before ends) = (earlier ≡ c) ⊎ WasAt earlier before
WasAt {c = c} earlier (by_advancing ms made before ends) = (earlier ≡ c) ⊎ WasAt earlier before

-- A request that asks this server finds the leader, server 1; one that may be stale stays where it asked.
abbrev pub FindsLeader : World → ℕ → Type 0
FindsLeader w asked = (way_of w asked false ≡ Goes 1) × (way_of w asked true ≡ Goes asked)

-- it tells that a server failed, or that it lost its leadership
abbrev pub TellsLoss : Refusal → Type 0
TellsLoss (refusal.Halted server) = Unit {0}
TellsLoss (refusal.Lost old found) = Unit {0}
TellsLoss other = ⊥

-- The request of this number came as one that is none, with just this refusal.
abbrev pub CameBad : ℕ → Refusal → List Mark → Type 0
CameBad number why past = (agent : ℕ) × (draw : Draw) × IsAmong (mark.Asked number agent (Bad why) draw) past

-- First of all server 1 stood for election, and since then messages were delivered, each lost right behind its
-- delivery, and nothing else was done. The last move stands first.
abbrev pub OnlyDelivered : List Move → Type 0
OnlyDelivered (Makes (event.Timeout s) ∷ []) = s ≡ 1
OnlyDelivered (Makes (event.Drop j) ∷ Makes (event.Deliver k) ∷ moves) = (j ≡ k) × OnlyDelivered moves
OnlyDelivered (Settles pairs whole ∷ moves) = OnlyDelivered moves
OnlyDelivered other = ⊥

-- A run over empty stores that came to rest: all that is asked of one in which server 1 is elected.
pub record Election : Type 0 where
  pub size : Size
  pub cluster : Cluster
  pub serves : Serves size cluster
  pub are_empty : AreEmpty size.stores
  pub sure : AreSure size.stores
  pub whole : serves.whole ≡ true
  pub delivered : OnlyDelivered serves.moves
  pub settled : cluster.world.bag.packets ≡ []

-- The same over stores that were kept, of which server 1's is ahead, and its term can still rise.
pub record LaterElection : Type 0 where
  pub size : Size
  pub cluster : Cluster
  pub serves : Serves size cluster
  pub first : Kept
  pub ahead : IsAheadBy first size.stores
  pub can_rise : first.term < 2 ^ 64 - 1
  pub sure : AreSure size.stores
  pub whole : serves.whole ≡ true
  pub delivered : OnlyDelivered serves.moves
  pub settled : cluster.world.bag.packets ≡ []
