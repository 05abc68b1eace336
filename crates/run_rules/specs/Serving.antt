-- A cluster that serves connections: which moves led to it.
use Rattle.std.specs.Prelude.{◌≡◌, ℕ, Bool, List, [], ◌∷◌, length}
use Rattle.cat_model.specs.declared.request.Event.TheVariants as event
use Rattle.cluster_rules.specs.Cluster.{Cluster}
use Rattle.raft_model.specs.Node.{Store}
use Rattle.cluster_rules.specs.Reached.{IsBegun, Move, Makes, Takes, Settles, Reached}

-- the last of these moves delivered this message
abbrev pub Delivers : ℕ → List Move → Type 0
Delivers k (Makes (event.Deliver j) ∷ moves) = k ≡ j
Delivers k other = ⊥

-- What may be done to a cluster that serves, behind what was done before: at first server 1 stands for election; then come
-- requests, ticks of the clocks of servers and agents, deliveries, each followed by that message's loss, and takings of
-- replies. No store is made to fail, no message is lost that was not delivered, and no server restarts.
abbrev pub IsServing : Move → List Move → Type 0
IsServing (Makes (event.Timeout s)) before = (s ≡ 1) × (before ≡ [])
IsServing (Makes (event.Ask agent asked draw)) before = Unit {0}
IsServing (Makes (event.Tick s ms)) before = Unit {0}
IsServing (Makes (event.AgentTick agent ms)) before = Unit {0}
IsServing (Makes (event.Deliver k)) before = Unit {0}
IsServing (Makes (event.Drop k)) before = Delivers k before
IsServing (Takes number) before = Unit {0}
IsServing (Settles pairs whole) before = Unit {0}
IsServing other before = ⊥

-- the same of each move; the last one stands first
abbrev pub AreServing : List Move → Type 0
AreServing [] = Unit {0}
AreServing (m ∷ moves) = IsServing m moves × AreServing moves

-- the stores over which a cluster began, one a server, and how many agents it has
pub record Size : Type 0 where
  pub stores : List Store
  pub agents : ℕ

-- Such moves led to it from a beginning over these stores, whatever they held, and it has so many agents.
pub record Serves (size : Size) (c : Cluster) : Type 0 where
  pub start : Cluster
  pub whole : Bool
  pub moves : List Move
  pub begins : IsBegun size.stores start
  pub reached : Reached start whole moves c
  pub serving : AreServing moves
  pub count : length c.agents ≡ size.agents
