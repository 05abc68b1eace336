-- One clock after another, of servers or of agents.
use Rattle.std.specs.Prelude.{◌≡◌, ◌≢◌, ◌⊎◌, ◌+◌, ◌^◌, ◌<◌, ◌≤◌, ℕ, List, [], ◌∷◌, ◌++◌, length, reverse}
use Rattle.std.specs.List.{AllByRecursion}
use Rattle.cat_model.specs.declared.request.Event.{Event}
use Rattle.cat_model.specs.declared.request.Event.TheVariants as event
use Rattle.cat_model.specs.declared.reply.Mark.{Mark}
use Rattle.cluster_rules.specs.Cluster.{Cluster, clock_of}
use Rattle.turn_lock.specs.Lists.{Among, EachOnce, numbers}
use Rattle.http_exchanges.specs.Marks.{Whose, Servers, Agents, ticks, ticks_by}

-- the clocks of the others
abbrev pub others : Whose → Whose
others Servers = Agents
others Agents = Servers

-- the tick of one clock
abbrev pub tick_of : Whose → ℕ → ℕ → Event
tick_of Servers n ms = event.Tick n ms
tick_of Agents n ms = event.AgentTick n ms

-- how many there are
abbrev pub count_of : Whose → Cluster → ℕ
count_of Servers c = length c.servers
count_of Agents c = length c.agents

-- A server's clock would pass its end. An agent's has none.
abbrev pub PassesEnd : Whose → Cluster → ℕ → ℕ → Type 0
PassesEnd Servers c s ms = 2 ^ 53 < clock_of c.world s + ms
PassesEnd Agents c a ms = ⊥

-- by these marks this clock goes on once, by so many milliseconds, or none of its kind does
abbrev pub Ticked : Whose → ℕ → ℕ → List Mark → Type 0
Ticked whose n ms marks = ((numbers (ticks whose) marks ≡ n ∷ []) × (numbers (ticks_by whose) marks ≡ ms ∷ [])) ⊎ (numbers (ticks whose) marks ≡ [])

-- this clock went on, or none of its kind did, and none of the others
pub record TicksOne (whose : Whose) (n ms : ℕ) (old new : List Mark) : Type 0 where
  pub rest : List Mark
  pub are : new ≡ old ++ rest
  pub ticked : Ticked whose n ms rest
  pub none : numbers (ticks (others whose)) rest ≡ []

-- of the clocks of this kind some went on, each of them once and by so many milliseconds, and none of the others
pub record TicksOnly (whose : Whose) (ms : ℕ) (old new : List Mark) : Type 0 where
  pub rest : List Mark
  pub are : new ≡ old ++ rest
  pub once : EachOnce (numbers (ticks whose) rest)
  pub by_ms : AllByRecursion (λ n. n ≡ ms) (numbers (ticks_by whose) rest)
  pub none : numbers (ticks (others whose)) rest ≡ []

-- of the clocks up to this one some went on, each of them once and by so many milliseconds, and no other did
pub record TicksUpTo (whose : Whose) (n ms : ℕ) (old new : List Mark) : Type 0 where
  pub rest : List Mark
  pub are : new ≡ old ++ rest
  pub once : EachOnce (numbers (ticks whose) rest)
  pub by_ms : AllByRecursion (λ k. k ≡ ms) (numbers (ticks_by whose) rest)
  pub most : AllByRecursion (λ k. k ≤ n) (numbers (ticks whose) rest)
  pub none : numbers (ticks (others whose)) rest ≡ []

-- There are as many of them, and no other is nearer to its end.
pub record Leaves (whose : Whose) (n : ℕ) (c c' : Cluster) : Type 0 where
  pub count : count_of whose c' ≡ count_of whose c
  pub far : (k ms : ℕ) → k ≢ n → PassesEnd whose c' k ms → PassesEnd whose c k ms

-- There are as many of them, and none behind this one is nearer to its end.
pub record LeavesLater (whose : Whose) (n : ℕ) (c c' : Cluster) : Type 0 where
  pub count : count_of whose c' ≡ count_of whose c
  pub far : (k ms : ℕ) → n < k → PassesEnd whose c' k ms → PassesEnd whose c k ms

-- This clock went on, or would have passed its end.
pub record TicksWholly (whose : Whose) (n ms : ℕ) (c c' : Cluster) : Type 0 where
  pub rest : List Mark
  pub are : reverse c'.past ≡ reverse c.past ++ rest
  pub went : 0 < n → n ≤ count_of whose c → Among n (numbers (ticks whose) rest) ⊎ PassesEnd whose c n ms
  pub leaves : Leaves whose n c c'

-- Each clock up to this one went on, or would have passed its end.
pub record TicksEach (whose : Whose) (n ms : ℕ) (c c' : Cluster) : Type 0 where
  pub rest : List Mark
  pub are : reverse c'.past ≡ reverse c.past ++ rest
  pub each : (k : ℕ) → 0 < k → k ≤ n → Among k (numbers (ticks whose) rest) ⊎ PassesEnd whose c k ms
