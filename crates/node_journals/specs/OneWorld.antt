-- One run of the whole world in which each node makes just the steps of its journal.
use Rattle.std.specs.Prelude.{◌≡◌, ℕ, ◌==◌, List, [], ◌∷◌, map, if◌then◌else◌, Contains}
use Rattle.cat_model.specs.Log.{IsWellFormed}
use Rattle.raft_model.specs.Facts.{HasMatchingLogs, HasOneLeader}
use Rattle.raft_model.specs.Node.{Store}
use Rattle.raft_model.specs.Rules.{Timeout, Beat, Receive, Propose, Probe}
use Rattle.raft_model.specs.World.{World, Bag, Acts, Move, TimesOut, Beats, Proposes, Probes, Delivers, Restarts, WorldStep, IsServer, Agrees, AreEmpty, Begins}
use Rattle.node_journals.specs.Journals.{Event, Given, Restart, Step, Process, IsProcess, ended}

-- a step of a server
pub record Turn : Type 0 where
  pub server : ℕ
  pub step : Step

-- the steps of one server
abbrev pub steps_of : ℕ → List Turn → List Step
steps_of i [] = []
steps_of i (turn ∷ turns) = if turn.server == i then turn.step ∷ steps_of i turns else steps_of i turns

-- a message that server i is given was sent to it in one of these turns
abbrev pub IsHeard : List Turn → ℕ → Event → Type 0
IsHeard turns i (Given (Receive from message)) =
    (turn : Turn) × Contains turns turn × (turn.server ≡ from) × Contains turn.step.sent (record { to = i; message = message })
IsHeard turns i event = Unit {0}

-- The links may hold any number of messages, more than the world's bag takes. Before a step they hand over the message
-- that the server is given.
abbrev pub handed : ℕ → Event → Bag
handed i (Given (Receive from message)) = record { packets = record { number = 1; from = from; to = i; message = message } ∷ []; last = 1 }
handed i event = record { packets = []; last = 0 }

abbrev pub handing : World → ℕ → Event → World
handing w i event = record w { bag = handed i event }

-- the world's move in which server i makes a step
abbrev pub move_of : ℕ → Event → Move
move_of i (Given Timeout) = TimesOut i
move_of i (Given Beat) = Beats i
move_of i (Given (Receive from message)) = Delivers 1
move_of i (Given (Propose number command)) = Proposes i number command
move_of i (Given Probe) = Probes i
move_of i Restart = Restarts i

-- server i becomes and sends in it what its journal says
abbrev pub Makes : World → ℕ → Step → Event → World → Type 0
Makes w i s (Given input) v = (acts : Acts w i input v) × (acts.new ≡ s.node) × (acts.sent ≡ s.sent)
Makes w i s Restart v = IsServer v i s.node × (s.sent ≡ [])

-- After these earlier turns, one more leads from world w to world v.
pub record Takes (earlier : List Turn) (w : World) (turn : Turn) (v : World) : Type 0 where
  pub heard : IsHeard earlier turn.server turn.step.event
  pub moves : WorldStep (handing w turn.server turn.step.event) (move_of turn.server turn.step.event) v
  pub makes : Makes (handing w turn.server turn.step.event) turn.server turn.step turn.step.event v

-- After these earlier turns, the next ones lead from one world to another.
pub data Leads : List Turn → World → List Turn → World → Type 0 where
  ends : {earlier : List Turn} {w : World} → Leads earlier w [] w
  goes : {earlier turns : List Turn} {w v u : World} (turn : Turn) → Takes earlier w turn v → Leads (turn ∷ earlier) v turns u → Leads earlier w (turn ∷ turns) u

-- What Raft promises of a world: agreement, one leader a term, logs that match, and an agreed log that is well formed.
pub record IsAgreed (w : World) : Type 0 where
  pub agrees : Agrees w
  pub leader : HasOneLeader w
  pub matching : HasMatchingLogs w
  pub well_formed : IsWellFormed w.agreed

-- The processes' journals are those of one run of a world that began with empty stores.
pub record AreOneWorld (processes : List Process) : Type 0 where
  pub stores : List Store
  pub empty : AreEmpty stores
  pub first : World
  pub begins : Begins stores first
  pub starts : first.nodes ≡ map (λ p. p.start) processes
  pub turns : List Turn
  pub last : World
  pub run : Leads [] first turns last
  pub steps : (i : ℕ) (p : Process) → IsProcess processes i p → steps_of i turns ≡ p.steps
  pub nodes : (i : ℕ) (p : Process) → IsProcess processes i p → IsServer last i (ended p.start p.steps)
  pub agreed : IsAgreed last
