-- What happened before what (Lamport): each step has a time, which rises along a journal, and from the step that sends
-- a message to each step that is given it. The times of different processes are not compared otherwise.
use Rattle.std.specs.Prelude.{ℕ, suc, ◌<◌, ◌≤◌, List, [], ◌∷◌, Contains}
use Rattle.raft_model.specs.Rules.{Receive}
use Rattle.node_journals.specs.Journals.{Event, Given, Step, Process, IsProcess, Made}

-- the steps' times rise, from this one on
abbrev pub Rises : ℕ → List Step → Type 0
Rises from [] = Unit {0}
Rises from (s ∷ steps) = (from ≤ s.time) × Rises (suc s.time) steps

-- A message that process i was given at this time was sent to it by its sender, in an earlier step. It may be given
-- again, in any order, or never.
abbrev pub WasSent : List Process → ℕ → ℕ → Event → Type 0
WasSent processes i time (Given (Receive from message)) =
    (s : Step) × Made processes from s × (s.time < time) × Contains s.sent (record { to = i; message = message })
WasSent processes i time event = Unit {0}

pub record AreCausal (processes : List Process) : Type 0 where
  pub rise : (i : ℕ) (p : Process) → IsProcess processes i p → Rises 0 p.steps
  pub sent : (i : ℕ) (s : Step) → Made processes i s → WasSent processes i s.time s.event
