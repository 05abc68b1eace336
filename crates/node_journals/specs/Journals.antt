-- What the processes of a cluster did, one Raft node a process: the journal of each is the list of its steps, the
-- earliest first. Processes have the numbers 1, 2, ..
use Rattle.std.specs.Prelude.{◌≡◌, ℕ, zero, suc, ◌<◌, ◌⊎◌, List, [], ◌∷◌, length, map, get_or, Contains}
use Rattle.raft_model.specs.declared.message.Sent.{Sent}
use Rattle.raft_model.specs.Node.{Node, Store}
use Rattle.raft_model.specs.Rules.{Input, Propose}
use Rattle.raft_model.specs.Step.{Outcome, NodeStep, RestartWorks, RestartFails}
use Rattle.raft_model.specs.World.{AreEmpty, StartAll}

-- What a node was given: a timeout, a heartbeat, a message, a proposal or a probe; or it ended, and began again over
-- its store.
pub data Event : Type 0 where
  Given : (input : Input) → Event
  Restart : Event

-- a step, with the node after it and what it sent
pub record Step : Type 0 where
  pub time : ℕ
  pub event : Event
  pub node : Node
  pub sent : List Sent

-- Processes share no count of proposals, so these have the number 0.
abbrev pub IsUnnumbered : Input → Type 0
IsUnnumbered (Propose number command) = number ≡ 0
IsUnnumbered input = Unit {0}

-- the rules allow this step of a node, whatever its store does
abbrev pub IsStep : Node → Event → Node → List Sent → Type 0
IsStep old (Given input) new sent = IsUnnumbered input × (outcome : Outcome) × NodeStep outcome old input new sent
IsStep old Restart new sent = (RestartWorks old new ⊎ RestartFails old new) × (sent ≡ [])

-- the rules allow these steps, one after another
abbrev pub IsJournal : Node → List Step → Type 0
IsJournal node [] = Unit {0}
IsJournal node (s ∷ steps) = IsStep node s.event s.node s.sent × IsJournal s.node steps

-- a node as it started, and its journal since
pub record Process : Type 0 where
  pub start : Node
  pub steps : List Step

-- the node after its last step
abbrev pub ended : Node → List Step → Node
ended node [] = node
ended node (s ∷ steps) = ended s.node steps

-- process i is this one
abbrev pub IsProcess : List Process → ℕ → Process → Type 0
IsProcess processes zero p = ⊥
IsProcess processes (suc i) p = (i < length processes) × (get_or processes i p ≡ p)

-- They started over empty stores, and the rules allow their journals.
pub record AreProcesses (processes : List Process) : Type 0 where
  pub stores : List Store
  pub empty : AreEmpty stores
  pub started : StartAll (length stores) 1 stores (map (λ p. p.start) processes)
  pub journals : (i : ℕ) (p : Process) → IsProcess processes i p → IsJournal p.start p.steps

-- process i made this step
abbrev pub Made : List Process → ℕ → Step → Type 0
Made processes i s = (p : Process) × IsProcess processes i p × Contains p.steps s

-- the node of process i was this, at the start or after a step
abbrev pub Was : List Process → ℕ → Node → Type 0
Was processes i n = ((p : Process) × IsProcess processes i p × (p.start ≡ n)) ⊎ ((s : Step) × Made processes i s × (s.node ≡ n))
