-- Hosts whose links deliver only what was sent.
use Rattle.std.specs.Prelude.{ℕ, suc, List, [], ◌∷◌, length, map}
use Rattle.std.specs.List.{AllByRecursion}
use Rattle.raft_model.specs.Node.{Store}
use Rattle.raft_model.specs.World.{AreEmpty, StartAll}
use Rattle.node_journals.specs.Causal.{AreCausal}
use Rattle.node_journals.specs.Journals.{Process, Step}
use Rattle.node_link.specs.Hosts.{Hosted, IsHost}

abbrev pub processes_of : List Hosted → List Process
processes_of hosts = map (λ h. h.process) hosts

-- Hosts 1, 2, .. of a cluster, which began over empty stores.
pub record AreHosts (hosts : List Hosted) : Type 0 where
  pub stores : List Store
  pub empty : AreEmpty stores
  pub started : StartAll (length stores) 1 stores (map (λ p. p.start) (processes_of hosts))
  pub told : AllByRecursion IsHost hosts

-- the steps at the times of a clock, which it gives to their numbers
abbrev pub at_times : (ℕ → ℕ) → List Step → List Step
at_times clock [] = []
at_times clock (s ∷ steps) = record { time = clock s.time; event = s.event; node = s.node; sent = s.sent } ∷ at_times clock steps

-- the processes from number i on, each with its clock
abbrev pub observed : (ℕ → ℕ → ℕ) → ℕ → List Process → List Process
observed clocks i [] = []
observed clocks i (p ∷ ps) = record { start = p.start; steps = at_times (clocks i) p.steps } ∷ observed clocks (suc i) ps

-- Each message that a host was given was sent before: there are times of all hosts' steps of which that is true.
abbrev pub AreLinked : List Hosted → Type 0
AreLinked hosts = (clocks : ℕ → ℕ → ℕ) × AreCausal (observed clocks 1 (processes_of hosts))
