-- What is marked of a step that a server's node made.
use Rattle.std.specs.Prelude.{◌≡◌, ◌≢◌, ℕ, ◌==◌, ◌&&◌, not, if◌then◌else◌, Bool, length, Result, Ok, Err}
use Rattle.cat_model.specs.declared.memory.Memory.{Memory}
use Rattle.raft_model.specs.Log.{Log}
use Rattle.raft_model.specs.World.{World}
use Rattle.cluster_rules.specs.Offices.{office_from}
use Rattle.cluster_rules.specs.Cluster.{clock_of, node_of, runs_leading}
use Rattle.cluster_replicas.specs.Servers.{Servers, officed}
use Rattle.cluster_order.specs.declared.cut.Cut.{Cut}
use Rattle.cluster_order.specs.declared.cut.Cut.TheVariants.{Before, Within}
use Rattle.cluster_requests.specs.Requests.{Requests, halted_with, joining}
use Rattle.cluster_works.specs.declared.moves.Seen.{Seen}

-- what is seen of server i in this world
abbrev pub seen_of : World → ℕ → Seen
seen_of w i = record { halted = (node_of w i).halted; leads = runs_leading w i; term = (node_of w i).term; agreed = length w.agreed }

-- Server i takes office where it leads now, and did not before in this term.
abbrev pub Seats : Seen → Seen → ℕ → Servers → Servers → Type 0
Seats before now i old new = new ≡ (if now.leads && not (before.leads && (before.term == now.term)) then officed i (office_from (clock_of old.world i)) old else old)

-- a server's store failed or not, and the entries of this agreed log from a place on joined it
abbrev pub IsMarked : Bool → (i from : ℕ) → Log → Requests → Requests → Type 0
IsMarked failed i from agreed old new = new ≡ joining from agreed (halted_with failed i old)

-- a step of server i is marked, by what was seen before and what is seen now
abbrev pub MarksStep : Seen → Seen → ℕ → Log → Requests → Requests → Type 0
MarksStep before now i agreed old new = IsMarked (not before.halted && now.halted) i before.agreed agreed old new

-- A call that was a step is marked. One that found no memory was a part of a step exactly where the term differs.
abbrev pub Ends : Seen → Seen → ℕ → Log → Result Unit Memory → Result Unit Cut → Requests → Requests → Type 0
Ends before now i agreed (Ok _) (Ok _) old new = MarksStep before now i agreed old new
Ends before now i agreed (Ok _) (Err _) old new = ⊥
Ends before now i agreed (Err _) (Ok _) old new = ⊥
Ends before now i agreed (Err _) (Err Before) old new = (now.term ≡ before.term) × (new ≡ old)
Ends before now i agreed (Err _) (Err Within) old new = (now.term ≢ before.term) × MarksStep before now i agreed old new
