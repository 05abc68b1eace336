-- How much is left to do at a server: each thing that is done there leaves less, so making up comes to an end.
use Rattle.std.specs.Prelude.{ℕ, ◌+◌, ◌-◌, ◌==◌, if◌then◌else◌, List, [], ◌∷◌, length}
use Rattle.cluster_rules.specs.Cluster.{Stand, AtPlace, InRound, ForIndex, Ended, Pending, Cluster, node_of, applied_of}

-- how many things may be done for a request
abbrev pub stand_weight : Stand → ℕ
stand_weight (Ended event) = 1
stand_weight (AtPlace index term) = 1
stand_weight (InRound round deadline) = 3
stand_weight (ForIndex deadline looked) = if looked then 1 else 2

-- and for one of another server
abbrev pub weight : ℕ → Pending → ℕ
weight i h = if h.server == i then stand_weight h.stand else 3

-- for all that are held
abbrev pub total : ℕ → List Pending → ℕ
total i [] = 0
total i (h ∷ hs) = weight i h + total i hs

-- the positions not yet applied, and the requests held: a position makes no more to be done for them
abbrev pub left : ℕ → Cluster → ℕ
left i c = (node_of c.world i).commit - length (applied_of c i) + total i c.held
