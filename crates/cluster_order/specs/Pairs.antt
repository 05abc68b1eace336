-- Deliveries, each followed by the same message's loss.
use Rattle.std.specs.Prelude.{◌≡◌, ◌⊎◌, ℕ, ◌≤◌, ◌<◌, true, false, ◌∷◌, Option, None, Some}
use Rattle.cat_model.specs.declared.request.Event.TheVariants as event
use Rattle.cat_model.specs.declared.reply.Mark.TheVariants as mark
use Rattle.raft_model.specs.World.{Packet}
use Rattle.cluster_rules.specs.Cluster.{Cluster}
use Rattle.cluster_rules.specs.Step.{ClusterStep}
use Rattle.cluster_rules.specs.Reached.{Fits, Settling, lowest}

-- the number of the lowest message, if there is one
abbrev pub HasLowest : Option ℕ → Cluster → Type 0
HasLowest None c = lowest c.world.bag.packets ≡ None
HasLowest (Some k) c = (p : Packet) × (lowest c.world.bag.packets ≡ Some p) × (p.number ≡ k)

-- one whole pair
abbrev pub IsPair : Cluster → Cluster → Type 0
IsPair c c' =
    (p : Packet) × (c₁ : Cluster) × (lowest c.world.bag.packets ≡ Some p)
    × Fits c (event.Deliver p.number) × ClusterStep c (event.Deliver p.number) c₁ true
    × Fits c₁ (event.Drop p.number) × ClusterStep c₁ (event.Drop p.number) c' true

-- a pair that was cut short: nothing, or a part of the delivery, since a loss takes no memory
abbrev pub IsPartOfPair : Cluster → Cluster → Type 0
IsPartOfPair c c' =
    (c' ≡ c)
    ⊎ ((p : Packet) × (lowest c.world.bag.packets ≡ Some p) × Fits c (event.Deliver p.number) × ClusterStep c (event.Deliver p.number) c' false)

-- the mark of so many whole pairs
abbrev pub settled : ℕ → Cluster → Cluster
settled pairs c = record c { past = mark.Settled pairs true ∷ c.past }

-- So many pairs were made, and marked. There are fewer than `most` only where no message is left.
abbrev pub IsSettled : ℕ → ℕ → Cluster → Cluster → Type 0
IsSettled most pairs c c' =
    (pairs ≤ most) × ((c₁ : Cluster) × Settling pairs c c₁ × ((pairs ≡ most) ⊎ (lowest c₁.world.bag.packets ≡ None)) × (c' ≡ settled pairs c₁))

-- Memory ran out after so many pairs, in the next one. Their mark takes none.
abbrev pub IsPartlySettled : ℕ → Cluster → Cluster → Type 0
IsPartlySettled most c c' = (pairs : ℕ) × (pairs < most) × ((c₁ : Cluster) × Settling pairs c c₁ × IsPartOfPair c₁ c')
