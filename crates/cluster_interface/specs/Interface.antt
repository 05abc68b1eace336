-- What the calls of a cluster do, of those that its front ends make.
use Rattle.std.specs.Prelude.{◌≡◌, ◌⊎◌, ◌≤◌, ℕ, List, [], ◌∷◌, map, length, Option, None, Some}
use Rattle.cat_model.specs.declared.request.Event.{Event}
use Rattle.cat_model.specs.declared.request.Event.TheVariants as event
use Rattle.cat_model.specs.Taken.{IsTakenAsked}
use Rattle.cluster_rules.specs.Replies.{Out, number_of}
use Rattle.cluster_rules.specs.Cluster.{Cluster}
use Rattle.cluster_rules.specs.Reached.{Settling}
use Rattle.run_rules.specs.Plays.{taken, settled}

-- the events that are taken: each one, and of requests those that are taken
abbrev pub IsPlayed : Event → Type 0
IsPlayed (event.Ask agent asked draw) = IsTakenAsked asked
IsPlayed other = Unit {0}

-- So many pairs of a delivery and a loss, and their mark: the most that were asked for, or fewer where no message is
-- under way any more.
abbrev pub SettlesTo : ℕ → Cluster → Cluster → ℕ → Type 0
SettlesTo most c c' pairs =
    (mid : Cluster) × Settling pairs c mid × (c' ≡ settled pairs mid) × (pairs ≤ most) × ((pairs ≡ most) ⊎ (mid.world.bag.packets ≡ []))

-- The first out is taken, and its taking is marked. Where there is none, nothing changes.
abbrev pub TakesFirst : Cluster → Cluster → Option Out → Type 0
TakesFirst c c' None = (c.tray ≡ []) × (c' ≡ c)
TakesFirst c c' (Some out) =
    (rest : List Out) × (c.tray ≡ out ∷ rest) × (c' ≡ record c { tray = rest; past = taken (number_of out) c.past })

-- the numbers of the requests that are held
abbrev pub held_numbers : Cluster → List ℕ
held_numbers c = map (λ h. h.question.number) c.held

-- how many entries of the agreed log each server has applied
abbrev pub applied_lengths : Cluster → List ℕ
applied_lengths c = map (λ s. length s.applied) c.servers
