use Rattle.std.proofs.Common.{◌≡◌, ◌⊎◌, ◌≤◌, map}
use Rattle.outside.specs.Causes.{Rose}
use Rattle.http_front.specs.Stores.{HasOneFailed}
use Rattle.http_front.proofs.stores.give_back.Given as goal

-- one of those that are left has failed, or one that was given back
abbrev pub invariant-loop-store : goal.invariant-loop-store
invariant-loop-store g l =
    (HasOneFailed (map (λ k. g.Ks.K.Keeper.faults k) l.stores.items) ⊎ Rose (g.Ks.Keepers.faults l.fn.keepers) (g.Ks.Keepers.faults l.keepers))
    × (g.Ks.Keepers.faults l.fn.keepers ≤ g.Ks.Keepers.faults l.keepers)
    × (g.Ks.Keepers.made l.keepers ≡ g.Ks.Keepers.made l.fn.keepers)

abbrev pub decreases-loop-store : goal.decreases-loop-store
decreases-loop-store g l = goal.left-loop-store g l
