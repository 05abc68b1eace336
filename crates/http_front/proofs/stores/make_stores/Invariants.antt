use Rattle.std.proofs.Common.{◌≡◌, ◌-◌, ◌≤◌, None, Some, true, length, map}
use Rattle.std.specs.Prelude.{All}
use Rattle.std.specs.Option.{ForSome}
use Rattle.cat_model.specs.Keeping.{nothing_kept}
use Rattle.cluster_interface.specs.Starting.{store_of}
use Rattle.serve_outside.specs.Stores.{AddsMade, KeepsLimits, made_from}
use Rattle.http_front.proofs.stores.make_stores.Given as goal

-- the stores so far are those of the first servers
abbrev pub invariant-loop-made : goal.invariant-loop-made
invariant-loop-made g l =
    (length l.stores ≡ l.made)
    × All (λ k. (g.Ks.K.Keeper.armed k ≡ 0) × (g.Ks.K.Keeper.faults k ≡ 0)) l.stores
    × All (λ k. ForSome (g.Ks.K.Keeper.held k) KeepsLimits) l.stores
    × (l.options.folder ≡ None → All (λ k. (g.Ks.K.Keeper.held k ≡ Some nothing_kept) × (g.Ks.K.Keeper.sure k ≡ true)) l.stores)
    × AddsMade (g.Ks.Keepers.made l.fn.keepers) (g.Ks.Keepers.made l.keepers) (made_from l.options.folder 1 (map (λ k. store_of (g.Ks.K.Keeper.held k) (g.Ks.K.Keeper.armed k) (g.Ks.K.Keeper.faults k) (g.Ks.K.Keeper.sure k)) l.stores))
    × (g.Ks.Keepers.faults l.keepers ≡ g.Ks.Keepers.faults l.fn.keepers)
    × (l.made ≤ l.servers)

abbrev pub decreases-loop-made : goal.decreases-loop-made
decreases-loop-made g l = l.servers - l.made
