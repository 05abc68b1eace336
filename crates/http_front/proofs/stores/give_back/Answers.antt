use Rattle.std.proofs.Common.{inl, map, refl, sym, ◌∙◌, subst, arith}
use Rattle.http_front.specs.Stores.{HasOneFailed}
use Rattle.http_front.proofs.Failing.{given_back}
use Rattle.http_front.proofs.stores.give_back.Goals as goal

pub loop-store-init : goal.loop-store-init
loop-store-init g c =
    (inl (subst (λ ks. HasOneFailed (map (λ k. g.Ks.K.Keeper.faults k) ks)) (sym c.into_vec-stores.ensures) c.requires.failed), omega arith, refl)

pub loop-store-preserved : goal.loop-store-preserved
loop-store-preserved g c =
    let kept = c.loop-store.invariant in (
      given_back (λ k. g.Ks.K.Keeper.faults k) c.loop-store.stores.items c.pop.new.self.items c.in-Some.store (g.Ks.Keepers.faults c.args.keepers.now) (g.Ks.Keepers.faults c.loop-store.keepers) (g.Ks.Keepers.faults c.close.new.self)
          c.in-Some.ensures.items kept.0 kept.1 c.close.ensures.counted c.close.ensures.later,
      omega (arith, kept.1, c.close.ensures.later),
      c.close.ensures.same ∙ kept.2,
    )
