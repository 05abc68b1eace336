use Rattle.std.proofs.Common.{◌≡◌, ◌∙◌, Some, true, arith}
use Rattle.std.specs.Option.{ForSome}
use Rattle.cat_model.specs.Keeping.{nothing_kept}
use Rattle.cluster_interface.specs.Starting.{store_of}
use Rattle.serve_outside.specs.Stores.{KeepsLimits}
use Rattle.http_front.proofs.Making.{all_more, counted_more, made_more}
use Rattle.http_front.proofs.stores.make_stores.Goals as goal

pub loop-made-preserved : goal.loop-made-preserved
loop-made-preserved g c =
    let kept = c.loop-made.invariant in let grown = c.in-Ok.ensures.ok in let one = c.in_ok-store in (
      counted_more c.loop-made.stores c.push.new.self one.store c.loop-made.made grown kept.0,
      all_more (λ k. (g.Ks.K.Keeper.armed k ≡ 0) × (g.Ks.K.Keeper.faults k ≡ 0)) c.loop-made.stores c.push.new.self one.store grown kept.1 one.ensures.unused,
      all_more (λ k. ForSome (g.Ks.K.Keeper.held k) KeepsLimits) c.loop-made.stores c.push.new.self one.store grown kept.2 one.ensures.limits,
      (λ none. all_more (λ k. (g.Ks.K.Keeper.held k ≡ Some nothing_kept) × (g.Ks.K.Keeper.sure k ≡ true)) c.loop-made.stores c.push.new.self one.store grown (kept.3 none) (one.ensures.empty none)),
      made_more (λ k. store_of (g.Ks.K.Keeper.held k) (g.Ks.K.Keeper.armed k) (g.Ks.K.Keeper.faults k) (g.Ks.K.Keeper.sure k)) c.args.options.now.folder
          (g.Ks.Keepers.made c.args.keepers.now) (g.Ks.Keepers.made c.loop-made.keepers) (g.Ks.Keepers.made c.make.new.self) c.loop-made.stores c.push.new.self one.store c.loop-made.made grown kept.0 kept.4 one.ensures.told,
      one.ensures.cause.ok ∙ kept.5,
      omega (arith, c.loop-made-test.true),
    )
