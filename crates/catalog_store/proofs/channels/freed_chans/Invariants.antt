use Rattle.std.proofs.Common.{◌≡◌, take, map}
use Rattle.cat_model.specs.declared.query.Chan.TheVariants.{Key}
use Rattle.catalog_store.proofs.channels.freed_chans.Given as goal

abbrev pub invariant-loop-f : goal.invariant-loop-f
invariant-loop-f l = l.chans ≡ map (λ f. Key f.key) (take l.f-index l.freed)
