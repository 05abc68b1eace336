use Rattle.std.proofs.Common.{◌≡◌, take, map}
use Rattle.cat_model.specs.declared.query.Chan.TheVariants.{Key}
use Rattle.catalog_store.proofs.key_commands.keys.chans_of.Given as goal

abbrev pub invariant-loop-key : goal.invariant-loop-key
invariant-loop-key l = l.chans ≡ map (λ key. Key key) (take l.key-index l.keys)
