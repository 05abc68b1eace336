use Rattle.std.proofs.Common.{◌≡◌, take, map}
use Rattle.cat_model.specs.declared.query.Chan.TheVariants.{Service}
use Rattle.catalog_store.proofs.registrations.name_chans.Given as goal

abbrev pub invariant-loop-name : goal.invariant-loop-name
invariant-loop-name l = l.chans ≡ map (λ name. Service name) (take l.name-index l.names)
