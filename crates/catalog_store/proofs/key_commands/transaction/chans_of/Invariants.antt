use Rattle.std.proofs.Common.{◌≡◌, take, map}
use Rattle.cat_model.specs.declared.query.Chan.TheVariants.{Key}
use Rattle.txn_engine.specs.Changes.{change_key}
use Rattle.catalog_store.proofs.key_commands.transaction.chans_of.Given as goal

abbrev pub invariant-loop-change : goal.invariant-loop-change
invariant-loop-change l = l.chans ≡ map (λ change. Key (change_key change)) (take l.change-index l.changes)
