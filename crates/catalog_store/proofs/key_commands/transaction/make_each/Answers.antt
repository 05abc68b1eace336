use Rattle.std.proofs.Common.{◌++◌, ◌∷◌, [], List, take, sym, ◌∙◌, ap, subst}
use Rattle.std.proofs.lemmas.List.{take_more}
use Rattle.txn_engine.specs.declared.change.Change.{Change}
use Rattle.catalog_store.specs.Changes.{MakesEach}
use Rattle.catalog_store.proofs.Changes.{makes_more}
use Rattle.catalog_store.proofs.key_commands.transaction.make_each.Goals as goal

pub loop-change-preserved : goal.loop-change-preserved
loop-change-preserved c =
    subst (λ (l : List Change). MakesEach l c.args.position c.args.table.now c.make.new.table)
    (sym (take_more c.args.changes.now c.loop-change.change-index c.change-item.result c.loop-change-test.true ∙ ap (λ (y : Change). take c.loop-change.change-index c.args.changes.now ++ y ∷ []) (sym c.change-item.is)))
    (makes_more (take c.loop-change.change-index c.args.changes.now) c.change-item.result c.args.position c.args.table.now c.loop-change.table c.make.new.table c.loop-change.invariant c.in_ok-make.ensures.ok)
