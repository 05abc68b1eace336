use Rattle.std.proofs.Common.{◌++◌, ◌∷◌, [], ℕ, List, take, sym, ◌∙◌, ap, subst}
use Rattle.std.proofs.lemmas.List.{take_more}
use Rattle.catalog_store.specs.Steps.{BuriesEach}
use Rattle.catalog_store.proofs.Trees.{buries_more}
use Rattle.catalog_store.proofs.key_commands.keys.bury_each.Goals as goal

pub loop-key-preserved : goal.loop-key-preserved
loop-key-preserved c =
    subst (λ (l : List (List ℕ)). BuriesEach l c.args.position c.args.table.now c.bury.new.table)
    (sym (take_more c.args.keys.now c.loop-key.key-index c.key-item.result c.loop-key-test.true ∙ ap (λ (y : List ℕ). take c.loop-key.key-index c.args.keys.now ++ y ∷ []) (sym c.key-item.is)))
    (buries_more (take c.loop-key.key-index c.args.keys.now) c.key-item.result c.args.position c.args.table.now c.loop-key.table c.bury.new.table c.loop-key.invariant c.in_ok-bury.ensures.ok)
