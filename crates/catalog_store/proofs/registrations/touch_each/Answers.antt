use Rattle.std.proofs.Common.{◌++◌, ◌∷◌, [], ℕ, List, take, sym, ◌∙◌, ap, subst}
use Rattle.std.proofs.lemmas.List.{take_more}
use Rattle.touch_positions.specs.States.{TouchesName}
use Rattle.catalog_store.specs.Registering.{TouchesEach}
use Rattle.catalog_store.proofs.Marking.{touches_more, touched_name}
use Rattle.catalog_store.proofs.registrations.touch_each.Goals as goal

pub loop-name-preserved : goal.loop-name-preserved
loop-name-preserved c =
    let touched : TouchesName c.name-item.result c.args.position c.loop-name.indexes.now c.touch_service.new.self.now = subst (λ (n : List ℕ). TouchesName n c.args.position c.loop-name.indexes.now c.touch_service.new.self.now) c.as_str.ensures c.in_ok-touch_service.ensures.ok in (
      subst (λ (l : List (List ℕ)). TouchesEach l c.args.position c.args.indexes.now.now c.touch_service.new.self.now)
          (sym (take_more c.args.names.now c.loop-name.name-index c.name-item.result c.loop-name-test.true ∙ ap (λ (y : List ℕ). take c.loop-name.name-index c.args.names.now ++ y ∷ []) (sym c.name-item.is)))
          (touches_more c.args.position (take c.loop-name.name-index c.args.names.now) c.name-item.result c.args.indexes.now.now c.loop-name.indexes.now c.touch_service.new.self.now c.loop-name.invariant.0 touched),
      touched_name c.args.position c.name-item.result c.loop-name.indexes.now c.touch_service.new.self.now c.loop-name.invariant.1 touched,
      c.touch_service.ensures.before ∙ c.loop-name.invariant.2,
    )
