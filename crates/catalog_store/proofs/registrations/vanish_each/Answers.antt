use Rattle.std.proofs.Common.{◌++◌, ◌∷◌, [], ℕ, ◌≤◌, List, take, sym, ◌∙◌, ap, subst, arith}
use Rattle.std.proofs.lemmas.List.{take_more}
use Rattle.touch_positions.specs.States.{VanishesName}
use Rattle.catalog_store.specs.Registering.{VanishesEach}
use Rattle.catalog_store.proofs.Marking.{vanishes_more}
use Rattle.catalog_store.proofs.registrations.vanish_each.Goals as goal

pub loop-name-preserved : goal.loop-name-preserved
loop-name-preserved c =
    let gone : VanishesName c.name-item.result c.args.position c.loop-name.indexes.now c.vanish.new.self.now = subst (λ (n : List ℕ). VanishesName n c.args.position c.loop-name.indexes.now c.vanish.new.self.now) c.as_str.ensures c.in_ok-vanish.ensures.ok in
    let low : c.args.position ≤ c.args.position = omega arith in (
      subst (λ (l : List (List ℕ)). VanishesEach l c.args.position c.args.indexes.now.now c.vanish.new.self.now)
          (sym (take_more c.args.names.now c.loop-name.name-index c.name-item.result c.loop-name-test.true ∙ ap (λ (y : List ℕ). take c.loop-name.name-index c.args.names.now ++ y ∷ []) (sym c.name-item.is)))
          (vanishes_more c.args.position (take c.loop-name.name-index c.args.names.now) c.name-item.result c.args.indexes.now.now c.loop-name.indexes.now c.vanish.new.self.now c.loop-name.invariant.0 gone),
      subst (λ (n : ℕ). n ≤ c.args.position) (sym gone.vanished) low,
      c.vanish.ensures.before ∙ c.loop-name.invariant.2,
    )
