use Rattle.std.proofs.Common.{◌≡◌, ◌∙◌, ◌++◌, [], ◌∷◌, sym, ap, take, append-nil}
use Rattle.std.specs.List.{filter_map, cons_option}
use Rattle.std.proofs.lemmas.Fn.{says_at}
use Rattle.std.proofs.lemmas.List.{take_all}
use Rattle.cat_model.proofs.Items.{next_chosen}
use Rattle.cat_model.proofs.lists.maps.chosen.Goals as goal
use Rattle.cat_model.proofs.lists.maps.chosen.Goals.{in-Some+in_ok-push, in_default}

pub loop-item-preserved : goal.loop-item-preserved
loop-item-preserved g c = λ f h.
    let so_far = filter_map f (take c.loop-item.item-index c.args.items.now) in
    let said : c.in_ok-one.field-0 ≡ f c.item-item.result = h c.item-item.result c.in_ok-one.field-0 (says_at g.F.Fn c.make.ensures c.in_ok-one.was) in
    let step = next_chosen f c.args.items.now c.loop-item.item-index c.item-item.result c.in_ok-one.field-0 c.loop-item-test.true c.item-item.is said in
    elim c.match-branch-2.branch [
      | in-Some+in_ok-push w ↦
          ap (λ v. v.items) w.all-is ∙ w.in_ok-push.ensures.items ∙ ap (λ l. l ++ (w.in-Some.one ∷ [])) (c.loop-item.invariant f h) ∙ ap (λ o. so_far ++ cons_option o []) (sym w.in-Some.is) ∙ sym step
      | in_default w ↦
          ap (λ v. v.items) w.all-is ∙ c.loop-item.invariant f h ∙ sym (append-nil so_far) ∙ ap (λ o. so_far ++ cons_option o []) (sym w.in_default.is) ∙ sym step
    ]

pub returns : goal.returns
returns g c = λ f h. c.from.ensures ∙ c.loop-item.invariant f h ∙ ap (filter_map f) (take_all c.loop-item.item-index c.args.items.now c.loop-item-test.false)
