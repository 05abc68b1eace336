use Rattle.std.proofs.Common.{◌≡◌, ◌∙◌, ◌++◌, sym, ap}
use Rattle.std.proofs.lemmas.Fn.{says_at}
use Rattle.std.proofs.lemmas.List.{take_all}
use Rattle.cat_model.specs.Lists.{flat}
use Rattle.cat_model.proofs.Items.{next_gathered}
use Rattle.cat_model.proofs.lists.maps.gathered.Goals as goal

pub loop-item-preserved : goal.loop-item-preserved
loop-item-preserved g c = λ f h.
    let said : c.in_ok-make.field-0 ≡ f c.item-item.result = h c.item-item.result c.in_ok-make.field-0 (says_at g.F.Fn c.make.ensures c.in_ok-make.was) in
    c.in_ok-append.ensures.items ∙ (λ i. c.loop-item.invariant f h i ++ c.into_vec-more.ensures i)
    ∙ sym (next_gathered f c.args.items.now c.loop-item.item-index c.item-item.result c.in_ok-make.field-0 c.loop-item-test.true c.item-item.is said)

pub returns : goal.returns
returns g c = λ f h. c.from.ensures ∙ c.loop-item.invariant f h ∙ ap (flat f) (take_all c.loop-item.item-index c.args.items.now c.loop-item-test.false)
