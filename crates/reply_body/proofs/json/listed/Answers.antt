use Rattle.std.proofs.Common.{◌≡◌, ◌∙◌, ap, map}
use Rattle.std.proofs.lemmas.Fn.{says_at}
use Rattle.std.proofs.lemmas.List.{take_all}
use Rattle.serde_json.specs.Data.{array}
use Rattle.serde_json.specs.View.{view, items_of}
use Rattle.serde_json.proofs.Views.{view-Array}
use Rattle.reply_body.proofs.Items.{next_listed}
use Rattle.reply_body.proofs.json.listed.Goals as goal

pub loop-item-preserved : goal.loop-item-preserved
loop-item-preserved g c = λ f h.
    let said : view c.in_ok-make.field-0 ≡ f c.item-item.result = h c.item-item.result c.in_ok-make.field-0 (says_at g.F.Fn c.make.ensures c.in_ok-make.was) in
    ap (map view) c.in_ok-push.ensures.items
    ∙ next_listed f c.loop-item.all.items c.in_ok-make.field-0 c.args.items.now c.loop-item.item-index c.item-item.result c.loop-item-test.true c.item-item.is said (c.loop-item.invariant f h)

pub returns : goal.returns
returns g c = λ f h. view-Array c.loop-item.all ∙ ap (λ ds. array (items_of ds)) (c.loop-item.invariant f h ∙ ap (map f) (take_all c.loop-item.item-index c.args.items.now c.loop-item-test.false))
