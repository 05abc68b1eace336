use Rattle.std.proofs.Common.{◌≡◌, ◌∙◌, refl, sym, ap, filter, map}
use Rattle.std.proofs.lemmas.Fn.{says_at}
use Rattle.std.proofs.lemmas.List.{take_all}
use Rattle.serde_json.specs.Data.{array}
use Rattle.serde_json.specs.View.{view, items_of}
use Rattle.serde_json.proofs.Views.{view-Array}
use Rattle.reply_body.proofs.Items.{next_where, next_left}
use Rattle.reply_body.proofs.json.listed_where.Goals.{then-passes+in_ok-make+in_ok-push, else-passes}
use Rattle.reply_body.proofs.json.listed_where.Goals as goal

pub loop-item-preserved : goal.loop-item-preserved
loop-item-preserved g c = λ p f t h.
    let x = c.item-item.result in
    let tells : c.passes.result ≡ p x = t x c.passes.result (says_at g.P.Fn c.passes.ensures refl) in
    let before = c.loop-item.invariant p f t h in
    elim c.if-passes.branch [
      | then-passes+in_ok-make+in_ok-push w ↦
          let said : view w.in_ok-make.field-0 ≡ f x = h x w.in_ok-make.field-0 (says_at g.F.Fn w.make.ensures w.in_ok-make.was) in
          rw w.kept-is (ap (map view) w.in_ok-push.ensures.items ∙ next_where p f c.loop-item.kept.items w.in_ok-make.field-0 c.args.items.now c.loop-item.item-index x c.loop-item-test.true c.item-item.is (sym tells ∙ w.if-passes.true) said before)
      | else-passes w ↦
          rw w.kept-is (next_left p f c.loop-item.kept.items c.args.items.now c.loop-item.item-index x c.loop-item-test.true c.item-item.is (sym tells ∙ w.if-passes.false) before)
    ]

pub returns : goal.returns
returns g c = λ p f t h. view-Array c.loop-item.kept ∙ ap (λ ds. array (items_of ds)) (c.loop-item.invariant p f t h ∙ ap (λ xs. map f (filter p xs)) (take_all c.loop-item.item-index c.args.items.now c.loop-item-test.false))
