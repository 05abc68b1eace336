use Rattle.std.proofs.Common.{◌≡◌, ◌∙◌, ◌++◌, [], ◌∷◌, sym, ap, cond, filter, take, append-nil}
use Rattle.std.proofs.lemmas.Fn.{says_at}
use Rattle.std.proofs.lemmas.List.{take_all}
use Rattle.std.proofs.Common.{refl}
use Rattle.cat_model.proofs.Items.{next_kept}
use Rattle.cat_model.proofs.lists.maps.kept.Goals as goal
use Rattle.cat_model.proofs.lists.maps.kept.Goals.{then-test+in_ok-clone+in_ok-push, else-test}

pub loop-item-preserved : goal.loop-item-preserved
loop-item-preserved g c = λ p h.
    let so_far = filter p (take c.loop-item.item-index c.args.items.now) in
    let said : c.test.result ≡ p c.item-item.result = h c.item-item.result c.test.result (says_at g.F.Fn c.test.ensures refl) in
    let step = next_kept p c.args.items.now c.loop-item.item-index c.item-item.result c.test.result c.loop-item-test.true c.item-item.is said in
    elim c.if-test.branch [
      | then-test+in_ok-clone+in_ok-push w ↦
          ap (λ v. v.items) w.found-is ∙ w.in_ok-push.ensures.items ∙ ap (λ l. l ++ (w.in_ok-clone.field-0 ∷ [])) (c.loop-item.invariant p h)
          ∙ ap (λ x. so_far ++ (x ∷ [])) (c.requires.clones _ _ w.in_ok-clone.ensures.cases) ∙ ap (λ b. so_far ++ cond b (c.item-item.result ∷ []) []) (sym w.if-test.true) ∙ sym step
      | else-test w ↦
          ap (λ v. v.items) w.found-is ∙ c.loop-item.invariant p h ∙ sym (append-nil so_far) ∙ ap (λ b. so_far ++ cond b (c.item-item.result ∷ []) []) (sym w.if-test.false) ∙ sym step
    ]

pub returns : goal.returns
returns g c = λ p h. c.from.ensures ∙ c.loop-item.invariant p h ∙ ap (filter p) (take_all c.loop-item.item-index c.args.items.now c.loop-item-test.false)
