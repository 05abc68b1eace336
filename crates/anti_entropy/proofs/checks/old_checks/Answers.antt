use Rattle.std.proofs.Common.{◌≡◌, ◌∙◌, ◌++◌, [], ◌∷◌, sym, ap, take, append-nil}
use Rattle.std.specs.List.{filter_map, cons_option}
use Rattle.cat_model.proofs.Items.{next_chosen}
use Rattle.anti_entropy.specs.Parts.{old_check}
use Rattle.anti_entropy.proofs.checks.old_checks.Goals as goal
use Rattle.anti_entropy.proofs.checks.old_checks.Goals.{in-Some+in_ok-push, in_default}

pub loop-stray-preserved : goal.loop-stray-preserved
loop-stray-preserved c =
    let f = old_check c.args.node.now c.args.own.now.services.items c.args.there.now.services.items in
    let so_far = filter_map f (take c.loop-stray.stray-index c.args.strays.now) in
    let said : c.in_ok-command.field-0 ≡ f c.stray-item.result = c.in_ok-command.ensures ∙ ap f c.row.ensures in
    let step = next_chosen f c.args.strays.now c.loop-stray.stray-index c.stray-item.result c.in_ok-command.field-0 c.loop-stray-test.true c.stray-item.is said in
    elim c.match-branch-2.branch [
      | in-Some+in_ok-push w ↦
          ap (λ v. v.items) w.all-is ∙ w.in_ok-push.ensures.items ∙ ap (λ l. l ++ (w.in-Some.command ∷ [])) c.loop-stray.invariant ∙ ap (λ o. so_far ++ cons_option o []) (sym w.in-Some.is) ∙ sym step
      | in_default w ↦
          ap (λ v. v.items) w.all-is ∙ c.loop-stray.invariant ∙ sym (append-nil so_far) ∙ ap (λ o. so_far ++ cons_option o []) (sym w.in_default.is) ∙ sym step
    ]
