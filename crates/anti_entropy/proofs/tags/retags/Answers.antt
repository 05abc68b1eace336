use Rattle.std.proofs.Common.{◌≡◌, ◌∙◌, ◌++◌, [], ◌∷◌, List, refl, sym, ap, subst}
use Rattle.cat_model.specs.Catalog.{service_at, service_key}
use Rattle.cat_model.specs.declared.row.ServiceRow.{ServiceRow}
use Rattle.node_rows.specs.Tags.{all_tagged}
use Rattle.node_rows.specs.declared.tags.Retag.{Retag}
use Rattle.anti_entropy.specs.Parts.{new_tagged, retagged}
use Rattle.anti_entropy.proofs.TakenTags.{next_kept, next_tagged}
use Rattle.anti_entropy.proofs.tags.retags.Goals as goal
use Rattle.anti_entropy.proofs.tags.retags.Goals.{in-Some+in_ok-push, in_default}

pub loop-at-preserved : goal.loop-at-preserved
loop-at-preserved c =
    let g : ServiceRow → ServiceRow = λ s. retagged (service_at (service_key s) c.args.there.now) s in
    let s = c.index-services-at.result in
    let said : new_tagged c.in_ok-tags.field-0 s ≡ g s = subst (λ (r : ServiceRow). new_tagged c.in_ok-tags.field-0 r ≡ g r) c.row.ensures c.in_ok-tags.ensures in
    elim c.match-branch-2.branch [
      | in-Some+in_ok-push w ↦
          ap (λ v. all_tagged v.items c.args.services.now) w.all-is ∙ ap (λ (l : List Retag). all_tagged l c.args.services.now) w.in_ok-push.ensures.items
          ∙ next_tagged g c.args.services.now c.loop-at.at s c.loop-at.all.items w.in-Some.tags c.loop-at-test.true c.index-services-at.is c.loop-at.invariant (ap (λ o. new_tagged o s) (sym w.in-Some.is) ∙ said)
      | in_default w ↦
          ap (λ v. all_tagged v.items c.args.services.now) w.all-is
          ∙ next_kept g c.args.services.now c.loop-at.at s c.loop-at.all.items c.loop-at-test.true c.index-services-at.is c.loop-at.invariant (ap (λ o. new_tagged o s) (sym w.in_default.is) ∙ said)
    ]
