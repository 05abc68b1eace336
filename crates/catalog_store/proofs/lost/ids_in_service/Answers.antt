use Rattle.std.proofs.Common.{rules, ◌∙◌, ◌&&◌, ap, filter, map}
use Rattle.std.proofs.lemmas.Result.{IfOk-weaker}
use Rattle.cat_model.specs.Keys.{same_text}
use Rattle.cat_model.specs.declared.row.CheckRow.{CheckRow}
use Rattle.catalog_store.proofs.lost.ids_in_service.Goals as goal

pub returns : goal.returns
returns c =
    let checks = c.args.catalog.now.now.checks in
    IfOk-weaker c.made.result _ _
    (λ l h. h (λ r. r.id) (λ x y of. search rules)
    ∙ ap (map (λ (r : CheckRow). r.id)) (c.as_slice.ensures ∙ c.in_ok-rows.ensures
    ∙ ap (λ n. filter (λ (r : CheckRow). same_text r.node n && same_text r.service c.as_str-2.result.now) checks) c.as_str.ensures
    ∙ ap (λ s. filter (λ (r : CheckRow). same_text r.node c.args.node.now && same_text r.service s) checks) c.as_str-2.ensures))
    c.made.ensures
