use Rattle.std.proofs.Common.{rules, ◌∙◌, sym, ap, subst}
use Rattle.std.specs.List.{filter_map}
use Rattle.std.proofs.lemmas.Result.{IfOk-weaker}
use Rattle.cat_model.specs.Keys.{pair_cmp}
use Rattle.cat_model.specs.Tables.{Ascends}
use Rattle.catalog_query.specs.Rows.{rows_with, instance_key}
use Rattle.catalog_query.proofs.Joining.{placed_at, instances_are, instances_ascend}
use Rattle.catalog_query.proofs.joins.join.Goals as goal

pub returns-clause-joined : goal.returns-clause-joined
returns-clause-joined c =
    let k = rows_with c.args.services.now c.args.nodes.now c.args.checks.now in
    IfOk-weaker c.chosen.result _ _ (λ l h. h (placed_at k) (λ x y of. search rules) ∙ ap (filter_map (placed_at k)) c.as_slice.ensures ∙ sym (instances_are k)) c.chosen.ensures

pub returns-clause-order : goal.returns-clause-order
returns-clause-order c = λ asc. IfOk-weaker c.chosen.result _ _ (λ l e. subst (Ascends pair_cmp instance_key) (sym e) (instances_ascend (rows_with c.args.services.now c.args.nodes.now c.args.checks.now) asc)) (returns-clause-joined c)
