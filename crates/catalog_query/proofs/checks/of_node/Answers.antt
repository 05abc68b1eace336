use Rattle.std.proofs.Common.{◌∙◌, ap, filter, map}
use Rattle.std.proofs.lemmas.Result.{IfOk-weaker}
use Rattle.cat_model.specs.Keys.{same_text}
use Rattle.cat_model.specs.Queries.{check_view}
use Rattle.cat_model.specs.declared.row.CheckRow.{CheckRow}
use Rattle.cat_model.specs.declared.query.Answer.TheVariants.{Checks}
use Rattle.catalog_table.specs.Rows.{catalog_of}
use Rattle.catalog_query.proofs.NodeReads.{node_checks_are}
use Rattle.catalog_query.proofs.checks.of_node.Goals as goal

pub returns : goal.returns
returns c =
    let rows = c.args.catalog.now.now in
    IfOk-weaker c.shown.result _ _
    (λ x e. e ∙ ap (λ l. Checks (map (check_view rows.services) l)) (c.in_ok-checks.ensures ∙ ap (λ n. filter (λ (r : CheckRow). same_text r.node n) rows.checks) c.as_str.ensures) ∙ node_checks_are c.args.node.now (catalog_of rows))
    c.shown.ensures
