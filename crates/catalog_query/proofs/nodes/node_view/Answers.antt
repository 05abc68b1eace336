use Rattle.std.proofs.Common.{◌∙◌, ap, filter}
use Rattle.cat_model.specs.Keys.{same_text}
use Rattle.cat_model.specs.Catalog.{node_at}
use Rattle.cat_model.specs.declared.row.ServiceRow.{ServiceRow}
use Rattle.cat_model.specs.declared.query.Answer.TheVariants.{NodeView}
use Rattle.catalog_table.specs.Rows.{catalog_of}
use Rattle.catalog_query.proofs.NodeReads.{node_view_is}
use Rattle.catalog_query.proofs.nodes.node_view.Goals as goal

pub returns : goal.returns
returns c =
    let rows = c.args.catalog.now.now in
    (λ i. NodeView
    ((c.in_ok-row.ensures ∙ c.node.ensures ∙ ap (λ n. node_at n rows.nodes) c.as_str.ensures) i)
    ((c.in_ok-services.ensures ∙ ap (λ n. filter (λ (s : ServiceRow). same_text s.node n) rows.services) c.as_str-2.ensures) i))
    ∙ node_view_is c.args.node.now (catalog_of rows)
