use Rattle.std.proofs.Common.{◌∙◌, ap, is_some}
use Rattle.cat_model.specs.Catalog.{node_at}
use Rattle.catalog_query.proofs.OneKey.{copied_there, node_there}
use Rattle.catalog_query.proofs.nodes.is_there.Goals as goal

pub returns : goal.returns
returns c =
    let rows = c.args.catalog.now.now.nodes in
    c.is_some.ensures ∙ copied_there c.node.result ∙ ap is_some (c.node.ensures ∙ ap (λ n. node_at n rows) c.as_str.ensures) ∙ node_there c.args.node.now rows
