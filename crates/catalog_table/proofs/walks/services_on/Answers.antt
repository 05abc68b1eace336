use Rattle.std.proofs.Common.{◌≡◌, ◌∙◌, filter}
use Rattle.std.specs.Ordering.{is_eq}
use Rattle.std.proofs.lemmas.Result.{IfOk-weaker}
use Rattle.cat_model.specs.Catalog.{service_key}
use Rattle.cat_model.specs.Keys.{text_cmp}
use Rattle.catalog_table.proofs.Ranges.{on, group_is}
use Rattle.catalog_table.proofs.walks.services_on.Goals as goal

pub returns : goal.returns
returns c =
    let node = c.args.node.now in
    let rows = c.args.rows.now.now in
    IfOk-weaker c.group.result (λ v. v.items ≡ filter (λ r. is_eq (text_cmp (service_key r).0 node)) rows) (λ v. v.items ≡ filter (on service_key node) rows) (λ v e. e ∙ group_is service_key node rows) c.group.ensures
