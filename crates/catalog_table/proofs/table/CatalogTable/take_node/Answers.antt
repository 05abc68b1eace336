use Rattle.std.proofs.Common.{◌∙◌, sym, ap, subst}
use Rattle.cat_model.specs.Catalog.{check_key, service_key}
use Rattle.cat_model.specs.Keys.{pair_cmp}
use Rattle.catalog_table.specs.Rows.{InOrder}
use Rattle.catalog_table.specs.Takes.{without_each}
use Rattle.catalog_table.proofs.Deregistering.{node_taken}
use Rattle.catalog_table.proofs.table.CatalogTable.take_node.Goals as goal

pub returns-clause-now : goal.returns-clause-now
returns-clause-now c =
    let order = subst (λ v. InOrder v.now) (sym c.self.view_is) c.in_order.ensures in
    rw (← c.self.view_is)
    (node_taken c.args.node.now _ order c.in_ok-services.services c.in_ok-checks.checks c.remove-nodes.new.self.now c.take_services.new.services.now c.take_checks.new.checks.now c.in_ok-services.ensures c.in_ok-checks.ensures c.remove-nodes.ensures.rows
    (c.take_services.ensures.now ∙ ap (λ l. without_each pair_cmp service_key l c.self.inside.services.now) c.as_slice-3.ensures)
    (c.take_checks.ensures.now ∙ ap (λ l. without_each pair_cmp check_key l c.self.inside.checks.now) c.as_slice-4.ensures))
