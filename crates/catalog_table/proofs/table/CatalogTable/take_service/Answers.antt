use Rattle.std.proofs.Common.{◌∙◌, sym, ap, subst}
use Rattle.cat_model.specs.Catalog.{check_key}
use Rattle.cat_model.specs.Keys.{pair_cmp}
use Rattle.catalog_table.specs.Rows.{InOrder}
use Rattle.catalog_table.specs.Takes.{without_each}
use Rattle.catalog_table.proofs.Deregistering.{service_taken}
use Rattle.catalog_table.proofs.table.CatalogTable.take_service.Goals as goal

pub returns-clause-now : goal.returns-clause-now
returns-clause-now c =
    let node = c.args.node.now in let id = c.args.id.now in
    let order = subst (λ v. InOrder v.now) (sym c.self.view_is) c.in_order.ensures in
    rw (← c.self.view_is)
    (service_taken node _ order id c.in_ok-gone.gone c.remove.new.self.now c.take_checks.new.checks.now c.in_ok-gone.ensures c.remove.ensures.now
    (c.take_checks.ensures.now ∙ ap (λ l. without_each pair_cmp check_key l c.self.inside.checks.now) c.as_slice-2.ensures))
