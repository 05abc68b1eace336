use Rattle.std.proofs.Common.{sym, subst}
use Rattle.std.proofs.lemmas.Result.{IfOk-weaker}
use Rattle.cat_model.specs.Machine.{deregister}
use Rattle.catalog_table.specs.Rows.{rows_of, catalog_of}
use Rattle.catalog_table.specs.Changes.{MayBeGone}
use Rattle.catalog_table.specs.Touching.{Touches}
use Rattle.catalog_table.proofs.Touching.{take_touched}
use Rattle.catalog_table.proofs.table.CatalogTable.take_and_tell.Goals as goal

pub returns-clause-tells : goal.returns-clause-tells
returns-clause-tells c =
    let old = c.args.self.now.now in let new = c.take.new.self.now in let node = c.args.node.now in
    let left = rows_of (deregister node c.args.service.now c.args.check.now (catalog_of old)) in
    let here : Touches node old new c.in_ok-touched.touched =
    subst (λ r. Touches node old r c.in_ok-touched.touched) (sym c.in_ok-touched.ensures.now)
    (subst (Touches node old left) (sym c.in_ok-touched.ensures.told) (take_touched node old c.in_order.ensures c.args.service.now c.args.check.now)) in
    let known : MayBeGone old new c.in_ok-known.known = subst (λ r. MayBeGone old r c.in_ok-known.known) (sym c.in_ok-touched.ensures.now) c.in_ok-known.ensures in
    IfOk-weaker c.changed_by.result _ _ (λ x told. told old here known) c.changed_by.ensures
