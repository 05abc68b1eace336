use Rattle.std.proofs.Common.{sym, subst}
use Rattle.std.proofs.lemmas.Result.{IfOk-weaker}
use Rattle.catalog_table.specs.Steps.{put_rows}
use Rattle.catalog_table.specs.Touching.{Touches, put_touches}
use Rattle.catalog_table.proofs.Touching.{put_touched}
use Rattle.catalog_table.proofs.table.CatalogTable.put_and_tell.Goals as goal

pub returns-clause-tells : goal.returns-clause-tells
returns-clause-tells c =
    let old = c.args.self.now.now in let new = c.put_all.new.self.now in let node = c.args.node.now in
    let put = put_rows c.args.position node c.args.address.now c.args.service.now c.args.checks.now old in
    let made : Touches node old put (put_touches c.args.position node c.args.address.now c.args.service.now c.args.checks.now old) =
    put_touched c.args.position node c.args.address.now c.args.service.now c.args.checks.now old c.in_order.ensures c.requires in
    let here : Touches node old new c.in_ok-touched.touched = subst (λ r. Touches node old r c.in_ok-touched.touched) (sym c.in_ok-touched.ensures.ok) (subst (Touches node old put) (sym c.in_ok-touched.ensures.told) made) in
    IfOk-weaker c.changed_by.result _ _ (λ x told. told old (subst (λ n. Touches n old new c.in_ok-touched.touched) (sym c.as_str.ensures) here) tt) c.changed_by.ensures
