use Rattle.std.proofs.Common.{◌∙◌, sym, ap}
use Rattle.std.specs.Ordering.{nat_cmp}
use Rattle.cat_model.specs.Catalog.{query_key}
use Rattle.row_table.proofs.FiledUnder.{row_of}
use Rattle.query_table.proofs.Finding.{found_named}
use Rattle.query_table.proofs.named.first_named.Goals as goal

pub returns-in-Some : goal.returns-in-Some
returns-in-Some c =
    c.get.ensures ∙ ap (row_of nat_cmp query_key c.args.rows.now.now) (sym c.in-Some.is ∙ c.first_id.ensures.id)
    ∙ found_named c.args.name.now c.args.rows.now.now c.args.names.now.now c.in_order.ensures c.first_id.ensures.order c.requires

pub returns-in-None : goal.returns-in-None
returns-in-None c = ap (row_of nat_cmp query_key c.args.rows.now.now) (sym c.in-None.is ∙ c.first_id.ensures.id) ∙ found_named c.args.name.now c.args.rows.now.now c.args.names.now.now c.in_order.ensures c.first_id.ensures.order c.requires
