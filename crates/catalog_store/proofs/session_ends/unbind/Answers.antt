use Rattle.std.proofs.Common.{◌∙◌, ap, nat_eq, not}
use Rattle.std.specs.List.{list_any}
use Rattle.cat_model.specs.Keys.{is_empty}
use Rattle.cat_model.specs.Tables.{without}
use Rattle.cat_model.specs.declared.row.QueryRow.{QueryRow}
use Rattle.query_table.specs.States.{is_bound_to}
use Rattle.catalog_store.proofs.Loops.{ids_removed, told_ids}
use Rattle.catalog_store.proofs.session_ends.unbind.Goals as goal

pub returns-clause-rows : goal.returns-clause-rows
returns-clause-rows c =
    c.remove_each.ensures.rows ∙ ap (λ l. without (λ (q : QueryRow). list_any (λ i. nat_eq q.id i) l) c.args.queries.now.now) (c.as_slice.ensures.value ∙ c.in_ok-ids.ensures.ids)
    ∙ ids_removed (is_bound_to c.args.id) c.args.queries.now.now c.in_order.ensures

pub returns-clause-told : goal.returns-clause-told
returns-clause-told c = c.is_some_of.ensures ∙ ap (λ l. not (is_empty l)) (c.as_slice-2.ensures.value ∙ c.in_ok-ids.ensures.ids) ∙ told_ids (is_bound_to c.args.id) c.args.queries.now.now
