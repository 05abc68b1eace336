use Rattle.std.proofs.Common.{◌∙◌, sym, ap}
use Rattle.cat_model.specs.Keys.{text_cmp, same_text}
use Rattle.row_table.proofs.Spans.{leading}
use Rattle.row_table.proofs.FiledUnder.{is_mine}
use Rattle.row_table.proofs.Places.{text_place}
use Rattle.catalog_table.proofs.Indexes.{first_of, is_some_row}
use Rattle.catalog_table.proofs.Labels.{any_named}
use Rattle.catalog_table.proofs.services.is_filed.Goals as goal

pub returns-in-None : goal.returns-in-None
returns-in-None c =
    let name = c.args.name.now in
    sym (ap (λ l. is_some_row (leading (is_mine text_cmp name) l)) c.in-None.ensures.steps.0) ∙ ap (λ l. is_some_row (leading (is_mine text_cmp name) l)) c.rows_from-entries.ensures ∙ any_named name c.args.rows.now.now c.args.names.now.now c.in_order.ensures c.in_order-2.ensures c.requires

pub returns-in-Some : goal.returns-in-Some
returns-in-Some c =
    let name = c.args.name.now in let h = c.in-Some.entry.now in
    c.is_text.ensures ∙ ap (λ g. same_text g.0 name) c.entry.view_is ∙ text_place h.0 name ∙ sym (first_of (is_mine text_cmp name) h c.next.new.self)
    ∙ sym (ap (λ l. is_some_row (leading (is_mine text_cmp name) l)) c.in-Some.ensures.steps) ∙ ap (λ l. is_some_row (leading (is_mine text_cmp name) l)) c.rows_from-entries.ensures ∙ any_named name c.args.rows.now.now c.args.names.now.now c.in_order.ensures c.in_order-2.ensures c.requires
