use Rattle.std.proofs.Common.{◌≡◌, true, false, ◌∙◌, sym, ap, Some}
use Rattle.cat_model.specs.Keys.{text_cmp}
use Rattle.row_table.proofs.FiledUnder.{is_mine}
use Rattle.row_table.proofs.Places.{text_place}
use Rattle.query_table.proofs.Finding.{first_none, first_mine, first_other}
use Rattle.query_table.proofs.named.first_id.Goals as goal

pub returns-in-None-clause-id : goal.returns-in-None-clause-id
returns-in-None-clause-id c = first_none c.args.name.now c.args.names.now.now c.in_order.ensures (sym c.rows_from.ensures ∙ c.in-None.ensures.steps.0)

pub returns-then-is_text-clause-id : goal.returns-then-is_text-clause-id
returns-then-is_text-clause-id c =
    let name = c.args.name.now in
    let mine : is_mine text_cmp name c.in-Some.first.now ≡ true = ap (is_mine text_cmp name) (sym c.first.view_is) ∙ sym (text_place c.first.inside.name name) ∙ sym c.is_text.ensures ∙ c.if-is_text.true in
    ap (λ h. Some h.1) c.first.view_is ∙ first_mine name c.args.names.now.now c.in_order.ensures c.in-Some.first.now c.next.new.self (sym c.rows_from.ensures ∙ c.in-Some.ensures.steps) mine

pub returns-else-is_text-clause-id : goal.returns-else-is_text-clause-id
returns-else-is_text-clause-id c =
    let name = c.args.name.now in
    let other : is_mine text_cmp name c.in-Some.first.now ≡ false = ap (is_mine text_cmp name) (sym c.first.view_is) ∙ sym (text_place c.first.inside.name name) ∙ sym c.is_text.ensures ∙ c.if-is_text.false in
    first_other name c.args.names.now.now c.in_order.ensures c.in-Some.first.now c.next.new.self (sym c.rows_from.ensures ∙ c.in-Some.ensures.steps) other
