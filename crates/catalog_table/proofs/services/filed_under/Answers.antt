use Rattle.std.proofs.Common.{◌≡◌, true, false, [], ◌++◌, ◌∙◌, sym, ap, append-nil}
use Rattle.cat_model.specs.Catalog.{service_key}
use Rattle.cat_model.specs.Keys.{text_cmp, same_text}
use Rattle.row_table.proofs.FiledUnder.{is_mine}
use Rattle.row_table.proofs.Places.{text_place}
use Rattle.catalog_table.proofs.Indexes.{ends, row_added, rows_from, rows_left}
use Rattle.catalog_table.proofs.Labels.{names_walked}
use Rattle.catalog_table.proofs.services.filed_under.Goals.{in-None, in-Some+then-not-is_text}
use Rattle.catalog_table.proofs.services.filed_under.Goals as goal

pub loop-entry-preserved : goal.loop-entry-preserved
loop-entry-preserved c =
    let name = c.args.name.now in let rows = c.args.rows.now.now in
    let mine : is_mine text_cmp name c.in-Some.entry.now ≡ true = sym (text_place c.in-Some.entry.now.0 name) ∙ ap (λ h. same_text h.0 name) (sym c.entry.view_is) ∙ sym c.is_text.ensures ∙ c.if-not-is_text.false in
    row_added text_cmp service_key name rows c.loop-entry.found.items c.add_row.new.found.items c.in-Some.entry.now c.loop-entry.entry-iterator c.next.new.self (rows_from text_cmp service_key name rows c.args.names.now.now)
    c.in_ok-add_row.ensures c.in-Some.ensures.steps mine c.loop-entry.invariant

pub returns : goal.returns
returns c =
    let name = c.args.name.now in let rows = c.args.rows.now.now in
    let done : rows_left text_cmp service_key name rows c.loop-entry.entry-iterator ≡ [] =
    elim c.match-next.branch [
      | in-None w ↦ ap (rows_left text_cmp service_key name rows) w.in-None.ensures.steps.0
      | in-Some+then-not-is_text w ↦
          let other : is_mine text_cmp name w.in-Some.entry.now ≡ false = sym (text_place w.in-Some.entry.now.0 name) ∙ ap (λ h. same_text h.0 name) (sym w.entry.view_is) ∙ sym w.is_text.ensures ∙ w.if-not-is_text.true in
          ap (rows_left text_cmp service_key name rows) w.in-Some.ensures.steps ∙ ends text_cmp service_key name rows w.in-Some.entry.now c.next.new.self other
    ] in
    sym (append-nil c.loop-entry.found.items) ∙ ap (λ l. c.loop-entry.found.items ++ l) (sym done) ∙ c.loop-entry.invariant ∙ names_walked name rows c.args.names.now.now c.in_order.ensures c.in_order-2.ensures c.requires
