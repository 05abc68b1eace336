use Rattle.std.proofs.Common.{◌≡◌, true, false, [], ◌++◌, ◌∙◌, sym, ap, append-nil}
use Rattle.std.specs.List.{cons_option}
use Rattle.std.specs.Ordering.{is_eq, nat_cmp}
use Rattle.cat_model.specs.Keys.{pair_cmp}
use Rattle.cat_model.specs.Tables.{row_at}
use Rattle.cat_model.specs.Catalog.{check_key}
use Rattle.row_table.proofs.FiledUnder.{is_mine}
use Rattle.catalog_table.specs.Filings.{rank}
use Rattle.catalog_table.proofs.Indexes.{ends, row_added, rows_from, rows_left}
use Rattle.catalog_table.proofs.Labels.{statuses_walked, status_place}
use Rattle.catalog_table.proofs.stated.filed_under.Goals.{in-None, in-Some+then-not-is_same_status}
use Rattle.catalog_table.proofs.stated.filed_under.Goals as goal

pub loop-entry-preserved : goal.loop-entry-preserved
loop-entry-preserved c =
    let place = rank c.args.status in let rows = c.args.rows.now.now in
    let mine : is_mine nat_cmp place c.in-Some.entry.now ≡ true = ap (λ h. is_eq (nat_cmp place h.0)) (sym c.entry.view_is) ∙ sym (status_place c.entry.inside.status c.args.status) ∙ sym c.is_same_status.ensures ∙ c.if-not-is_same_status.false in
    row_added nat_cmp check_key place rows c.loop-entry.found.items c.add_check.new.found.items c.in-Some.entry.now c.loop-entry.entry-iterator c.next.new.self (rows_from nat_cmp check_key place rows c.args.statuses.now.now)
    (c.in_ok-add_check.ensures ∙ ap (λ h. c.loop-entry.found.items ++ cons_option (row_at pair_cmp check_key h.1 rows) []) c.entry.view_is) c.in-Some.ensures.steps mine c.loop-entry.invariant

pub returns : goal.returns
returns c =
    let place = rank c.args.status in let rows = c.args.rows.now.now in
    let done : rows_left nat_cmp check_key place rows c.loop-entry.entry-iterator ≡ [] =
    elim c.match-next.branch [
      | in-None w ↦ ap (rows_left nat_cmp check_key place rows) w.in-None.ensures.steps.0
      | in-Some+then-not-is_same_status w ↦
          let other : is_mine nat_cmp place w.in-Some.entry.now ≡ false = ap (λ h. is_eq (nat_cmp place h.0)) (sym w.entry.view_is) ∙ sym (status_place w.entry.inside.status c.args.status) ∙ sym w.is_same_status.ensures ∙ w.if-not-is_same_status.true in
          ap (rows_left nat_cmp check_key place rows) w.in-Some.ensures.steps ∙ ends nat_cmp check_key place rows w.in-Some.entry.now c.next.new.self other
    ] in
    sym (append-nil c.loop-entry.found.items) ∙ ap (λ l. c.loop-entry.found.items ++ l) (sym done) ∙ c.loop-entry.invariant ∙ statuses_walked c.args.status rows c.args.statuses.now.now c.in_order.ensures c.in_order-2.ensures c.requires
