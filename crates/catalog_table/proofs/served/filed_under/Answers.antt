use Rattle.std.proofs.Common.{◌≡◌, true, false, [], ◌++◌, ◌∙◌, sym, ap, append-nil}
use Rattle.std.specs.List.{cons_option}
use Rattle.cat_model.specs.Catalog.{check_key}
use Rattle.cat_model.specs.Keys.{pair_cmp}
use Rattle.cat_model.specs.Tables.{row_at}
use Rattle.row_table.proofs.FiledUnder.{is_mine}
use Rattle.catalog_table.specs.Filings.{Pair}
use Rattle.catalog_table.proofs.Indexes.{ends, row_added, rows_from, rows_left}
use Rattle.catalog_table.proofs.Labels.{checks_walked}
use Rattle.catalog_table.proofs.Ranges.{pair_place}
use Rattle.catalog_table.proofs.served.filed_under.Goals.{in-None, in-Some+then-not-is_of}
use Rattle.catalog_table.proofs.served.filed_under.Goals as goal

pub loop-entry-preserved : goal.loop-entry-preserved
loop-entry-preserved c =
    let node = c.args.node.now in let service = c.args.service.now in let place : Pair = (node, service) in let rows = c.args.rows.now.now in
    let mine : is_mine pair_cmp place c.in-Some.entry.now ≡ true = sym (pair_place node service c.in-Some.entry.now.0) ∙ sym c.is_of.ensures ∙ c.if-not-is_of.false in
    row_added pair_cmp check_key place rows c.loop-entry.found.items c.add_check.new.found.items c.in-Some.entry.now c.loop-entry.entry-iterator c.next.new.self (rows_from pair_cmp check_key place rows c.args.services.now.now)
    (c.in_ok-add_check.ensures ∙ ap (λ h. c.loop-entry.found.items ++ cons_option (row_at pair_cmp check_key h.1 rows) []) c.entry.view_is) c.in-Some.ensures.steps mine c.loop-entry.invariant

pub returns : goal.returns
returns c =
    let node = c.args.node.now in let service = c.args.service.now in let place : Pair = (node, service) in let rows = c.args.rows.now.now in
    let done : rows_left pair_cmp check_key place rows c.loop-entry.entry-iterator ≡ [] =
    elim c.match-next.branch [
      | in-None w ↦ ap (rows_left pair_cmp check_key place rows) w.in-None.ensures.steps.0
      | in-Some+then-not-is_of w ↦
          let other : is_mine pair_cmp place w.in-Some.entry.now ≡ false = sym (pair_place node service w.in-Some.entry.now.0) ∙ sym w.is_of.ensures ∙ w.if-not-is_of.true in
          ap (rows_left pair_cmp check_key place rows) w.in-Some.ensures.steps ∙ ends pair_cmp check_key place rows w.in-Some.entry.now c.next.new.self other
    ] in
    sym (append-nil c.loop-entry.found.items) ∙ ap (λ l. c.loop-entry.found.items ++ l) (sym done) ∙ c.loop-entry.invariant ∙ checks_walked node service rows c.args.services.now.now c.in_order.ensures c.in_order-2.ensures c.requires
