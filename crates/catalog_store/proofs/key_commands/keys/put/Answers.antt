use Rattle.std.proofs.Common.{◌≡◌, [], ◌∷◌, sym, ◌∙◌, subst}
use Rattle.std.proofs.lemmas.Result.{IfOk-weaker}
use Rattle.cat_model.specs.Kv.{write_kv}
use Rattle.cat_model.specs.declared.query.Chan.TheVariants.{Key}
use Rattle.kv_table.specs.States.{SetsRow}
use Rattle.catalog_store.specs.Steps.{Moves}
use Rattle.catalog_store.proofs.Writes.{none_written, row_written, row_moves, if_both}
use Rattle.catalog_store.proofs.Removals.{unmoved}
use Rattle.catalog_store.proofs.key_commands.keys.put.Goals as goal

pub returns-in-None-clause-rows : goal.returns-in-None-clause-rows
returns-in-None-clause-rows c =
    none_written c.args.w.now.version c.args.w.now.position c.args.w.now.key.now c.args.w.now.value.now c.args.w.now.flags c.args.lock.session c.args.lock.index c.args.table.now (sym c.in-None.is ∙ c.in_ok-change_of.ensures)

pub returns-in-None-clause-moves : goal.returns-in-None-clause-moves
returns-in-None-clause-moves c = subst (Moves c.args.w.now.position c.args.table.now c.args.table.now) (sym c.new.ensures) (unmoved c.args.w.now.position c.args.table.now)

pub returns-in-Some-clause-rows : goal.returns-in-Some-clause-rows
returns-in-Some-clause-rows c =
    IfOk-weaker c.put_row.result (λ _. SetsRow c.in-Some.row c.args.table.now c.put_row.new.table)
    (λ _. c.put_row.new.table.now.rows ≡ write_kv c.args.w.now.version c.args.w.now.position c.args.w.now.key.now c.args.w.now.value.now c.args.w.now.flags c.args.lock.session c.args.lock.index c.args.table.now.now.rows)
    (λ _ sets. row_written c.args.w.now.version c.args.w.now.position c.args.w.now.key.now c.args.w.now.value.now c.args.w.now.flags c.args.lock.session c.args.lock.index c.args.table.now c.in-Some.row c.put_row.new.table (sym c.in-Some.is ∙ c.in_ok-change_of.ensures) sets)
    c.put_row.ensures.row

pub returns-in-Some-clause-moves : goal.returns-in-Some-clause-moves
returns-in-Some-clause-moves c =
    if_both c.put_row.result (SetsRow c.in-Some.row c.args.table.now c.put_row.new.table) (λ chans. chans ≡ Key c.in-Some.row.key ∷ []) (Moves c.args.w.now.position c.args.table.now c.put_row.new.table) c.put_row.ensures.row c.put_row.ensures.chans
    (λ sets chans is. subst (Moves c.args.w.now.position c.args.table.now c.put_row.new.table) (sym is)
    (row_moves c.args.w.now.version c.args.w.now.position c.args.w.now.key.now c.args.w.now.value.now c.args.w.now.flags c.args.lock.session c.args.lock.index c.args.table.now c.in-Some.row c.put_row.new.table (sym c.in-Some.is ∙ c.in_ok-change_of.ensures) sets c.requires))
