use Rattle.std.proofs.Common.{◌≡◌, ◌∷◌, ◌∙◌, length, sym, ap, arith}
use Rattle.std.specs.Option.{option_copied}
use Rattle.row_table.specs.Slots.{rows_now}
use Rattle.row_table.specs.Walks.{rows_from, rows_left}
use Rattle.row_table.specs.Trees.{tree_slots}
use Rattle.row_table.specs.declared.walk.Start.TheVariants.{Behind}
use Rattle.row_table.proofs.SlotRows.{rows_ascend}
use Rattle.row_table.proofs.NextRows.{left_from}
use Rattle.row_table.proofs.Whole.{tree_in_order}
use Rattle.row_table.proofs.iter.RowsIterator.next.Goals as goal

pub first_from-self-inside-requires : goal.first_from-self-inside-requires
first_from-self-inside-requires g c = record { order = tree_in_order g.R.Row.cmp g.R.Row.key g.met.R.Row.total c.self.inside.tree.now c.self.invariant }

pub returns-clause-steps : goal.returns-clause-steps
returns-clause-steps g c =
    let rows = rows_now (tree_slots c.self.inside.tree.now) in
    let row = c.in_ok-row.row.now in
    let left : rows_left g.R.Row.cmp g.R.Row.key (option_copied c.first_from-self-inside.result) rows ≡ rows_from Behind g.R.Row.cmp g.R.Row.key (g.R.Row.key row) rows =
    ap (λ o. rows_left g.R.Row.cmp g.R.Row.key o rows) c.first_from-self-inside.ensures ∙ left_from g.R.Row.cmp g.R.Row.key g.met.R.Row.total Behind (g.R.Row.key row) rows (rows_ascend g.R.Row.cmp g.R.Row.key (tree_slots c.self.inside.tree.now) c.self.invariant) in
    sym c.self.view_is ∙ ap (λ o. rows_left g.R.Row.cmp g.R.Row.key (option_copied o) rows) c.in_ok-row.was ∙ ap (λ l. row ∷ l) (sym left)

pub returns-clause-goes : goal.returns-clause-goes
returns-clause-goes g c =
    let e = ap length (returns-clause-steps g c) in
    record { on = λ f. (tt, tt, omega (arith, e)); keeps = tt; rests = λ f. tt }
