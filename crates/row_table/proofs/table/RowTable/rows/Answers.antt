use Rattle.std.proofs.Common.{◌∙◌, ap}
use Rattle.row_table.specs.Slots.{rows_now}
use Rattle.row_table.specs.Walks.{rows_left}
use Rattle.row_table.specs.Trees.{tree_slots}
use Rattle.row_table.proofs.SlotRows.{rows_ascend}
use Rattle.row_table.proofs.NextRows.{left_first}
use Rattle.row_table.proofs.table.RowTable.rows.Goals as goal

pub returns : goal.returns
returns g c =
    let rows = rows_now (tree_slots c.self.inside.tree) in
    ap (λ o. rows_left g.R.Row.cmp g.R.Row.key o rows) c.first.ensures
    ∙ left_first g.R.Row.cmp g.R.Row.key g.met.R.Row.total rows (rows_ascend g.R.Row.cmp g.R.Row.key (tree_slots c.self.inside.tree) c.self.invariant.0) ∙ ap (λ v. v.now) c.self.view_is
