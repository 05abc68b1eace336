use Rattle.row_table.specs.Trees.{tree_slots}
use Rattle.row_table.proofs.SlotRows.{rows_ascend}
use Rattle.row_table.proofs.table.RowTable.in_order.Goals as goal

pub returns : goal.returns
returns g c = rw (← c.self.view_is) (rows_ascend g.R.Row.cmp g.R.Row.key (tree_slots c.self.inside.tree) c.self.invariant.0)
