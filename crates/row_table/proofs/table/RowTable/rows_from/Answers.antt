use Rattle.std.proofs.Common.{◌∙◌, ap}
use Rattle.row_table.specs.Slots.{rows_now}
use Rattle.row_table.specs.Walks.{rows_left, rows_from}
use Rattle.row_table.specs.Trees.{tree_slots}
use Rattle.row_table.specs.declared.walk.Start.TheVariants.{At}
use Rattle.row_table.proofs.SlotRows.{rows_ascend}
use Rattle.row_table.proofs.NextRows.{left_from}
use Rattle.row_table.proofs.Whole.{tree_in_order}
use Rattle.row_table.proofs.table.RowTable.rows_from.Goals as goal

pub first_from-requires : goal.first_from-requires
first_from-requires g c = record { order = tree_in_order g.R.Row.cmp g.R.Row.key g.met.R.Row.total c.self.inside.tree c.self.invariant.0 }

pub returns : goal.returns
returns g c =
    let rows = rows_now (tree_slots c.self.inside.tree) in
    ap (λ o. rows_left g.R.Row.cmp g.R.Row.key o rows) c.first_from.ensures
    ∙ left_from g.R.Row.cmp g.R.Row.key g.met.R.Row.total At (g.P.Probe.sought c.args.probe.now) rows (rows_ascend g.R.Row.cmp g.R.Row.key (tree_slots c.self.inside.tree) c.self.invariant.0)
    ∙ ap (λ v. rows_from At g.R.Row.cmp g.R.Row.key (g.P.Probe.sought c.args.probe.now) v.now) c.self.view_is
