use Rattle.std.proofs.Common.{◌≡◌, ◌∙◌, ap, filter}
use Rattle.std.specs.Ordering.{is_eq}
use Rattle.std.proofs.lemmas.Result.{IfOk-weaker}
use Rattle.row_table.specs.Slots.{rows_now}
use Rattle.row_table.specs.Trees.{tree_slots}
use Rattle.row_table.proofs.Whole.{tree_in_order}
use Rattle.row_table.proofs.table.RowTable.group.Goals as goal

pub rows_in-requires : goal.rows_in-requires
rows_in-requires g c = record { order = tree_in_order g.R.Row.cmp g.R.Row.key g.met.R.Row.total c.self.inside.tree c.self.invariant.0 }

pub returns : goal.returns
returns g c =
    let stands = g.G.Group.stands c.args.group.now in
    IfOk-weaker c.rows_in.result (λ v. v.items ≡ filter (λ r. is_eq (stands (g.R.Row.key r))) (rows_now (tree_slots c.self.inside.tree))) (λ v. v.items ≡ filter (λ r. is_eq (stands (g.R.Row.key r))) c.args.self.now.now)
    (λ v e. e ∙ ap (λ w. filter (λ r. is_eq (stands (g.R.Row.key r))) w.now) c.self.view_is) c.rows_in.ensures
