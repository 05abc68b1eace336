use Rattle.std.proofs.Common.{◌≡◌, ◌∙◌, sym, ap, subst, filter}
use Rattle.std.proofs.lemmas.Result.{IfOk-weaker}
use Rattle.cat_model.specs.Tables.{Ascends}
use Rattle.cat_model.proofs.TableLemmas.{Ascends-filter}
use Rattle.row_table.specs.Slots.{rows_now}
use Rattle.row_table.specs.Trees.{tree_slots}
use Rattle.row_table.proofs.SlotRows.{rows_ascend}
use Rattle.row_table.proofs.table.RowTable.copied.Goals as goal

pub returns-clause-rows : goal.returns-clause-rows
returns-clause-rows g c = λ t tells.
    IfOk-weaker c.all_copies.result (λ v. v.items ≡ filter t (rows_now (tree_slots c.self.inside.tree))) (λ v. v.items ≡ filter t c.args.self.now.now) (λ v e. e ∙ ap (λ w. filter t w.now) c.self.view_is) (c.all_copies.ensures t tells)

pub returns-clause-order : goal.returns-clause-order
returns-clause-order g c = λ t tells.
    IfOk-weaker c.all_copies.result (λ v. v.items ≡ filter t (rows_now (tree_slots c.self.inside.tree))) (λ v. Ascends g.R.Row.cmp g.R.Row.key v.items)
    (λ v e. subst (Ascends g.R.Row.cmp g.R.Row.key) (sym e) (Ascends-filter g.R.Row.cmp g.R.Row.key g.met.R.Row.total t (rows_now (tree_slots c.self.inside.tree)) (rows_ascend g.R.Row.cmp g.R.Row.key (tree_slots c.self.inside.tree) c.self.invariant.0))) (c.all_copies.ensures t tells)
