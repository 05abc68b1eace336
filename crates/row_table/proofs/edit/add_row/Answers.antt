use Rattle.std.proofs.Common.{◌≡◌, ◌∙◌, false, refl, sym, ap, subst}
use Rattle.std.specs.List.{AllByRecursion}
use Rattle.std.specs.Ordering.{is_eq}
use Rattle.cat_model.specs.Tables.{put}
use Rattle.row_table.specs.Slots.{slot_key, InOrder, rows_now, rows_before}
use Rattle.row_table.specs.Trees.{tree_slots}
use Rattle.row_table.specs.declared.slot.Slot.{Slot}
use Rattle.row_table.specs.declared.slot.Mark.TheVariants.{Added}
use Rattle.row_table.proofs.SlotRows.{order_put, set_now}
use Rattle.row_table.proofs.Whole.{tree_in_order, tree_all, before_put}
use Rattle.row_table.proofs.edit.add_row.Goals as goal

pub insert-requires-clause-order : goal.insert-requires-clause-order
insert-requires-clause-order g c = tree_in_order g.R.Row.cmp g.R.Row.key g.met.R.Row.total c.take.result (subst (λ t. InOrder g.R.Row.cmp g.R.Row.key (tree_slots t)) (sym c.take.ensures.taken) c.requires.order)

pub insert-requires-clause-lacks : goal.insert-requires-clause-lacks
insert-requires-clause-lacks g c =
    let new : Slot g.row.R.Denot = record { row = c.args.row; mark = Added } in
    let slot : c.in-Ok.node.value.slot ≡ new = ap (λ n. n.slot) c.in-Ok.ensures.ok ∙ c.new_node.ensures in
    tree_all (λ s. is_eq (g.R.Row.cmp (slot_key g.R.Row.key s) (g.R.Row.key c.in-Ok.node.value.slot.row)) ≡ false) c.take.result
    (subst (λ t. AllByRecursion (λ s. is_eq (g.R.Row.cmp (slot_key g.R.Row.key s) (g.R.Row.key c.in-Ok.node.value.slot.row)) ≡ false) (tree_slots t)) (sym c.take.ensures.taken)
    (subst (λ (q : Slot g.row.R.Denot). AllByRecursion (λ s. is_eq (g.R.Row.cmp (slot_key g.R.Row.key s) (g.R.Row.key q.row)) ≡ false) (tree_slots c.args.tree.now)) (sym slot) c.requires.lacks))

pub returns-in-Ok-clause-order : goal.returns-in-Ok-clause-order
returns-in-Ok-clause-order g c =
    let new : Slot g.row.R.Denot = record { row = c.args.row; mark = Added } in
    let slot : c.in-Ok.node.value.slot ≡ new = ap (λ n. n.slot) c.in-Ok.ensures.ok ∙ c.new_node.ensures in
    let is : tree_slots c.insert.result ≡ put g.R.Row.cmp (slot_key g.R.Row.key) new (tree_slots c.args.tree.now) = c.insert.ensures.slots ∙ (λ i. put g.R.Row.cmp (slot_key g.R.Row.key) (slot i) (tree_slots (c.take.ensures.taken i))) in
    subst (InOrder g.R.Row.cmp g.R.Row.key) (sym is) (order_put g.R.Row.cmp g.R.Row.key g.met.R.Row.total new (tree_slots c.args.tree.now) c.requires.order tt)

pub returns-in-Ok-clause-ok : goal.returns-in-Ok-clause-ok
returns-in-Ok-clause-ok g c =
    let new : Slot g.row.R.Denot = record { row = c.args.row; mark = Added } in
    let slot : c.in-Ok.node.value.slot ≡ new = ap (λ n. n.slot) c.in-Ok.ensures.ok ∙ c.new_node.ensures in
    let is : tree_slots c.insert.result ≡ put g.R.Row.cmp (slot_key g.R.Row.key) new (tree_slots c.args.tree.now) = c.insert.ensures.slots ∙ (λ i. put g.R.Row.cmp (slot_key g.R.Row.key) (slot i) (tree_slots (c.take.ensures.taken i))) in
    ap rows_now is ∙ set_now g.R.Row.cmp g.R.Row.key new (tree_slots c.args.tree.now) c.args.row refl refl

pub returns-in-Ok-clause-before : goal.returns-in-Ok-clause-before
returns-in-Ok-clause-before g c =
    let new : Slot g.row.R.Denot = record { row = c.args.row; mark = Added } in
    let slot : c.in-Ok.node.value.slot ≡ new = ap (λ n. n.slot) c.in-Ok.ensures.ok ∙ c.new_node.ensures in
    let is : tree_slots c.insert.result ≡ put g.R.Row.cmp (slot_key g.R.Row.key) new (tree_slots c.args.tree.now) = c.insert.ensures.slots ∙ (λ i. put g.R.Row.cmp (slot_key g.R.Row.key) (slot i) (tree_slots (c.take.ensures.taken i))) in
    ap rows_before is ∙ before_put g.R.Row.cmp g.R.Row.key g.met.R.Row.total new (tree_slots c.args.tree.now) c.requires.order c.requires.lacks refl
