use Rattle.std.proofs.Common.{◌≡◌, ◌∙◌, true, false, sym, ap, subst, Some, None}
use Rattle.std.specs.Option.{option_copied}
use Rattle.row_table.specs.Slots.{slot_key, rows_now, now_of}
use Rattle.row_table.specs.Walks.{first_row, or_first, belongs, rows_from}
use Rattle.row_table.specs.Trees.{tree_slots, TreeInOrder}
use Rattle.row_table.proofs.NextRows.{from_right, from_left}
use Rattle.row_table.proofs.walk.+first_from.Goals as goal

pub returns-then-not-takes : goal.returns-then-not-takes
returns-then-not-takes g t c =
    let n = c.in-Fork.node.value in
    let k = g.P.Probe.sought c.args.probe.now in
    let start = c.args.start in
    let order = subst (TreeInOrder g.R.Row.cmp g.R.Row.key) c.in-Fork.is c.requires.order in
    let h : belongs start (g.R.Row.cmp (slot_key g.R.Row.key n.slot) k) ≡ false = cc in
    c.first_from.ensures ∙ ap (λ m. first_row (rows_from start g.R.Row.cmp g.R.Row.key k (rows_now (tree_slots m.right)))) c.deref-then-not-takes.ensures
    ∙ ap first_row (sym (from_right g.R.Row.cmp g.R.Row.key g.met.R.Row.total start k (tree_slots n.left) n.slot (tree_slots n.right) order.0 h)) ∙ ap (λ t. first_row (rows_from start g.R.Row.cmp g.R.Row.key k (rows_now (tree_slots t)))) (sym c.in-Fork.is)

pub returns-in-Some : goal.returns-in-Some
returns-in-Some g t c =
    let n = c.in-Fork.node.value in
    let k = g.P.Probe.sought c.args.probe.now in
    let start = c.args.start in
    let order = subst (TreeInOrder g.R.Row.cmp g.R.Row.key) c.in-Fork.is c.requires.order in
    let h : belongs start (g.R.Row.cmp (slot_key g.R.Row.key n.slot) k) ≡ true = cc in
    let low : first_row (rows_from start g.R.Row.cmp g.R.Row.key k (rows_now (tree_slots n.left))) ≡ Some c.in-Some.row.now = ap (λ m. first_row (rows_from start g.R.Row.cmp g.R.Row.key k (rows_now (tree_slots m.left)))) (sym c.deref-in-Fork.ensures) ∙ sym c.first_from-in-Fork.ensures ∙ ap option_copied c.in-Some.is in
    sym (ap (λ t. first_row (rows_from start g.R.Row.cmp g.R.Row.key k (rows_now (tree_slots t)))) c.in-Fork.is ∙ from_left g.R.Row.cmp g.R.Row.key g.met.R.Row.total start k (tree_slots n.left) n.slot (tree_slots n.right) order.0 h ∙ ap (λ o. or_first o (or_first (now_of n.slot) (first_row (rows_now (tree_slots n.right))))) low)

pub returns-in-Some-now : goal.returns-in-Some-now
returns-in-Some-now g t c =
    let n = c.in-Fork.node.value in
    let k = g.P.Probe.sought c.args.probe.now in
    let start = c.args.start in
    let order = subst (TreeInOrder g.R.Row.cmp g.R.Row.key) c.in-Fork.is c.requires.order in
    let h : belongs start (g.R.Row.cmp (slot_key g.R.Row.key n.slot) k) ≡ true = cc in
    let low : first_row (rows_from start g.R.Row.cmp g.R.Row.key k (rows_now (tree_slots n.left))) ≡ None = ap (λ m. first_row (rows_from start g.R.Row.cmp g.R.Row.key k (rows_now (tree_slots m.left)))) (sym c.deref-in-Fork.ensures) ∙ sym c.first_from-in-Fork.ensures ∙ ap option_copied c.in-None.is in
    let mid : now_of n.slot ≡ Some c.in-Some-now.row.now = ap (λ m. now_of m.slot) (sym c.deref-in-None.ensures) ∙ sym c.now.ensures ∙ ap option_copied c.in-Some-now.is in
    sym (ap (λ t. first_row (rows_from start g.R.Row.cmp g.R.Row.key k (rows_now (tree_slots t)))) c.in-Fork.is ∙ from_left g.R.Row.cmp g.R.Row.key g.met.R.Row.total start k (tree_slots n.left) n.slot (tree_slots n.right) order.0 h ∙ (λ i. or_first (low i) (or_first (mid i) (first_row (rows_now (tree_slots n.right))))))

pub returns-in-None-now : goal.returns-in-None-now
returns-in-None-now g t c =
    let n = c.in-Fork.node.value in
    let k = g.P.Probe.sought c.args.probe.now in
    let start = c.args.start in
    let order = subst (TreeInOrder g.R.Row.cmp g.R.Row.key) c.in-Fork.is c.requires.order in
    let h : belongs start (g.R.Row.cmp (slot_key g.R.Row.key n.slot) k) ≡ true = cc in
    let low : first_row (rows_from start g.R.Row.cmp g.R.Row.key k (rows_now (tree_slots n.left))) ≡ None = ap (λ m. first_row (rows_from start g.R.Row.cmp g.R.Row.key k (rows_now (tree_slots m.left)))) (sym c.deref-in-Fork.ensures) ∙ sym c.first_from-in-Fork.ensures ∙ ap option_copied c.in-None.is in
    let mid : now_of n.slot ≡ None = ap (λ m. now_of m.slot) (sym c.deref-in-None.ensures) ∙ sym c.now.ensures ∙ ap option_copied c.in-None-now.is in
    c.first.ensures ∙ ap (λ m. first_row (rows_now (tree_slots m.right))) c.deref-in-None-now.ensures
    ∙ sym (ap (λ t. first_row (rows_from start g.R.Row.cmp g.R.Row.key k (rows_now (tree_slots t)))) c.in-Fork.is ∙ from_left g.R.Row.cmp g.R.Row.key g.met.R.Row.total start k (tree_slots n.left) n.slot (tree_slots n.right) order.0 h ∙ (λ i. or_first (low i) (or_first (mid i) (first_row (rows_now (tree_slots n.right))))))
