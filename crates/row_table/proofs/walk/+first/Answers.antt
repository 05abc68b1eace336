use Rattle.std.proofs.Common.{◌≡◌, ◌∙◌, sym, ap, Some, None}
use Rattle.std.specs.Option.{option_copied}
use Rattle.row_table.specs.Slots.{rows_now, now_of}
use Rattle.row_table.specs.Walks.{first_row, or_first}
use Rattle.row_table.specs.Trees.{tree_slots}
use Rattle.row_table.proofs.NextRows.{first_around}
use Rattle.row_table.proofs.walk.+first.Goals as goal

pub returns-in-Some : goal.returns-in-Some
returns-in-Some g t c =
    let n = c.in-Fork.node.value in
    let low : first_row (rows_now (tree_slots n.left)) ≡ Some c.in-Some.row.now = ap (λ m. first_row (rows_now (tree_slots m.left))) (sym c.deref.ensures) ∙ sym c.first.ensures ∙ ap option_copied c.in-Some.is in
    sym (ap (λ t. first_row (rows_now (tree_slots t))) c.in-Fork.is ∙ first_around (tree_slots n.left) n.slot (tree_slots n.right) ∙ ap (λ o. or_first o (or_first (now_of n.slot) (first_row (rows_now (tree_slots n.right))))) low)

pub returns-in-Some-now : goal.returns-in-Some-now
returns-in-Some-now g t c =
    let n = c.in-Fork.node.value in
    let low : first_row (rows_now (tree_slots n.left)) ≡ None = ap (λ m. first_row (rows_now (tree_slots m.left))) (sym c.deref.ensures) ∙ sym c.first.ensures ∙ ap option_copied c.in-None.is in
    let mid : now_of n.slot ≡ Some c.in-Some-now.row.now = ap (λ m. now_of m.slot) (sym c.deref-in-None.ensures) ∙ sym c.now.ensures ∙ ap option_copied c.in-Some-now.is in
    sym (ap (λ t. first_row (rows_now (tree_slots t))) c.in-Fork.is ∙ first_around (tree_slots n.left) n.slot (tree_slots n.right) ∙ (λ i. or_first (low i) (or_first (mid i) (first_row (rows_now (tree_slots n.right))))))

pub returns-in-None-now : goal.returns-in-None-now
returns-in-None-now g t c =
    let n = c.in-Fork.node.value in
    let low : first_row (rows_now (tree_slots n.left)) ≡ None = ap (λ m. first_row (rows_now (tree_slots m.left))) (sym c.deref.ensures) ∙ sym c.first.ensures ∙ ap option_copied c.in-None.is in
    let mid : now_of n.slot ≡ None = ap (λ m. now_of m.slot) (sym c.deref-in-None.ensures) ∙ sym c.now.ensures ∙ ap option_copied c.in-None-now.is in
    c.first-in-None-now.ensures ∙ ap (λ m. first_row (rows_now (tree_slots m.right))) c.deref-in-None-now.ensures
    ∙ sym (ap (λ t. first_row (rows_now (tree_slots t))) c.in-Fork.is ∙ first_around (tree_slots n.left) n.slot (tree_slots n.right) ∙ (λ i. or_first (low i) (or_first (mid i) (first_row (rows_now (tree_slots n.right))))))
