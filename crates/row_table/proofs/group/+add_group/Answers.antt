use Rattle.std.proofs.Common.{◌≡◌, ◌∙◌, ◌++◌, ◌∷◌, [], true, sym, ap, subst, append_assoc}
use Rattle.std.specs.List.{cons_option}
use Rattle.std.specs.declared.cmp.Ordering.TheVariants.{Less, Equal, Greater}
use Rattle.std.proofs.lemmas.Result.{on_ok_weaker}
use Rattle.row_table.specs.Groups.{Within, AllWithin}
use Rattle.row_table.specs.Slots.{slot_key, rows_now, now_of}
use Rattle.row_table.specs.Trees.{tree_slots, TreeInOrder}
use Rattle.row_table.proofs.Sides.{All-front, All-middle, All-back}
use Rattle.row_table.proofs.Edits.{cons_is}
use Rattle.row_table.proofs.Groups.{those, in_back, in_front, in_middle, within_front, within_back}
use Rattle.row_table.proofs.group.+add_group.Goals as goal

pub returns-in-Less : goal.returns-in-Less
returns-in-Less g t c = λ within.
    let key = g.R.Row.key in
    let cmp = g.R.Row.cmp in
    let stands = g.G.Group.stands c.args.group.now in
    let ends = c.args.ends in
    let before = c.args.found.now.items in
    let n = c.in-Fork.node.value in
    let order = subst (TreeInOrder cmp key) c.in-Fork.is c.requires.order in
    let all : AllWithin key stands ends (tree_slots n.left ++ n.slot ∷ tree_slots n.right) = subst (λ t. AllWithin key stands ends (tree_slots t)) c.in-Fork.is within in
    let at : Within ends (stands (slot_key key n.slot)) = All-middle (λ s. Within ends (stands (slot_key key s))) (tree_slots n.left) n.slot (tree_slots n.right) all in
    let e : stands (slot_key key n.slot) ≡ Less =
    ap (λ m. stands (slot_key key m.slot)) (sym c.deref.ensures) ∙ sym (c.place.ensures (subst (λ m. Within ends (stands (slot_key key m.slot))) (sym c.deref.ensures) at)) ∙ c.in-Less.is in
    let w = subst (λ m. AllWithin key stands ends (tree_slots m.right)) (sym c.deref-in-Less.ensures) (All-back (λ s. Within ends (stands (slot_key key s))) (tree_slots n.left) n.slot (tree_slots n.right) all) in
    on_ok_weaker c.add_group.result
    (λ h. h ∙ ap (λ m. before ++ those cmp key stands (rows_now (tree_slots m.right))) c.deref-in-Less.ensures ∙ ap (λ l. before ++ l) (sym (in_back cmp key stands (g.met.G.Group.rises c.args.group.now) (tree_slots n.left) n.slot (tree_slots n.right) order.0 e)) ∙ ap (λ t. before ++ those cmp key stands (rows_now (tree_slots t))) (sym c.in-Fork.is))
    (c.add_group.ensures w)

pub returns-in-Greater : goal.returns-in-Greater
returns-in-Greater g t c = λ within.
    let key = g.R.Row.key in
    let cmp = g.R.Row.cmp in
    let stands = g.G.Group.stands c.args.group.now in
    let ends = c.args.ends in
    let before = c.args.found.now.items in
    let n = c.in-Fork.node.value in
    let order = subst (TreeInOrder cmp key) c.in-Fork.is c.requires.order in
    let all : AllWithin key stands ends (tree_slots n.left ++ n.slot ∷ tree_slots n.right) = subst (λ t. AllWithin key stands ends (tree_slots t)) c.in-Fork.is within in
    let at : Within ends (stands (slot_key key n.slot)) = All-middle (λ s. Within ends (stands (slot_key key s))) (tree_slots n.left) n.slot (tree_slots n.right) all in
    let e : stands (slot_key key n.slot) ≡ Greater =
    ap (λ m. stands (slot_key key m.slot)) (sym c.deref.ensures) ∙ sym (c.place.ensures (subst (λ m. Within ends (stands (slot_key key m.slot))) (sym c.deref.ensures) at)) ∙ c.in-Greater.is in
    let w = subst (λ m. AllWithin key stands ends (tree_slots m.left)) (sym c.deref-in-Greater.ensures) (All-front (λ s. Within ends (stands (slot_key key s))) (tree_slots n.left) n.slot (tree_slots n.right) all) in
    on_ok_weaker c.add_group-in-Greater.result
    (λ h. h ∙ ap (λ m. before ++ those cmp key stands (rows_now (tree_slots m.left))) c.deref-in-Greater.ensures ∙ ap (λ l. before ++ l) (sym (in_front cmp key stands (g.met.G.Group.rises c.args.group.now) (tree_slots n.left) n.slot (tree_slots n.right) order.0 e)) ∙ ap (λ t. before ++ those cmp key stands (rows_now (tree_slots t))) (sym c.in-Fork.is))
    (c.add_group-in-Greater.ensures w)

pub returns-in_ok-add_row-in-Equal : goal.returns-in_ok-add_row-in-Equal
returns-in_ok-add_row-in-Equal g t c = λ within.
    let key = g.R.Row.key in
    let cmp = g.R.Row.cmp in
    let stands = g.G.Group.stands c.args.group.now in
    let rises = g.met.G.Group.rises c.args.group.now in
    let ends = c.args.ends in
    let before = c.args.found.now.items in
    let n = c.in-Fork.node.value in
    let order = subst (TreeInOrder cmp key) c.in-Fork.is c.requires.order in
    let all : AllWithin key stands ends (tree_slots n.left ++ n.slot ∷ tree_slots n.right) = subst (λ t. AllWithin key stands ends (tree_slots t)) c.in-Fork.is within in
    let at : Within ends (stands (slot_key key n.slot)) = All-middle (λ s. Within ends (stands (slot_key key s))) (tree_slots n.left) n.slot (tree_slots n.right) all in
    let e : stands (slot_key key n.slot) ≡ Equal =
    ap (λ m. stands (slot_key key m.slot)) (sym c.deref.ensures) ∙ sym (c.place.ensures (subst (λ m. Within ends (stands (slot_key key m.slot))) (sym c.deref.ensures) at)) ∙ c.in-Equal.is in
    let front = within_front cmp key stands rises ends (tree_slots n.left) n.slot (tree_slots n.right) order.0 e all in
    let back = within_back cmp key stands rises ends (tree_slots n.left) n.slot (tree_slots n.right) order.0 e all in
    let low = those cmp key stands (rows_now (tree_slots n.left)) in
    let mid = cons_option (now_of n.slot) [] in
    let high = those cmp key stands (rows_now (tree_slots n.right)) in
    let first : c.add_group-in-Equal.new.found.items ≡ before ++ low =
    c.in_ok-add_group-in-Equal.ensures (subst (λ m. AllWithin key stands (record { low = ends.low; high = true }) (tree_slots m.left)) (sym c.deref-in-Equal.ensures) front) ∙ ap (λ m. before ++ those cmp key stands (rows_now (tree_slots m.left))) c.deref-in-Equal.ensures in
    let second : c.add_row.new.found.items ≡ (before ++ low) ++ mid = c.in_ok-add_row-in-Equal.ensures ∙ ap (λ m. c.add_group-in-Equal.new.found.items ++ cons_option (now_of m.slot) []) c.deref-in-Equal-2.ensures ∙ ap (λ l. l ++ mid) first in
    let whole : (before ++ low) ++ (mid ++ high) ≡ before ++ those cmp key stands (rows_now (tree_slots c.args.tree.now)) =
    append_assoc before low (mid ++ high) ∙ ap (λ l. before ++ (low ++ l)) (sym (cons_is (now_of n.slot) high)) ∙ ap (λ l. before ++ l) (sym (in_middle cmp key stands (tree_slots n.left) n.slot (tree_slots n.right) e)) ∙ ap (λ t. before ++ those cmp key stands (rows_now (tree_slots t))) (sym c.in-Fork.is) in
    on_ok_weaker c.add_group-in-Equal-2.result (λ h. h ∙ ap (λ m. c.add_row.new.found.items ++ those cmp key stands (rows_now (tree_slots m.right))) c.deref-in-Equal-3.ensures ∙ ap (λ l. l ++ high) second ∙ append_assoc (before ++ low) mid high ∙ whole)
    (c.add_group-in-Equal-2.ensures (subst (λ m. AllWithin key stands (record { low = true; high = ends.high }) (tree_slots m.right)) (sym c.deref-in-Equal-3.ensures) back))
