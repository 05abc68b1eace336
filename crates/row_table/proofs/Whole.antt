-- The whole tree of a table: its order, and what a `keep` and an `undo` leave of its slots.
use Rattle.std.proofs.Common.{◌≡◌, true, false, not, List, [], ◌∷◌, ◌++◌, refl, sym, ◌∙◌, ap, subst, Option, Some, None, map, filter}
use Rattle.std.specs.List.{AllByRecursion, cons_option, filter_map}
use Rattle.std.specs.Cmp.{IsTotalOrder}
use Rattle.std.specs.declared.cmp.Ordering.{Ordering}
use Rattle.std.specs.declared.cmp.Ordering.TheVariants.{Less, Equal, Greater}
use Rattle.std.specs.Ordering.{is_eq, is_lt, is_gt, ordering_reverse}
use Rattle.std.proofs.lemmas.List.Elements.{filter_map-append}
use Rattle.cat_model.specs.Tables.{put, Ascends}
use Rattle.std.proofs.lemmas.Bool.{false≢true}
use Rattle.cat_model.proofs.Elements.{Ascends-map, sides}
use Rattle.row_table.proofs.SlotRows.{filter_all}
use Rattle.row_table.specs.Slots.{slot_key, now_of, before_of, marked_before, settled, kept, undone, rows_now, rows_before, SlotFits, InOrder}
use Rattle.row_table.specs.Edits.{Edited}
use Rattle.row_table.specs.Trees.{tree_slots, TreeInOrder, TreeAll}
use Rattle.row_table.specs.declared.slot.Slot.{Slot}
use Rattle.row_table.specs.declared.slot.Mark.{Mark}
use Rattle.row_table.specs.declared.slot.Mark.TheVariants.{Kept, Added, Changed, Gone, Passing}
use Rattle.row_table.specs.declared.tree.Tree.{Tree, Leaf, Fork'}
use Rattle.row_table.proofs.SlotRows.{now_key}
use Rattle.row_table.proofs.Sides.{All-front, All-middle, All-back}
use Rattle.row_table.proofs.Edits.{order_front, order_back}

module _ {R : Type 0} where
  pub tree_all : (P : Slot R → Type 0) (t : Tree R) → AllByRecursion P (tree_slots t) → TreeAll P t
  tree_all P Leaf all = tt
  tree_all P (Fork' p left slot right height changed) all =
      (tree_all P left (All-front P (tree_slots left) slot (tree_slots right) all), All-middle P (tree_slots left) slot (tree_slots right) all, tree_all P right (All-back P (tree_slots left) slot (tree_slots right) all))

  kept_now_cons : (o : Option R) (rest : List (Slot R)) → rows_now (cons_option (settled o) rest) ≡ cons_option o (rows_now rest)
  kept_now_cons None rest = refl
  kept_now_cons (Some r) rest = refl

  kept_before_cons : (o : Option R) (rest : List (Slot R)) → rows_before (cons_option (settled o) rest) ≡ cons_option o (rows_before rest)
  kept_before_cons None rest = refl
  kept_before_cons (Some r) rest = refl

  pub kept_now : (slots : List (Slot R)) → rows_now (filter_map kept slots) ≡ rows_now slots
  kept_now [] = refl
  kept_now (s ∷ slots) = kept_now_cons (now_of s) (filter_map kept slots) ∙ ap (cons_option (now_of s)) (kept_now slots)

  pub kept_before : (slots : List (Slot R)) → rows_before (filter_map kept slots) ≡ rows_now slots
  kept_before [] = refl
  kept_before (s ∷ slots) = kept_before_cons (now_of s) (filter_map kept slots) ∙ ap (cons_option (now_of s)) (kept_before slots)

  pub undone_now : (slots : List (Slot R)) → rows_now (filter_map undone slots) ≡ rows_before slots
  undone_now [] = refl
  undone_now (s ∷ slots) = kept_now_cons (before_of s) (filter_map undone slots) ∙ ap (cons_option (before_of s)) (undone_now slots)

  pub undone_before : (slots : List (Slot R)) → rows_before (filter_map undone slots) ≡ rows_before slots
  undone_before [] = refl
  undone_before (s ∷ slots) = kept_before_cons (before_of s) (filter_map undone slots) ∙ ap (cons_option (before_of s)) (undone_before slots)

module _ {K R : Type 0} (cmp : K → K → Ordering) (key : R → K) where
  settled_fits : (o : Option R) (rest : List (Slot R)) → AllByRecursion (SlotFits key) rest → AllByRecursion (SlotFits key) (cons_option (settled o) rest)
  settled_fits None rest all = all
  settled_fits (Some r) rest all = (tt, all)

  settled_above : (k : K) (o : Option R) (rest : List (Slot R)) → ((r : R) → o ≡ Some r → cmp k (key r) ≡ Less) → AllByRecursion (λ q. cmp k (slot_key key q) ≡ Less) rest → AllByRecursion (λ q. cmp k (slot_key key q) ≡ Less) (cons_option (settled o) rest)
  settled_above k None rest low all = all
  settled_above k (Some r) rest low all = (low r refl, all)

  settled_ascend : (o : Option R) (rest : List (Slot R)) → ((r : R) → o ≡ Some r → AllByRecursion (λ q. cmp (key r) (slot_key key q) ≡ Less) rest) → Ascends cmp (slot_key key) rest → Ascends cmp (slot_key key) (cons_option (settled o) rest)
  settled_ascend None rest low asc = asc
  settled_ascend (Some r) rest low asc = (low r refl, asc)

  -- what is left of slots by a function that keeps the keys
  module _ (pick : Slot R → Option R) where
    abbrev Holds : Slot R → Type 0
    Holds s = (r : R) → pick s ≡ Some r → key r ≡ slot_key key s

    pub picked_fits : (slots : List (Slot R)) → AllByRecursion (SlotFits key) (filter_map (λ s. settled (pick s)) slots)
    picked_fits [] = tt
    picked_fits (s ∷ slots) = settled_fits (pick s) (filter_map (λ q. settled (pick q)) slots) (picked_fits slots)

    picked_above : (k : K) (slots : List (Slot R)) → AllByRecursion Holds slots → AllByRecursion (λ q. cmp k (slot_key key q) ≡ Less) slots → AllByRecursion (λ q. cmp k (slot_key key q) ≡ Less) (filter_map (λ s. settled (pick s)) slots)
    picked_above k [] holds all = tt
    picked_above k (s ∷ slots) holds all = settled_above k (pick s) (filter_map (λ q. settled (pick q)) slots) (λ r e. ap (cmp k) (holds.0 r e) ∙ all.0) (picked_above k slots holds.1 all.1)

    pub picked_ascend : (slots : List (Slot R)) → AllByRecursion Holds slots → Ascends cmp (slot_key key) slots → Ascends cmp (slot_key key) (filter_map (λ s. settled (pick s)) slots)
    picked_ascend [] holds asc = tt
    picked_ascend (s ∷ slots) holds asc =
        settled_ascend (pick s) (filter_map (λ q. settled (pick q)) slots)
        (λ r e. subst (λ k. AllByRecursion (λ q. cmp k (slot_key key q) ≡ Less) (filter_map (λ q. settled (pick q)) slots)) (sym (holds.0 r e)) (picked_above (slot_key key s) slots holds.1 asc.0))
        (picked_ascend slots holds.1 asc.1)

  now_holds : (slots : List (Slot R)) → AllByRecursion (Holds now_of) slots
  now_holds [] = tt
  now_holds (s ∷ slots) = (now_key cmp key s, now_holds slots)

  marked_before_key : (m : Mark R) (row : R) → SlotFits key (record { row = row; mark = m }) → (r : R) → marked_before m row ≡ Some r → key r ≡ key row
  marked_before_key Kept row fits r e = let same : row ≡ r = cc in ap key (sym same)
  marked_before_key Added row fits r e = cc
  marked_before_key (Changed before) row fits r e = let same : before ≡ r = cc in ap key (sym same) ∙ fits
  marked_before_key Gone row fits r e = let same : row ≡ r = cc in ap key (sym same)
  marked_before_key Passing row fits r e = cc

  before_holds : (slots : List (Slot R)) → AllByRecursion (SlotFits key) slots → AllByRecursion (Holds before_of) slots
  before_holds [] fits = tt
  before_holds (s ∷ slots) fits = (marked_before_key s.mark s.row fits.0, before_holds slots fits.1)

  pub kept_order : (slots : List (Slot R)) → InOrder cmp key slots → InOrder cmp key (filter_map kept slots)
  kept_order slots order = record { ascend = picked_ascend now_of slots (now_holds slots) order.ascend; fit = picked_fits now_of slots }

  pub undone_order : (slots : List (Slot R)) → InOrder cmp key slots → InOrder cmp key (filter_map undone slots)
  undone_order slots order = record { ascend = picked_ascend before_of slots (before_holds slots order.fit) order.ascend; fit = picked_fits before_of slots }

  -- the order is one of the keys alone
  keys_above : (k : K) (slots : List (Slot R)) → AllByRecursion (λ j. cmp k j ≡ Less) (map (slot_key key) slots) → AllByRecursion (λ q. cmp k (slot_key key q) ≡ Less) slots
  keys_above k [] all = tt
  keys_above k (s ∷ slots) all = (all.0, keys_above k slots all.1)

  keys_ascend : (slots : List (Slot R)) → Ascends cmp (λ (k : K). k) (map (slot_key key) slots) → Ascends cmp (slot_key key) slots
  keys_ascend [] asc = tt
  keys_ascend (s ∷ slots) asc = (keys_above (slot_key key s) slots asc.0, keys_ascend slots asc.1)

  pub edited_order : (old new : List (Slot R)) → InOrder cmp key old → Edited key old new → InOrder cmp key new
  edited_order old new order e =
      record {
        ascend = keys_ascend new (subst (Ascends cmp (λ (k : K). k)) (sym e.keys) (Ascends-map cmp (slot_key key) old order.ascend));
        fit = e.fits order.fit;
      }

  module _ (total : IsTotalOrder cmp) where
    none_tied : (k : K) (slots : List (Slot R)) → AllByRecursion (λ s. is_eq (cmp (slot_key key s) k) ≡ false) slots → AllByRecursion (λ s. not (is_eq (cmp k (slot_key key s))) ≡ true) slots
    none_tied k [] all = tt
    none_tied k (s ∷ slots) all = (go (cmp (slot_key key s) k) (total.antisymm k (slot_key key s)) all.0, none_tied k slots all.1)
      where
        go : (o : Ordering) → cmp k (slot_key key s) ≡ ordering_reverse o → is_eq o ≡ false → not (is_eq (cmp k (slot_key key s))) ≡ true
        go Less e h = ap (λ q. not (is_eq q)) e
        go Equal e h = absurd (false≢true (sym h))
        go Greater e h = ap (λ q. not (is_eq q)) e

    -- a slot that was not there at the last `keep` comes among the others
    pub before_put : (new : Slot R) (slots : List (Slot R)) → InOrder cmp key slots → AllByRecursion (λ s. is_eq (cmp (slot_key key s) (slot_key key new)) ≡ false) slots → before_of new ≡ None → rows_before (put cmp (slot_key key) new slots) ≡ rows_before slots
    unfolding put
    before_put new slots order lacks none =
        let low = filter (λ s. is_lt (cmp (slot_key key s) (slot_key key new))) slots in
        let high = filter (λ s. is_gt (cmp (slot_key key s) (slot_key key new))) slots in
        filter_map-append before_of low (new ∷ high) ∙ ap (λ o. rows_before low ++ cons_option o (rows_before high)) none ∙ sym (filter_map-append before_of low high)
        ∙ ap rows_before (sides cmp (slot_key key) total (slot_key key new) slots order.ascend ∙ filter_all (λ s. not (is_eq (cmp (slot_key key new) (slot_key key s)))) slots (none_tied (slot_key key new) slots lacks))

    pub tree_in_order : (t : Tree R) → InOrder cmp key (tree_slots t) → TreeInOrder cmp key t
    tree_in_order Leaf order = tt
    tree_in_order (Fork' p left slot right height changed) order =
        (order, tree_in_order left (order_front cmp key total (tree_slots left) slot (tree_slots right) order), tree_in_order right (order_back cmp key total (tree_slots left) slot (tree_slots right) order))
