-- The rows of slots: their order, and what becomes of them where a slot is put among others.
use Rattle.std.proofs.Common.{◌≡◌, true, cond, List, [], ◌∷◌, ◌++◌, Bool, refl, ◌∙◌, ap, sym, Some, filter}
use Rattle.std.specs.List.{AllByRecursion, cons_option}
use Rattle.std.specs.Cmp.{IsTotalOrder}
use Rattle.std.specs.declared.cmp.Ordering.{Ordering}
use Rattle.std.specs.Ordering.{is_lt, is_gt}
use Rattle.std.proofs.lemmas.List.Elements.{filter_map-append}
use Rattle.cat_model.specs.Tables.{put, Ascends}
use Rattle.cat_model.proofs.TableLemmas.{All-filter, All-append, Ascends-put}
use Rattle.cat_model.proofs.Elements.{filter_map-filter, Ascends-filter_map}
use Rattle.row_table.specs.Slots.{slot_key, marked_now, now_of, rows_now, SlotFits, InOrder}
use Rattle.row_table.specs.declared.slot.Slot.{Slot}
use Rattle.row_table.specs.declared.slot.Mark.{Mark}
use Rattle.row_table.specs.declared.slot.Mark.TheVariants.{Kept, Added, Changed, Gone, Passing}

pub filter_all : {R : Type 0} (test : R → Bool) (rows : List R) → AllByRecursion (λ r. test r ≡ true) rows → filter test rows ≡ rows
filter_all test [] all = refl
filter_all test (r ∷ rows) all = ap (λ b. cond b (r ∷ filter test rows) (filter test rows)) all.0 ∙ ap (λ l. r ∷ l) (filter_all test rows all.1)

module _ {K R : Type 0} (cmp : K → K → Ordering) (key : R → K) where
  -- the row that is there has the slot's key
  marked_key : (m : Mark R) (row r : R) → marked_now m row ≡ Some r → key r ≡ key row
  marked_key Kept row r e = let same : row ≡ r = cc in ap key (sym same)
  marked_key Added row r e = let same : row ≡ r = cc in ap key (sym same)
  marked_key (Changed before) row r e = let same : row ≡ r = cc in ap key (sym same)
  marked_key Gone row r e = cc
  marked_key Passing row r e = cc

  pub now_key : (s : Slot R) (r : R) → now_of s ≡ Some r → key r ≡ slot_key key s
  now_key s r e = marked_key s.mark s.row r e

  pub rows_ascend : (slots : List (Slot R)) → InOrder cmp key slots → Ascends cmp key (rows_now slots)
  rows_ascend slots order = Ascends-filter_map cmp (slot_key key) key now_of now_key slots order.ascend

  -- the rows of slots among which one is put
  now_put : (s : Slot R) (slots : List (Slot R)) → rows_now (put cmp (slot_key key) s slots) ≡ filter (λ r. is_lt (cmp (key r) (slot_key key s))) (rows_now slots) ++ cons_option (now_of s) (filter (λ r. is_gt (cmp (key r) (slot_key key s))) (rows_now slots))
  unfolding put
  now_put s slots =
      filter_map-append now_of (filter (λ q. is_lt (cmp (slot_key key q) (slot_key key s))) slots) (s ∷ filter (λ q. is_gt (cmp (slot_key key q) (slot_key key s))) slots)
      ∙ (λ i. filter_map-filter cmp (slot_key key) key now_of now_key (λ k. is_lt (cmp k (slot_key key s))) slots i ++ cons_option (now_of s) (filter_map-filter cmp (slot_key key) key now_of now_key (λ k. is_gt (cmp k (slot_key key s))) slots i))

  pub set_now : (s : Slot R) (slots : List (Slot R)) (row : R) → now_of s ≡ Some row → slot_key key s ≡ key row → rows_now (put cmp (slot_key key) s slots) ≡ put cmp key row (rows_now slots)
  unfolding put
  set_now s slots row is same = now_put s slots ∙ (λ i. filter (λ r. is_lt (cmp (key r) (same i))) (rows_now slots) ++ cons_option (is i) (filter (λ r. is_gt (cmp (key r) (same i))) (rows_now slots)))

  module _ (total : IsTotalOrder cmp) where
    pub order_put : (new : Slot R) (slots : List (Slot R)) → InOrder cmp key slots → SlotFits key new → InOrder cmp key (put cmp (slot_key key) new slots)
    unfolding put
    order_put new slots order fits =
        record {
          ascend = Ascends-put cmp (slot_key key) total new slots order.ascend;
          fit = All-append (SlotFits key) _ _ (All-filter (SlotFits key) (λ r. is_lt (cmp (slot_key key r) (slot_key key new))) slots order.fit) (fits, All-filter (SlotFits key) (λ r. is_gt (cmp (slot_key key r) (slot_key key new))) slots order.fit);
        }
