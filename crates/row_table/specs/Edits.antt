-- What a change of rows in their places does to the slots of a tree.
use Rattle.std.specs.Prelude.{◌≡◌, false, List, Option, Some, None, map}
use Rattle.std.specs.List.{AllByRecursion}
use Rattle.std.specs.declared.cmp.Ordering.{Ordering}
use Rattle.std.specs.Ordering.{is_eq}
use Rattle.cat_model.specs.Tables.{put}
use Rattle.row_table.specs.Slots.{slot_key, rows_now, rows_before, SlotFits}
use Rattle.row_table.specs.declared.slot.Slot.{Slot}

-- each key keeps its slot, and what there was at the last `keep`
pub record Edited {K R : Type 0} (key : R → K) (old new : List (Slot R)) : Type 0 where
  pub keys : map (slot_key key) new ≡ map (slot_key key) old
  pub fits : AllByRecursion (SlotFits key) old → AllByRecursion (SlotFits key) new
  pub before : rows_before new ≡ rows_before old

module _ {K R : Type 0} (cmp : K → K → Ordering) (key : R → K) where
  -- the row is in the place of the one of its key, or came back since its key has no slot
  abbrev pub Replaced : R → Option R → List (Slot R) → List (Slot R) → Type 0
  Replaced row None old new = rows_now new ≡ put cmp key row (rows_now old)
  Replaced row (Some back) old new = (back ≡ row) × (new ≡ old) × AllByRecursion (λ s. is_eq (cmp (slot_key key s) (key row)) ≡ false) old
