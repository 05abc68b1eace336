-- What is known of the slots of a tree where the rows of a group are looked for.
use Rattle.std.specs.Prelude.{◌≡◌, true, false, List}
use Rattle.std.specs.List.{AllByRecursion}
use Rattle.std.specs.declared.cmp.Ordering.{Ordering}
use Rattle.std.specs.Ordering.{is_lt, is_gt}
use Rattle.row_table.specs.Slots.{slot_key}
use Rattle.row_table.specs.declared.slot.Slot.{Slot}
use Rattle.row_table.specs.declared.group.Ends.{Ends}

-- what stands so is not below the group, or not above it, where that is known
abbrev pub Within : Ends → Ordering → Type 0
Within ends place = (ends.low ≡ true → is_lt place ≡ false) × (ends.high ≡ true → is_gt place ≡ false)

abbrev pub AllWithin : {K R : Type 0} → (R → K) → (K → Ordering) → Ends → List (Slot R) → Type 0
AllWithin key stands ends slots = AllByRecursion (λ s. Within ends (stands (slot_key key s))) slots
