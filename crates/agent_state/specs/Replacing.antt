-- Items of a list that others take the place of.
use Rattle.std.specs.Prelude.{ℕ, List, [], ◌∷◌, Option, Some, None, set}

-- the items with these at their places, one after the other
abbrev pub all_replaced : {A : Type 0} → List (ℕ × A) → List A → List A
all_replaced [] items = items
all_replaced (c ∷ cs) items = all_replaced cs (set items c.0 c.1)

-- another item, where there is one
abbrev pub other_or : {A : Type 0} → A → Option A → A
other_or item None = item
other_or item (Some other) = other
