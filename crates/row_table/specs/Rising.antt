-- How keys stand to a group of rows that stand one after another.
use Rattle.std.specs.Prelude.{◌≡◌}
use Rattle.std.specs.declared.cmp.Ordering.{Ordering}
use Rattle.std.specs.declared.cmp.Ordering.TheVariants.{Less, Greater}

-- a key in front of one below the group is below it, and one behind a key above the group is above it
abbrev pub Rises : {K : Type 0} → (K → K → Ordering) → (K → Ordering) → Type 0
Rises {K} cmp stands = (a b : K) → cmp a b ≡ Less → (stands b ≡ Less → stands a ≡ Less) × (stands a ≡ Greater → stands b ≡ Greater)
