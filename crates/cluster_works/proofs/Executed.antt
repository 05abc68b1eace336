-- A text that spells no identifier.
use Rattle.std.proofs.Common.{◌≡◌, ℕ, List, Option, Some, None, refl}
use Rattle.std.specs.Int.{w128, from_be_bytes}
use Rattle.std.specs.Option.{option_map}

pub unparsed : (o : Option (List ℕ)) → (((u : List ℕ) × (o ≡ Some u)) → ⊥) → None ≡ option_map (from_be_bytes w128) o
unparsed None h = refl
unparsed (Some u) h = absurd (h (u, refl))
