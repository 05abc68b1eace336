-- A text that is no identifier.
use Rattle.std.proofs.Common.{◌≡◌, ℕ, List, Option, Some, None, option_map, refl}
use Rattle.std.specs.Int.{w128, from_be_bytes}

pub unparsed : (o : Option (List ℕ)) → (((u : List ℕ) × (o ≡ Some u)) → ⊥) → None ≡ option_map (from_be_bytes w128) o
unparsed None h = refl
unparsed (Some u) h = absurd (h (u, refl))
