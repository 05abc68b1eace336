-- The items of a list, counted.
use Rattle.std.proofs.Common.{◌≡◌, ◌==◌, List, [], ◌∷◌, length, refl, arith, suc}
use Rattle.std.proofs.lemmas.Bool.{ne_eqb}
use Rattle.serde_json.specs.View.{items_view}
use Rattle.serde_json.specs.declared.value.Value.{Value}
use Rattle.json_bodies.specs.Sessions.{is_no_item}
use Rattle.json_bodies.specs.Txns.{count}

pub no_item : (vs : List Value) → (length vs == 0) ≡ is_no_item (items_view vs)
no_item [] = refl
no_item (v ∷ vs) = ne_eqb (suc (length vs)) 0 (λ e. omega (arith, e))

pub counted : (vs : List Value) → length vs ≡ count (items_view vs)
counted [] = refl
counted (v ∷ vs) = omega (arith, counted vs)
