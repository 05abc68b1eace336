-- What a function gives, unless memory ran out.
use Rattle.std.specs.Prelude.{◌≡◌, Option, option_map, Result, IfOk}
use Rattle.cat_model.specs.declared.memory.Memory.{Memory}

-- what is wanted, seen by view, if there is any
abbrev pub Gives : {X A : Type 0} → (X → A) → Result (Option X) Memory → Option A → Type 0
Gives view result wanted = IfOk result (λ found. option_map view found ≡ wanted)
