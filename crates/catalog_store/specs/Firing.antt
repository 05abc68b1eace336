-- Lists of the channels that a step fires.
use Rattle.std.specs.Prelude.{◌≡◌, ◌≢◌, Bool, true, false, not, List, [], ◌∷◌, Contains}
use Rattle.std.specs.List.{AllByRecursion}
use Rattle.cat_model.specs.Tables.{same_found}
use Rattle.cat_model.specs.Same.{same_kv}
use Rattle.cat_model.specs.Catalog.{kv_at}
use Rattle.cat_model.specs.declared.row.KvRow.{KvRow}
use Rattle.cat_model.specs.declared.query.Chan.{Chan}
use Rattle.cat_model.specs.declared.query.Chan.TheVariants.{Key, Reaped}

-- no channel stands twice
abbrev pub Once : List Chan → Type 0
Once [] = Unit {0}
Once (c ∷ cs) = AllByRecursion (λ d. d ≢ c) cs × Once cs

-- the list has just the channels that fire, each once
pub record FiresJust (fired : Chan → Bool) (chans : List Chan) : Type 0 where
  pub every : (chan : Chan) → fired chan ≡ true → Contains chans chan
  pub just : AllByRecursion (λ chan. fired chan ≡ true) chans
  pub once : Once chans

-- what a step on the rows of the keys fires, where it is a reap or not
abbrev pub keys_fire : Bool → List KvRow → List KvRow → Chan → Bool
keys_fire reap before after (Key key) = not (same_found same_kv (kv_at key before) (kv_at key after))
keys_fire reap before after Reaped = reap
keys_fire reap before after other = false
