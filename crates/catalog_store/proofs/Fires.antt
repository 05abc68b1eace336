-- Which channels a step on keys fires.
use Rattle.std.proofs.Common.{◌≡◌, ℕ, Bool, true, false, not, List, [], ◌∷◌, refl, sym, ◌∙◌, ap, Option, Some, None, arith}
use Rattle.std.proofs.lemmas.Bool.{false≢true}
use Rattle.cat_model.specs.Tables.{same_found}
use Rattle.cat_model.specs.Same.{same_kv}
use Rattle.cat_model.specs.Catalog.{kv_at}
use Rattle.cat_model.specs.declared.row.KvRow.{KvRow}
use Rattle.cat_model.specs.declared.query.Chan.{Chan}
use Rattle.cat_model.specs.declared.query.Chan.TheVariants.{Key, Reaped}
use Rattle.cat_model.proofs.SameLemmas.{kv_decides}
use Rattle.catalog_store.specs.Firing.{FiresJust, keys_fire}

-- nothing fires
pub fires_none : (fired : Chan → Bool) → ((chan : Chan) → fired chan ≡ false) → FiresJust fired []
fires_none fired quiet = record { every = λ chan e. absurd (false≢true (sym (quiet chan) ∙ e)); just = tt; once = tt }

-- one channel fires
pub fires_one : (fired : Chan → Bool) (chan : Chan) → fired chan ≡ true → ((other : Chan) → fired other ≡ true → chan ≡ other) → FiresJust fired (chan ∷ [])
fires_one fired chan fires only = record { every = λ other e. (0, omega arith, only other e); just = (fires, tt); once = (tt, tt) }

pub same_row : (o : Option KvRow) → same_found same_kv o o ≡ true
same_row None = refl
same_row (Some r) = (kv_decides r r).1 refl

-- where each key keeps its row, no key fires
pub key_quiet : (before after : List KvRow) (key : List ℕ) → kv_at key after ≡ kv_at key before → not (same_found same_kv (kv_at key before) (kv_at key after)) ≡ false
key_quiet before after key e = ap (λ o. not (same_found same_kv (kv_at key before) o)) e ∙ ap not (same_row (kv_at key before))

pub all_quiet : (rows : List KvRow) (chan : Chan) → keys_fire false rows rows chan ≡ false
all_quiet rows (Key key) = ap not (same_row (kv_at key rows))
all_quiet rows Reaped = refl
all_quiet rows other = refl

-- a reap fires its own channel alone
pub only_reaped : (rows : List KvRow) (chan : Chan) → keys_fire true rows rows chan ≡ true → Reaped ≡ chan
only_reaped rows (Key key) e = absurd (false≢true (sym (ap not (same_row (kv_at key rows))) ∙ e))
only_reaped rows Reaped e = refl
only_reaped rows other e = absurd (false≢true e)

-- where only keys with a property lose or change their rows, only their channels fire
pub keys_only : (before after : List KvRow) (P : Chan → Type 0) → ((key : List ℕ) → not (same_found same_kv (kv_at key before) (kv_at key after)) ≡ true → P (Key key)) → (chan : Chan) → keys_fire false before after chan ≡ true → P chan
keys_only before after P of_key (Key key) e = of_key key e
keys_only before after P of_key Reaped e = absurd (false≢true e)
keys_only before after P of_key other e = absurd (false≢true e)
