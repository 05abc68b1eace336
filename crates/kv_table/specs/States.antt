-- What a table of keys holds, as it is and as it stood at the last `keep`.
use Rattle.std.specs.Prelude.{◌≡◌, ℕ, false, List, [], ◌∷◌}
use Rattle.std.proofs.Common.{max}
use Rattle.std.specs.Prelude.{Bool, Some}
use Rattle.cat_model.specs.Keys.{same_option}
use Rattle.cat_model.specs.Kv.{put_kv, kv_delete}
use Rattle.cat_model.specs.KvIndexes.{last_tomb}
use Rattle.cat_model.specs.declared.row.KvRow.{KvRow}

-- the rows in the order of their keys, the positions at which keys were removed, and the floor under the indexes
pub record KvState : Type 0 where
  pub rows : List KvRow
  pub tombs : List (List ℕ × ℕ)
  pub floor : ℕ

pub record KvVersions : Type 0 where
  pub now : KvState
  pub before : KvState

abbrev pub empty_state : KvState
empty_state = record { rows = []; tombs = []; floor = 1 }

-- the session holds the key of the row
abbrev pub is_held_by : ℕ → KvRow → Bool
is_held_by session r = same_option r.session (Some session)

-- the last tombstone under each test is the same
abbrev pub SameTombs : List (List ℕ × ℕ) → List (List ℕ × ℕ) → Type 0
SameTombs a b = (test : List ℕ → Bool) (floor : ℕ) → last_tomb test floor a ≡ last_tomb test floor b

-- A row of this key written at this position may take the key's own tombstones away: they are below it in every index
-- that it counts for.
pub record TombsUnder (key : List ℕ) (position : ℕ) (old new : List (List ℕ × ℕ)) : Type 0 where
  pub others : (test : List ℕ → Bool) (floor : ℕ) → test key ≡ false → last_tomb test floor new ≡ last_tomb test floor old
  pub under : (test : List ℕ → Bool) (floor : ℕ) → max position (last_tomb test floor new) ≡ max position (last_tomb test floor old)

-- the row is put in the place of the one of its key
pub record SetsRow (row : KvRow) (old new : KvVersions) : Type 0 where
  pub rows : new.now.rows ≡ put_kv row old.now.rows
  pub tombs : TombsUnder row.key row.modify old.now.tombs new.now.tombs
  pub floor : new.now.floor ≡ old.now.floor
  pub before : new.before ≡ old.before

-- the row of the key is gone
pub record RemovesRow (key : List ℕ) (old new : KvVersions) : Type 0 where
  pub rows : new.now.rows ≡ kv_delete key old.now.rows
  pub tombs : SameTombs old.now.tombs new.now.tombs
  pub floor : new.now.floor ≡ old.now.floor
  pub before : new.before ≡ old.before

-- the tombstones are those before and this one
pub record AddsTomb (key : List ℕ) (position : ℕ) (old new : KvVersions) : Type 0 where
  pub rows : new.now.rows ≡ old.now.rows
  pub tombs : SameTombs ((key, position) ∷ old.now.tombs) new.now.tombs
  pub floor : new.now.floor ≡ old.now.floor
  pub before : new.before ≡ old.before

-- no tombstone is left, and the floor is at the position
pub record Reaps (position : ℕ) (old new : KvVersions) : Type 0 where
  pub rows : new.now.rows ≡ old.now.rows
  pub tombs : SameTombs [] new.now.tombs
  pub floor : new.now.floor ≡ position
  pub before : new.before ≡ old.before
