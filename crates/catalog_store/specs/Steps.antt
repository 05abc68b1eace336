-- What the commands on keys do to the table of keys.
use Rattle.std.specs.Prelude.{◌≡◌, ℕ, ◌<◌, ◌+◌, Bool, true, false, not, ◌&&◌, if◌then◌else◌, List, ◌∷◌, Option, Some, None, is_some, []}
use Rattle.std.specs.List.{AllByRecursion}
use Rattle.cat_model.specs.Machine.{act}
use Rattle.cat_model.specs.Indexes.{is_reap}
use Rattle.cat_model.specs.KvIndexes.{buried, tombs_after, floor_after, key_index, prefix_index}
use Rattle.cat_model.specs.declared.row.KvRow.{KvRow}
use Rattle.cat_model.specs.declared.query.Chan.{Chan}
use Rattle.cat_model.specs.declared.applied.Applied.{Applied}
use Rattle.cat_model.specs.declared.command.Command.{Command}
use Rattle.cat_model.specs.declared.command.Command.TheVariants.{Noop, KvSet, KvCas, KvLock, KvUnlock, KvDelete, KvDeleteCas, KvDeleteTree, Reap}
use Rattle.cat_model.specs.Keys.{same_option}
use Rattle.cat_model.specs.Kv.{kv_delete, index_fits, holder, locks}
use Rattle.kv_table.specs.States.{KvVersions, SameTombs}
use Rattle.cat_model.specs.Catalog.{Catalog, session_at}
use Rattle.cat_model.specs.declared.row.SessionRow.{SessionRow}
use Rattle.catalog_store.specs.Firing.{FiresJust, keys_fire}

-- the commands that write a key
abbrev pub is_write : Command → Bool
is_write (KvSet key flags value) = true
is_write (KvCas key flags value index) = true
is_write (KvLock key flags value session) = true
is_write (KvUnlock key flags value session) = true
is_write other = false

-- the commands on keys but for transactions, Noop and Reap
abbrev pub is_on_keys : Command → Bool
is_on_keys Noop = true
is_on_keys (KvDelete key) = true
is_on_keys (KvDeleteCas key index) = true
is_on_keys (KvDeleteTree prefix) = true
is_on_keys Reap = true
is_on_keys other = is_write other

-- it tells whether the session that acquires a lock is one of these
abbrev pub Tells : Bool → Command → List SessionRow → Type 0
Tells known (KvLock key flags value session) sessions = known ≡ is_some (session_at session sessions)
Tells known other sessions = Unit {0}

-- all rows were written before this position
abbrev pub Earlier : ℕ → List KvRow → Type 0
Earlier position rows = AllByRecursion (λ r. r.modify < position) rows

-- both give the rows the same indexes
pub record SameIndexes (rows : List KvRow) (tombs : List (List ℕ × ℕ)) (floor : ℕ) (tombs' : List (List ℕ × ℕ)) (floor' : ℕ) : Type 0 where
  pub keys : (key : List ℕ) → key_index key rows tombs' floor' ≡ key_index key rows tombs floor
  pub prefixes : (prefix : List ℕ) → prefix_index prefix rows tombs' floor' ≡ prefix_index prefix rows tombs floor

-- rows were written or removed at the position: the removed ones have tombstones, and what changed fires
pub record Moves (position : ℕ) (old new : KvVersions) (chans : List Chan) : Type 0 where
  pub indexes : SameIndexes new.now.rows (buried position new.now.rows old.now.rows old.now.tombs) old.now.floor new.now.tombs new.now.floor
  pub fires : FiresJust (keys_fire false old.now.rows new.now.rows) chans
  pub before : new.before ≡ old.before

-- The table after a command, with its answer and the channels that it fires: in whatever catalog of this version and
-- with these sessions its rows stand, the command changes them alone.
pub record KeyStep (version : ℕ) (sessions : List SessionRow) (position : ℕ) (c : Command) (old new : KvVersions) (answer : Applied) (chans : List Chan) : Type 0 where
  pub does : (k : Catalog) → k.version ≡ version → k.sessions ≡ sessions → act position c (record k { kv = old.now.rows }) ≡ (record k { kv = new.now.rows }, answer)
  pub indexes : SameIndexes new.now.rows (tombs_after position c old.now.rows new.now.rows old.now.tombs) (floor_after position c old.now.floor) new.now.tombs new.now.floor
  pub fires : FiresJust (keys_fire (is_reap c) old.now.rows new.now.rows) chans
  pub before : new.before ≡ old.before

-- such a step of a machine of whatever version, whatever its sessions
abbrev pub PlainStep : ℕ → Command → KvVersions → KvVersions → Applied → List Chan → Type 0
PlainStep position c old new answer chans = (version : ℕ) (sessions : List SessionRow) → KeyStep version sessions position c old new answer chans

-- the row of the key is gone, and the key has a tombstone
pub record Buries (key : List ℕ) (position : ℕ) (old new : KvVersions) : Type 0 where
  pub rows : new.now.rows ≡ kv_delete key old.now.rows
  pub tombs : SameTombs ((key, position) ∷ old.now.tombs) new.now.tombs
  pub floor : new.now.floor ≡ old.now.floor
  pub before : new.before ≡ old.before

-- the lock index of a row once the session holds it, or none where another one holds it
abbrev pub acquired : ℕ → Option KvRow → Option ℕ
acquired session row =
    if same_option (holder row) None then Some (locks row + 1)
    else (if same_option (holder row) (Some session) then Some (locks row) else None)

-- a row that a check-and-delete at this index leaves there
abbrev pub is_refused : ℕ → Option KvRow → Bool
is_refused index row = is_some row && not (index_fits index row)

-- the rows of all these keys are gone, and each key has a tombstone
abbrev pub without_each : List (List ℕ) → List KvRow → List KvRow
without_each [] rows = rows
without_each (key ∷ keys) rows = without_each keys (kv_delete key rows)

abbrev pub graves : ℕ → List (List ℕ) → List (List ℕ × ℕ) → List (List ℕ × ℕ)
graves position [] tombs = tombs
graves position (key ∷ keys) tombs = (key, position) ∷ graves position keys tombs

pub record BuriesEach (keys : List (List ℕ)) (position : ℕ) (old new : KvVersions) : Type 0 where
  pub rows : new.now.rows ≡ without_each keys old.now.rows
  pub tombs : SameTombs (graves position keys old.now.tombs) new.now.tombs
  pub floor : new.now.floor ≡ old.now.floor
  pub before : new.before ≡ old.before
