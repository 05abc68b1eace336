-- The changes that a transaction makes to the rows of the keys.
use Rattle.std.specs.Prelude.{◌≡◌, ℕ, Bool, true, false, List, [], ◌∷◌, is_some}
use Rattle.std.proofs.Common.{max}
use Rattle.std.specs.List.{AllByRecursion}
use Rattle.cat_model.specs.Catalog.{kv_at}
use Rattle.cat_model.specs.KvIndexes.{last_tomb}
use Rattle.cat_model.specs.declared.row.KvRow.{KvRow}
use Rattle.kv_table.specs.States.{KvVersions, SetsRow}
use Rattle.txn_engine.specs.declared.change.Change.{Change}
use Rattle.txn_engine.specs.declared.change.Change.TheVariants.{Put, Removed}
use Rattle.txn_engine.specs.Changes.{changed}
use Rattle.catalog_store.specs.Steps.{Buries}

-- what is put is written at the position, and what is removed is there
abbrev pub IsChange : ℕ → List KvRow → Change → Type 0
IsChange position rows (Put row) = row.modify ≡ position
IsChange position rows (Removed key) = is_some (kv_at key rows) ≡ true

-- the table with a change made
abbrev pub Makes : Change → ℕ → KvVersions → KvVersions → Type 0
Makes (Put row) position old new = SetsRow row old new
Makes (Removed key) position old new = Buries key position old new

-- no row is put whose key passes the test
abbrev pub Misses : (List ℕ → Bool) → Change → Type 0
Misses test (Put row) = test row.key ≡ false
Misses test (Removed key) = Unit {0}

-- a tombstone for each key that is removed
abbrev pub grave : ℕ → Change → List (List ℕ × ℕ) → List (List ℕ × ℕ)
grave position (Put row) tombs = tombs
grave position (Removed key) tombs = (key, position) ∷ tombs

abbrev pub graves_of : ℕ → List Change → List (List ℕ × ℕ) → List (List ℕ × ℕ)
graves_of position [] tombs = tombs
graves_of position (change ∷ changes) tombs = grave position change (graves_of position changes tombs)

-- The table with the changes made: removed keys have tombstones, and a tombstone may be gone that a row put at the
-- position hides.
pub record MakesEach (changes : List Change) (position : ℕ) (old new : KvVersions) : Type 0 where
  pub rows : new.now.rows ≡ changed changes old.now.rows
  pub others : (test : List ℕ → Bool) (floor : ℕ) → AllByRecursion (λ change. Misses test change) changes → last_tomb test floor new.now.tombs ≡ last_tomb test floor (graves_of position changes old.now.tombs)
  pub under : AllByRecursion (λ change. IsChange position old.now.rows change) changes → (test : List ℕ → Bool) (floor : ℕ) → max position (last_tomb test floor new.now.tombs) ≡ max position (last_tomb test floor (graves_of position changes old.now.tombs))
  pub floor : new.now.floor ≡ old.now.floor
  pub before : new.before ≡ old.before
