-- The changes that a transaction makes to the rows of the keys, and how it ends.
use Rattle.std.specs.Prelude.{◌≡◌, ℕ, Bool, true, List, [], ◌∷◌, is_some}
use Rattle.std.specs.List.{AllByRecursion}
use Rattle.cat_model.specs.Keys.{text_cmp}
use Rattle.cat_model.specs.Tables.{Ascends}
use Rattle.cat_model.specs.Catalog.{kv_at}
use Rattle.cat_model.specs.Kv.{put_kv, kv_delete, TxnRun}
use Rattle.cat_model.specs.Kv.TxnRun.{Went, Failed_at}
use Rattle.cat_model.specs.declared.row.KvRow.{KvRow}
use Rattle.cat_model.specs.declared.applied.TxnResult.{TxnResult}
use Rattle.txn_engine.specs.declared.change.Change.{Change}
use Rattle.txn_engine.specs.declared.change.Change.TheVariants.{Put, Removed}
use Rattle.txn_engine.specs.declared.change.TxnEnd.{TxnEnd}
use Rattle.txn_engine.specs.declared.change.TxnEnd.TheVariants.{Done, RolledBack}

abbrev pub change_key : Change → List ℕ
change_key (Put row) = row.key
change_key (Removed key) = key

-- the rows with a change made
abbrev pub made : Change → List KvRow → List KvRow
made (Put row) rows = put_kv row rows
made (Removed key) rows = kv_delete key rows

-- the rows with the changes made, one after the other
abbrev pub changed : List Change → List KvRow → List KvRow
changed [] rows = rows
changed (change ∷ changes) rows = changed changes (made change rows)

-- what is removed is there
abbrev pub can_be_made : List KvRow → Change → Bool
can_be_made rows (Put row) = true
can_be_made rows (Removed key) = is_some (kv_at key rows)

-- what is put is written at the position
abbrev pub WrittenAt : ℕ → Change → Type 0
WrittenAt position (Put row) = row.modify ≡ position
WrittenAt position (Removed key) = Unit {0}

abbrev pub AllWritten : ℕ → List Change → Type 0
AllWritten position changes = AllByRecursion (λ change. WrittenAt position change) changes

-- a run over these rows at the position that went through, with its results and with changes that lead to the rows that
-- it left: in the order of their keys, one for each key, no removal of a key that was not there, and each row that is put
-- is written at the position
pub record Through (position : ℕ) (rows : List KvRow) (run : TxnRun) (results : List TxnResult) (changes : List Change) : Type 0 where
  pub went : run ≡ Went (changed changes rows) results
  pub in_order : Ascends text_cmp change_key changes
  pub can : AllByRecursion (λ change. can_be_made rows change ≡ true) changes
  pub written : AllWritten position changes

-- how a run over these rows at the position ends
abbrev pub Ends : ℕ → List KvRow → TxnRun → TxnEnd → Type 0
Ends position rows run (Done results changes) = Through position rows run results changes
Ends position rows run (RolledBack op verb) = run ≡ Failed_at op verb
