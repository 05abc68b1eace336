-- What an operation comes to, by the rows that it leaves and by whether it went through.
use Rattle.std.specs.Prelude.{◌≡◌, Bool, true, false, List, [], ◌∷◌, Option, Some, None}
use Rattle.std.specs.List.{AllByRecursion}
use Rattle.cat_model.specs.Keys.{text_cmp}
use Rattle.cat_model.specs.Tables.{put, Ascends}
use Rattle.cat_model.specs.Kv.{Outcome}
use Rattle.cat_model.specs.declared.row.KvRow.{KvRow}
use Rattle.cat_model.specs.declared.applied.TxnResult.{TxnResult}
use Rattle.txn_engine.specs.declared.change.Change.{Change}
use Rattle.txn_engine.specs.declared.change.Change.TheVariants.{Removed}
use Rattle.txn_engine.specs.Changes.{change_key, changed, can_be_made}

-- the rows, where it went through
abbrev pub where_through : Bool → List KvRow → Option (List KvRow)
where_through true rows = Some rows
where_through false rows = None

-- the rows with the results, where there are some
abbrev pub outcome : List KvRow → Option (List TxnResult) → Outcome
outcome rows None = None
outcome rows (Some results) = Some (rows, results)

-- the changes with the removal of each of the rows noted
abbrev pub each_removed : List KvRow → List Change → List Change
each_removed [] changes = changes
each_removed (r ∷ rows) changes = each_removed rows (put text_cmp change_key (Removed r.key) changes)

-- the changes lead from rows to those after: they stand in the order of their keys, and remove only what was there
pub record LeadTo (rows after : List KvRow) (changes : List Change) : Type 0 where
  pub leads : changed changes rows ≡ after
  pub in_order : Ascends text_cmp change_key changes
  pub can : AllByRecursion (λ change. can_be_made rows change ≡ true) changes
