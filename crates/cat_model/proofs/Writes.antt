-- What a write leaves: the rows as they were, or those with the row that it makes.
use Rattle.std.proofs.Common.{ℕ, Bool, true, false, cond, List, Option}
use Rattle.cat_model.specs.Catalog.{kv_at}
use Rattle.cat_model.specs.Kv.{put_kv, written, changes_nothing, write_kv}
use Rattle.cat_model.specs.declared.row.KvRow.{KvRow}

-- what holds of both holds after a write
pub left_by_write :
    (P : List KvRow → Type 0) (version i : ℕ) (key value : List ℕ) (flags : ℕ) (session : Option ℕ) (lock_index : ℕ) (rows : List KvRow)
    → P rows → P (put_kv (written i key value flags session lock_index (kv_at key rows)) rows) → P (write_kv version i key value flags session lock_index rows)
unfolding write_kv
left_by_write P version i key value flags session lock_index rows same put = go (changes_nothing version new (kv_at key rows))
  where
    new : KvRow
    new = written i key value flags session lock_index (kv_at key rows)

    go : (b : Bool) → P (cond b rows (put_kv new rows))
    go true = same
    go false = put
