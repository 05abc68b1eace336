-- The commands on keys, as functions of the machine's version and of the list of KV rows. None means that the answer
-- is No.
use Rattle.std.specs.Prelude.{ℕ, ◌+◌, nat_le, Bool, true, false, not, if◌then◌else◌, List, [], ◌∷◌, ◌++◌, Option, Some, None, nat_eq, ◌&&◌, filter, is_some}
use Rattle.std.specs.Ordering.{is_eq}
use Rattle.cat_model.specs.Keys.{text_cmp, has_prefix, same_option}
use Rattle.cat_model.specs.Tables.{put, without}
use Rattle.cat_model.specs.Same.{alike_kv}
use Rattle.cat_model.specs.Catalog.{kv_at, kv_key, session_at}
use Rattle.cat_model.specs.declared.row.KvRow.{KvRow}
use Rattle.cat_model.specs.declared.row.SessionRow.{SessionRow}
use Rattle.cat_model.specs.declared.command.TxnOp.{TxnOp}
use Rattle.cat_model.specs.declared.applied.TxnResult.{TxnResult}
use Rattle.cat_model.specs.declared.command.Verb.{Verb}
use Rattle.cat_model.specs.declared.command.Verb.TheVariants.{Set, Cas, Lock, Unlock, Get, GetOrEmpty, GetTree, CheckIndex, CheckSession, CheckNotExists, Delete, DeleteTree, DeleteCas}

abbrev pub put_kv : KvRow → List KvRow → List KvRow
put_kv = put text_cmp kv_key

-- the row that a write at position i makes: a row that was there keeps its create
abbrev pub written : ℕ → List ℕ → List ℕ → ℕ → Option ℕ → ℕ → Option KvRow → KvRow
written i key value flags session lock_index None = record { key = key; value = value; flags = flags; session = session; lock_index = lock_index; create = i; modify = i }
written i key value flags session lock_index (Some old) = record { key = key; value = value; flags = flags; session = session; lock_index = lock_index; create = old.create; modify = i }

-- who holds the row, and its lock index: none and 0 where there is no row
abbrev pub holder : Option KvRow → Option ℕ
holder None = None
holder (Some old) = old.session

abbrev pub locks : Option KvRow → ℕ
locks None = 0
locks (Some old) = old.lock_index

-- a write that changes nothing: from version 2 on the row stays as it was, and with it the position of its last change
abbrev pub changes_nothing : ℕ → KvRow → Option KvRow → Bool
changes_nothing version new None = false
changes_nothing version new (Some old) = nat_le 2 version && alike_kv old new

-- the rows with value and flags of a key written, held by this session with this lock index
unfoldable pub write_kv : ℕ → ℕ → List ℕ → List ℕ → ℕ → Option ℕ → ℕ → List KvRow → List KvRow
write_kv version i key value flags session lock_index rows =
    let old = kv_at key rows in
    let new = written i key value flags session lock_index old in
    if changes_nothing version new old then rows else put_kv new rows

unfoldable pub kv_set : ℕ → ℕ → List ℕ → List ℕ → ℕ → List KvRow → List KvRow
kv_set version i key value flags rows = write_kv version i key value flags (holder (kv_at key rows)) (locks (kv_at key rows)) rows

-- whether a check-and-set at this index goes through: 0 wants no row, n a row of modify n
abbrev pub index_fits : ℕ → Option KvRow → Bool
index_fits n None = nat_eq n 0
index_fits n (Some old) = not (nat_eq n 0) && nat_eq old.modify n

unfoldable pub kv_cas : ℕ → ℕ → List ℕ → List ℕ → ℕ → ℕ → List KvRow → Option (List KvRow)
kv_cas version i key value flags n rows = if index_fits n (kv_at key rows) then Some (kv_set version i key value flags rows) else None

unfoldable pub kv_lock : ℕ → ℕ → List ℕ → List ℕ → ℕ → ℕ → List KvRow → Option (List KvRow)
kv_lock version i key value flags id rows =
    let old = kv_at key rows in
    if same_option (holder old) None
    then Some (write_kv version i key value flags (Some id) (locks old + 1) rows)
    else (if same_option (holder old) (Some id) then Some (write_kv version i key value flags (Some id) (locks old) rows) else None)

unfoldable pub kv_unlock : ℕ → ℕ → List ℕ → List ℕ → ℕ → ℕ → List KvRow → Option (List KvRow)
kv_unlock version i key value flags id rows =
    let old = kv_at key rows in
    if same_option (holder old) (Some id) then Some (write_kv version i key value flags None (locks old) rows) else None

unfoldable pub kv_delete : List ℕ → List KvRow → List KvRow
kv_delete key rows = without (λ r. is_eq (text_cmp key r.key)) rows

unfoldable pub kv_delete_tree : List ℕ → List KvRow → List KvRow
kv_delete_tree prefix rows = without (λ r. has_prefix prefix r.key) rows

-- an absent key is no failure, and index 0 removes nothing
unfoldable pub kv_delete_cas : List ℕ → ℕ → List KvRow → Option (List KvRow)
kv_delete_cas key n rows =
    if not (is_some (kv_at key rows)) then Some rows
    else (if index_fits n (kv_at key rows) then Some (kv_delete key rows) else None)

-- Operations of a transaction: the rows that one leaves with its results, or None where it fails.
abbrev pub Outcome : Type 0
Outcome = Option (List KvRow × List TxnResult)

abbrev pub row_without_value : KvRow → TxnResult
row_without_value r = record { row = r; with_value = false }

abbrev pub row_with_value : KvRow → TxnResult
row_with_value r = record { row = r; with_value = true }

abbrev pub result_of : Option KvRow → List TxnResult
result_of None = []
result_of (Some r) = row_without_value r ∷ []

-- the rows, and the row of the key without its value
abbrev pub giving : List ℕ → Option (List KvRow) → Outcome
giving key None = None
giving key (Some rows) = Some (rows, result_of (kv_at key rows))

abbrev pub giving_nothing : Option (List KvRow) → Outcome
giving_nothing None = None
giving_nothing (Some rows) = Some (rows, [])

abbrev pub absent_row : List ℕ → KvRow
absent_row key = record { key = key; value = []; flags = 0; session = None; lock_index = 0; create = 0; modify = 0 }

abbrev pub got : List KvRow → Option KvRow → Outcome
got rows None = None
got rows (Some r) = Some (rows, row_with_value r ∷ [])

abbrev pub got_or_empty : List ℕ → List KvRow → Option KvRow → Outcome
got_or_empty key rows None = Some (rows, row_with_value (absent_row key) ∷ [])
got_or_empty key rows (Some r) = Some (rows, row_with_value r ∷ [])

abbrev pub each_with_value : List KvRow → List TxnResult
each_with_value [] = []
each_with_value (r ∷ rows) = row_with_value r ∷ each_with_value rows

-- a lock or unlock by a session that is there
abbrev pub by_session : List SessionRow → Option ℕ → (ℕ → Outcome) → Outcome
by_session sessions None f = None
by_session sessions (Some id) f = if is_some (session_at id sessions) then f id else None

abbrev pub held_by : Option ℕ → Option KvRow → Bool
held_by None row = false
held_by (Some id) row = same_option (holder row) (Some id)

abbrev pub operate : ℕ → ℕ → List SessionRow → Verb → TxnOp → List KvRow → Outcome
operate version i sessions Set op rows = giving op.key (Some (kv_set version i op.key op.value op.flags rows))
operate version i sessions Cas op rows = giving op.key (kv_cas version i op.key op.value op.flags op.index rows)
operate version i sessions Lock op rows = by_session sessions op.session (λ id. giving op.key (kv_lock version i op.key op.value op.flags id rows))
operate version i sessions Unlock op rows = giving op.key (elim op.session as (λ _. Option (List KvRow)) [ None ↦ None | Some id ↦ kv_unlock version i op.key op.value op.flags id rows ])
operate version i sessions Get op rows = got rows (kv_at op.key rows)
operate version i sessions GetOrEmpty op rows = got_or_empty op.key rows (kv_at op.key rows)
operate version i sessions GetTree op rows = Some (rows, each_with_value (filter (λ r. has_prefix op.key r.key) rows))
operate version i sessions CheckIndex op rows = if is_some (kv_at op.key rows) && nat_eq (modified (kv_at op.key rows)) op.index then giving op.key (Some rows) else None
  where
    modified : Option KvRow → ℕ
    modified None = 0
    modified (Some r) = r.modify
operate version i sessions CheckSession op rows = if held_by op.session (kv_at op.key rows) then giving op.key (Some rows) else None
operate version i sessions CheckNotExists op rows = if is_some (kv_at op.key rows) then None else Some (rows, [])
operate version i sessions Delete op rows = Some (kv_delete op.key rows, [])
operate version i sessions DeleteTree op rows = Some (kv_delete_tree op.key rows, [])
operate version i sessions DeleteCas op rows = giving_nothing (kv_delete_cas op.key op.index rows)

-- the operations in order, each on what the ones before left: rows and results, or the first that fails, with its place
pub data TxnRun : Type 0 where
  Went : List KvRow → List TxnResult → TxnRun
  Failed_at : ℕ → Verb → TxnRun

abbrev pub goes_on : Outcome → TxnRun → (List KvRow × List TxnResult → TxnRun) → TxnRun
goes_on None failed next = failed
goes_on (Some done) failed next = next done

unfoldable pub run_ops : ℕ → ℕ → List SessionRow → ℕ → List TxnOp → List KvRow → List TxnResult → TxnRun
run_ops version i sessions at [] rows results = Went rows results
run_ops version i sessions at (op ∷ ops) rows results =
    goes_on (operate version i sessions op.verb op rows) (Failed_at at op.verb) (λ done. run_ops version i sessions (at + 1) ops done.0 (results ++ done.1))
