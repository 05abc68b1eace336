-- The keys of a catalog stay in order, whatever the command.
use Rattle.std.proofs.Common.{◌≡◌, ℕ, ◌+◌, Bool, true, false, not, cond, List, [], ◌∷◌, ◌++◌, Option, Some, None, is_some, length}
use Rattle.std.proofs.lemmas.Cmp.{nat_list_cmp_total}
use Rattle.cat_model.specs.Keys.{text_cmp, same_option}
use Rattle.cat_model.specs.Tables.{Ascends}
use Rattle.cat_model.specs.Catalog.{Catalog, kv_key, kv_at, session_at}
use Rattle.cat_model.specs.Kv.{put_kv, write_kv, kv_set, kv_cas, kv_lock, kv_unlock, kv_delete, kv_delete_tree, kv_delete_cas, run_ops, TxnRun, Went, Failed_at, written, Outcome, operate, index_fits, holder, locks, held_by, giving, giving_nothing, got, got_or_empty, by_session, goes_on}
use Rattle.cat_model.specs.Keys.{is_empty}
use Rattle.cat_model.specs.Machine.{Step, act, apply, end_sessions, at_past, register, deregister, create_session, set_query, freed_row, ended_holder, yes_or_no, txn_end, unless, deregister_service, deregister_check, deregister_node}
use Rattle.cat_model.specs.declared.applied.Refuse.{Refuse}
use Rattle.cat_model.specs.declared.row.KvRow.{KvRow}
use Rattle.cat_model.specs.declared.row.SessionRow.{SessionRow}
use Rattle.cat_model.specs.declared.command.TxnOp.{TxnOp}
use Rattle.cat_model.specs.declared.applied.TxnResult.{TxnResult}
use Rattle.cat_model.specs.declared.command.Verb.{Verb}
use Rattle.cat_model.specs.declared.command.Verb.TheVariants.{Set, Cas, Lock, Unlock, Get, GetOrEmpty, GetTree, CheckIndex, CheckSession, CheckNotExists, Delete, DeleteTree, DeleteCas}
use Rattle.cat_model.specs.declared.row.Behavior.{Behavior}
use Rattle.cat_model.specs.declared.row.Behavior.TheVariants as behaviors
use Rattle.cat_model.specs.declared.command.Command.{Command}
use Rattle.cat_model.specs.declared.command.Command.TheVariants.{Noop, Register, Deregister, KvSet, KvCas, KvLock, KvUnlock, KvDelete, KvDeleteCas, KvDeleteTree, Txn, SessionCreate, SessionDestroy, QuerySet, QueryDelete, Reap, Upgrade}
use Rattle.cat_model.proofs.TableLemmas.{Ascends-put, Ascends-filter, Ascends-filter_map}
use Rattle.cat_model.proofs.Writes.{left_by_write}

abbrev pub KvAscends : List KvRow → Type 0
KvAscends = Ascends text_cmp kv_key

-- rows or none, in order
abbrev IfRows : Option (List KvRow) → Type 0
IfRows None = Unit {0}
IfRows (Some rows) = KvAscends rows

abbrev IfOutcome : Outcome → Type 0
IfOutcome None = Unit {0}
IfOutcome (Some done) = KvAscends done.0

if_rows : (b : Bool) (rows : List KvRow) → KvAscends rows → IfRows (cond b (Some rows) None)
if_rows true rows h = h
if_rows false rows h = tt

pub put_ascends : (new : KvRow) (rows : List KvRow) → KvAscends rows → KvAscends (put_kv new rows)
put_ascends = Ascends-put text_cmp kv_key nat_list_cmp_total

write_ascends : (version i : ℕ) (key value : List ℕ) (flags : ℕ) (session : Option ℕ) (lock_index : ℕ) (rows : List KvRow) → KvAscends rows → KvAscends (write_kv version i key value flags session lock_index rows)
write_ascends version i key value flags session lock_index rows h =
    left_by_write KvAscends version i key value flags session lock_index rows h (put_ascends (written i key value flags session lock_index (kv_at key rows)) rows h)

set_ascends : (version i : ℕ) (key value : List ℕ) (flags : ℕ) (rows : List KvRow) → KvAscends rows → KvAscends (kv_set version i key value flags rows)
unfolding kv_set
set_ascends version i key value flags rows h = write_ascends version i key value flags _ _ rows h

cas_ascends : (version i : ℕ) (key value : List ℕ) (flags n : ℕ) (rows : List KvRow) → KvAscends rows → IfRows (kv_cas version i key value flags n rows)
unfolding kv_cas
cas_ascends version i key value flags n rows h = if_rows _ _ (set_ascends version i key value flags rows h)

lock_ascends : (version i : ℕ) (key value : List ℕ) (flags id : ℕ) (rows : List KvRow) → KvAscends rows → IfRows (kv_lock version i key value flags id rows)
unfolding kv_lock
lock_ascends version i key value flags id rows h = go (same_option (holder (kv_at key rows)) None)
  where
    go : (b : Bool) → IfRows (cond b (Some (write_kv version i key value flags (Some id) (locks (kv_at key rows) + 1) rows)) (cond (same_option (holder (kv_at key rows)) (Some id)) (Some (write_kv version i key value flags (Some id) (locks (kv_at key rows)) rows)) None))
    go true = write_ascends version i key value flags _ _ rows h
    go false = if_rows _ _ (write_ascends version i key value flags _ _ rows h)

unlock_ascends : (version i : ℕ) (key value : List ℕ) (flags id : ℕ) (rows : List KvRow) → KvAscends rows → IfRows (kv_unlock version i key value flags id rows)
unfolding kv_unlock
unlock_ascends version i key value flags id rows h = if_rows _ _ (write_ascends version i key value flags _ _ rows h)

pub delete_ascends : (key : List ℕ) (rows : List KvRow) → KvAscends rows → KvAscends (kv_delete key rows)
unfolding kv_delete
delete_ascends key rows h = Ascends-filter text_cmp kv_key nat_list_cmp_total _ rows h

delete_tree_ascends : (prefix : List ℕ) (rows : List KvRow) → KvAscends rows → KvAscends (kv_delete_tree prefix rows)
unfolding kv_delete_tree
delete_tree_ascends prefix rows h = Ascends-filter text_cmp kv_key nat_list_cmp_total _ rows h

delete_cas_ascends : (key : List ℕ) (n : ℕ) (rows : List KvRow) → KvAscends rows → IfRows (kv_delete_cas key n rows)
unfolding kv_delete_cas
delete_cas_ascends key n rows h = go (not (is_some (kv_at key rows)))
  where
    go : (b : Bool) → IfRows (cond b (Some rows) (cond (index_fits n (kv_at key rows)) (Some (kv_delete key rows)) None))
    go true = h
    go false = if_rows _ _ (delete_ascends key rows h)

giving_ascends : (key : List ℕ) (o : Option (List KvRow)) → IfRows o → IfOutcome (giving key o)
giving_ascends key None h = tt
giving_ascends key (Some rows) h = h

giving_nothing_ascends : (o : Option (List KvRow)) → IfRows o → IfOutcome (giving_nothing o)
giving_nothing_ascends None h = tt
giving_nothing_ascends (Some rows) h = h

if_outcome : (b : Bool) (x y : Outcome) → IfOutcome x → IfOutcome y → IfOutcome (cond b x y)
if_outcome true x y h g = h
if_outcome false x y h g = g

-- each operation of a transaction keeps the order
operate_ascends : (version i : ℕ) (sessions : List SessionRow) (verb : Verb) (op : TxnOp) (rows : List KvRow) → KvAscends rows → IfOutcome (operate version i sessions verb op rows)
operate_ascends version i sessions Set op rows h = set_ascends version i op.key op.value op.flags rows h
operate_ascends version i sessions Cas op rows h = giving_ascends op.key _ (cas_ascends version i op.key op.value op.flags op.index rows h)
operate_ascends version i sessions Lock op rows h = go op.session
  where
    go : (s : Option ℕ) → IfOutcome (by_session sessions s (λ id. giving op.key (kv_lock version i op.key op.value op.flags id rows)))
    go None = tt
    go (Some id) = if_outcome (is_some (session_at id sessions)) (giving op.key (kv_lock version i op.key op.value op.flags id rows)) None (giving_ascends op.key (kv_lock version i op.key op.value op.flags id rows) (lock_ascends version i op.key op.value op.flags id rows h)) tt
operate_ascends version i sessions Unlock op rows h = giving_ascends op.key _ (elim op.session as (λ s. IfRows (elim s as (λ _. Option (List KvRow)) [ None ↦ None | Some id ↦ kv_unlock version i op.key op.value op.flags id rows ])) [ None ↦ tt | Some id ↦ unlock_ascends version i op.key op.value op.flags id rows h ])
operate_ascends version i sessions Get op rows h = go (kv_at op.key rows)
  where
    go : (o : Option KvRow) → IfOutcome (got rows o)
    go None = tt
    go (Some r) = h
operate_ascends version i sessions GetOrEmpty op rows h = go (kv_at op.key rows)
  where
    go : (o : Option KvRow) → IfOutcome (got_or_empty op.key rows o)
    go None = h
    go (Some r) = h
operate_ascends version i sessions GetTree op rows h = h
operate_ascends version i sessions CheckIndex op rows h = if_outcome _ (giving op.key (Some rows)) None h tt
operate_ascends version i sessions CheckSession op rows h = if_outcome (held_by op.session (kv_at op.key rows)) (giving op.key (Some rows)) None h tt
operate_ascends version i sessions CheckNotExists op rows h = if_outcome (is_some (kv_at op.key rows)) None (Some (rows, [])) tt h
operate_ascends version i sessions Delete op rows h = delete_ascends op.key rows h
operate_ascends version i sessions DeleteTree op rows h = delete_tree_ascends op.key rows h
operate_ascends version i sessions DeleteCas op rows h = giving_nothing_ascends _ (delete_cas_ascends op.key op.index rows h)

abbrev IfWent : TxnRun → Type 0
IfWent (Went rows results) = KvAscends rows
IfWent (Failed_at at verb) = Unit {0}

ops_ascend : (version i : ℕ) (sessions : List SessionRow) (at : ℕ) (ops : List TxnOp) (rows : List KvRow) (results : List TxnResult) → KvAscends rows → IfWent (run_ops version i sessions at ops rows results)
unfolding run_ops
ops_ascend version i sessions at [] rows results h = h
ops_ascend version i sessions at (op ∷ ops) rows results h = go (operate version i sessions op.verb op rows) (operate_ascends version i sessions op.verb op rows h) (λ rows' results' h'. ops_ascend version i sessions (at + 1) ops rows' results' h')
  where
    go : (o : Outcome) → IfOutcome o → ((rows' : List KvRow) (results' : List TxnResult) → KvAscends rows' → IfWent (run_ops version i sessions (at + 1) ops rows' results'))
        → IfWent (goes_on o (Failed_at at op.verb) (λ done. run_ops version i sessions (at + 1) ops done.0 (results ++ done.1)))
    go None k rest = tt
    go (Some done) k rest = rest done.0 (results ++ done.1) k

-- what a step leaves is in order
abbrev pub StepAscends : Step → Type 0
StepAscends s = KvAscends s.0.kv

unless_ascends : (o : Option Refuse) (k : Catalog) (s : Step) → KvAscends k.kv → StepAscends s → StepAscends (unless o k s)
unfolding unless
unless_ascends None k s h g = g
unless_ascends (Some r) k s h g = h

yes_or_no_ascends : (k : Catalog) (o : Option (List KvRow)) → KvAscends k.kv → IfRows o → StepAscends (yes_or_no k o)
yes_or_no_ascends k None h g = h
yes_or_no_ascends k (Some rows) h g = g

txn_ascends : (k : Catalog) (t : TxnRun) → KvAscends k.kv → IfWent t → StepAscends (txn_end k t)
txn_ascends k (Went rows results) h g = g
txn_ascends k (Failed_at at verb) h g = h

deregister_ascends : (node service check : List ℕ) (k : Catalog) → KvAscends k.kv → KvAscends (deregister node service check k).kv
unfolding deregister
deregister_ascends node service check k h = go (not (is_empty service)) (not (is_empty check))
  where
    go : (b d : Bool) → KvAscends (cond b (deregister_service node service k) (cond d (deregister_check node check k) (deregister_node node k))).kv
    go true d = h
    go false true = h
    go false false = h

-- each command keeps the order
pub act_ascends : (i : ℕ) (c : Command) (k : Catalog) → KvAscends k.kv → StepAscends (act i c k)
unfolding act register create_session set_query
act_ascends i Noop k h = h
act_ascends i (Register node address service checks) k h = unless_ascends _ k _ h h
act_ascends i (Deregister node service check) k h = deregister_ascends node service check k h
act_ascends i (KvSet key flags value) k h = set_ascends k.version i key value flags k.kv h
act_ascends i (KvCas key flags value index) k h = yes_or_no_ascends k _ h (cas_ascends k.version i key value flags index k.kv h)
act_ascends i (KvLock key flags value session) k h = unless_ascends _ k _ h (yes_or_no_ascends k _ h (lock_ascends k.version i key value flags session k.kv h))
act_ascends i (KvUnlock key flags value session) k h = yes_or_no_ascends k _ h (unlock_ascends k.version i key value flags session k.kv h)
act_ascends i (KvDelete key) k h = delete_ascends key k.kv h
act_ascends i (KvDeleteCas key index) k h = yes_or_no_ascends k _ h (delete_cas_ascends key index k.kv h)
act_ascends i (KvDeleteTree prefix) k h = delete_tree_ascends prefix k.kv h
act_ascends i (Txn ops) k h = txn_ascends k _ h (ops_ascend k.version i k.sessions 0 ops k.kv [] h)
act_ascends i (SessionCreate id name node checks behavior delay_ms ttl_ms) k h = unless_ascends _ k _ h h
act_ascends i (SessionDestroy id) k h = h
act_ascends i (QuerySet id create name session service only_passing tags dns_ttl_ms) k h = unless_ascends _ k _ h h
act_ascends i (QueryDelete id) k h = h
act_ascends i Reap k h = h
act_ascends i Upgrade k h = h

-- and so do the sessions that end
end_ascends : (i : ℕ) (gone : List SessionRow) (k : Catalog) → KvAscends k.kv → KvAscends (end_sessions i gone k).kv
unfolding end_sessions
end_ascends i gone k h = Ascends-filter_map text_cmp kv_key nat_list_cmp_total (λ r. freed_row i r (ended_holder gone r.session)) (λ r s. same_key r s (ended_holder gone r.session)) k.kv h
  where
    same_key : (r s : KvRow) (o : Option SessionRow) → freed_row i r o ≡ Some s → s.key ≡ r.key
    same_key r s None e = cc
    same_key r s (Some t) e = elim t.behavior as (λ b. freed_by b ≡ Some s → s.key ≡ r.key) [ behaviors.Release ↦ λ e'. cc | behaviors.Delete ↦ λ e'. cc ] e
      where
        freed_by : Behavior → Option KvRow
        freed_by behaviors.Release = Some (record r { session = None; modify = i })
        freed_by behaviors.Delete = None

-- the keys of the catalog after any log are in order
pub kv_ascends : (past : List Command) → KvAscends (at_past past).kv
unfolding at_past apply
kv_ascends [] = tt
kv_ascends (c ∷ past) = end_ascends (length past + 1) _ _ (act_ascends (length past + 1) c (at_past past) (kv_ascends past))
