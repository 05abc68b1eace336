-- What the commands on keys do to holders and lock indexes.
use Rattle.std.proofs.Common.{◌≡◌, ℕ, ◌+◌, Bool, true, false, not, cond, List, [], refl, sym, ◌∙◌, ap, subst, Option, Some, None, filter, is_some, inl, inr}
use Rattle.std.specs.Ordering.{is_eq}
use Rattle.std.proofs.lemmas.Cmp.{nat_list_cmp_total}
use Rattle.std.proofs.lemmas.Map.Lookups.{exact_bytes}
use Rattle.cat_model.specs.Keys.{text_cmp, has_prefix, same_option}
use Rattle.cat_model.specs.Catalog.{kv_key, kv_at, session_at}
use Rattle.cat_model.specs.Kv.{put_kv, write_kv, kv_set, kv_cas, kv_lock, kv_unlock, kv_delete, kv_delete_tree, kv_delete_cas, written, Outcome, operate, index_fits, holder, locks, held_by, giving, giving_nothing, got, got_or_empty, by_session}
use Rattle.cat_model.specs.Locks.{MovesTo, LockMove, IsLockStep, IfDone}
use Rattle.cat_model.specs.declared.row.KvRow.{KvRow}
use Rattle.cat_model.specs.declared.row.SessionRow.{SessionRow}
use Rattle.cat_model.specs.declared.command.TxnOp.{TxnOp}
use Rattle.cat_model.specs.declared.command.Verb.{Verb}
use Rattle.cat_model.specs.declared.command.Verb.TheVariants.{Set, Cas, Lock, Unlock, Get, GetOrEmpty, GetTree, CheckIndex, CheckSession, CheckNotExists, Delete, DeleteTree, DeleteCas}
use Rattle.cat_model.proofs.SameLemmas.{option_decides}
use Rattle.cat_model.proofs.TableLemmas.{row_at-filter, eq_is}
use Rattle.cat_model.proofs.Lookups.{row_at-put, row_at-filter_none}
use Rattle.cat_model.proofs.Writes.{left_by_write}

-- a key whose row stays
same_move : (o : Option KvRow) → LockMove o o
same_move None = tt
same_move (Some r) = inl (refl, refl)

pub no_step : (rows : List KvRow) → IsLockStep rows rows
no_step rows = record { moves = λ key. same_move (kv_at key rows) }

-- the row that a write makes has the holder and the lock index that it was given
written_move : (i : ℕ) (key value : List ℕ) (flags : ℕ) (session : Option ℕ) (lock : ℕ) (o : Option KvRow) → MovesTo (holder o) (locks o) session lock → LockMove o (Some (written i key value flags session lock o))
written_move i key value flags session lock None m = m
written_move i key value flags session lock (Some r) m = m

put_step : (i : ℕ) (key value : List ℕ) (flags : ℕ) (session : Option ℕ) (lock : ℕ) (rows : List KvRow) → MovesTo (holder (kv_at key rows)) (locks (kv_at key rows)) session lock → IsLockStep rows (put_kv (written i key value flags session lock (kv_at key rows)) rows)
put_step i key value flags session lock rows m = record { moves = λ q. subst (λ o. LockMove (kv_at q rows) o) (sym (row_at-put text_cmp kv_key nat_list_cmp_total exact_bytes q new rows)) (go q (is_eq (text_cmp q key)) refl) }
  where
    new : KvRow
    new = written i key value flags session lock (kv_at key rows)

    key_of : (o : Option KvRow) → (written i key value flags session lock o).key ≡ key
    key_of None = refl
    key_of (Some r) = refl

    go : (q : List ℕ) (b : Bool) → is_eq (text_cmp q key) ≡ b → LockMove (kv_at q rows) (cond (is_eq (text_cmp q (kv_key new))) (Some new) (kv_at q rows))
    go q true e = subst (λ x. LockMove (kv_at q rows) (cond x (Some new) (kv_at q rows))) (sym (ap (λ x. is_eq (text_cmp q x)) (key_of (kv_at key rows)) ∙ e))
        (subst (λ x. LockMove (kv_at x rows) (Some new)) (sym (exact_bytes q key (eq_is text_cmp kv_key nat_list_cmp_total _ e))) (written_move i key value flags session lock (kv_at key rows) m))
    go q false e = subst (λ x. LockMove (kv_at q rows) (cond x (Some new) (kv_at q rows))) (sym (ap (λ x. is_eq (text_cmp q x)) (key_of (kv_at key rows)) ∙ e)) (same_move (kv_at q rows))

write_step : (version i : ℕ) (key value : List ℕ) (flags : ℕ) (session : Option ℕ) (lock : ℕ) (rows : List KvRow) → MovesTo (holder (kv_at key rows)) (locks (kv_at key rows)) session lock → IsLockStep rows (write_kv version i key value flags session lock rows)
write_step version i key value flags session lock rows m = left_by_write (IsLockStep rows) version i key value flags session lock rows (no_step rows) (put_step i key value flags session lock rows m)

-- rows or none
pub record IfStep (before : List KvRow) (after : Option (List KvRow)) : Type 0 where
  pub step : elim after as (λ _. Type 0) [ None ↦ Unit {0} | Some rows ↦ IsLockStep before rows ]

if_step : (b : Bool) (before after : List KvRow) → (b ≡ true → IsLockStep before after) → IfStep before (cond b (Some after) None)
if_step true before after h = record { step = h refl }
if_step false before after h = record { step = tt }

pub set_step : (version i : ℕ) (key value : List ℕ) (flags : ℕ) (rows : List KvRow) → IsLockStep rows (kv_set version i key value flags rows)
unfolding kv_set
set_step version i key value flags rows = write_step version i key value flags _ _ rows (inl (refl, refl))

pub cas_step : (version i : ℕ) (key value : List ℕ) (flags n : ℕ) (rows : List KvRow) → IfStep rows (kv_cas version i key value flags n rows)
unfolding kv_cas
cas_step version i key value flags n rows = if_step (index_fits n (kv_at key rows)) rows (kv_set version i key value flags rows) (λ _. set_step version i key value flags rows)

pub lock_step : (version i : ℕ) (key value : List ℕ) (flags id : ℕ) (rows : List KvRow) → IfStep rows (kv_lock version i key value flags id rows)
unfolding kv_lock
lock_step version i key value flags id rows = go (same_option old None) refl
  where
    old : Option ℕ
    old = holder (kv_at key rows)

    lock : ℕ
    lock = locks (kv_at key rows)

    go : (b : Bool) → same_option old None ≡ b → IfStep rows (cond b (Some (write_kv version i key value flags (Some id) (lock + 1) rows)) (cond (same_option old (Some id)) (Some (write_kv version i key value flags (Some id) lock rows)) None))
    go true e = record { step = write_step version i key value flags (Some id) (lock + 1) rows (inr (inl ((option_decides _ _).0 e, (id, refl), refl))) }
    go false e = if_step (same_option old (Some id)) rows (write_kv version i key value flags (Some id) lock rows) (λ h. write_step version i key value flags (Some id) lock rows (inl (sym ((option_decides _ _).0 h), refl)))

pub unlock_step : (version i : ℕ) (key value : List ℕ) (flags id : ℕ) (rows : List KvRow) → IfStep rows (kv_unlock version i key value flags id rows)
unfolding kv_unlock
unlock_step version i key value flags id rows =
    if_step (same_option (holder (kv_at key rows)) (Some id)) rows (write_kv version i key value flags None (locks (kv_at key rows)) rows)
    (λ h. write_step version i key value flags None (locks (kv_at key rows)) rows (inr (inr ((id, (option_decides _ _).0 h), refl, refl))))

-- rows that go
gone_step : (test : List ℕ → Bool) (rows : List KvRow) → IsLockStep rows (filter (λ r. test r.key) rows)
gone_step test rows = record { moves = λ q. go q (test q) refl }
  where
    go : (q : List ℕ) (b : Bool) → test q ≡ b → LockMove (kv_at q rows) (kv_at q (filter (λ r. test r.key) rows))
    go q true e = subst (λ o. LockMove (kv_at q rows) o) (sym (row_at-filter text_cmp kv_key nat_list_cmp_total exact_bytes test q e rows)) (same_move (kv_at q rows))
    go q false e = subst (λ o. LockMove (kv_at q rows) o) (sym (row_at-filter_none text_cmp kv_key nat_list_cmp_total exact_bytes test q e rows)) tt

pub delete_step : (key : List ℕ) (rows : List KvRow) → IsLockStep rows (kv_delete key rows)
unfolding kv_delete
delete_step key rows = gone_step (λ q. not (is_eq (text_cmp key q))) rows

pub delete_tree_step : (prefix : List ℕ) (rows : List KvRow) → IsLockStep rows (kv_delete_tree prefix rows)
unfolding kv_delete_tree
delete_tree_step prefix rows = gone_step (λ q. not (has_prefix prefix q)) rows

pub delete_cas_step : (key : List ℕ) (n : ℕ) (rows : List KvRow) → IfStep rows (kv_delete_cas key n rows)
unfolding kv_delete_cas
delete_cas_step key n rows = go (not (is_some (kv_at key rows)))
  where
    go : (b : Bool) → IfStep rows (cond b (Some rows) (cond (index_fits n (kv_at key rows)) (Some (kv_delete key rows)) None))
    go true = record { step = no_step rows }
    go false = if_step (index_fits n (kv_at key rows)) rows (kv_delete key rows) (λ _. delete_step key rows)

-- Operations of a transaction.
giving_step : (key : List ℕ) (rows : List KvRow) (o : Option (List KvRow)) → IfStep rows o → IfDone rows (giving key o)
giving_step key rows None h = tt
giving_step key rows (Some after) h = h.step

nothing_step : (rows : List KvRow) (o : Option (List KvRow)) → IfStep rows o → IfDone rows (giving_nothing o)
nothing_step rows None h = tt
nothing_step rows (Some after) h = h.step

either_done : (rows : List KvRow) (b : Bool) (x y : Outcome) → IfDone rows x → IfDone rows y → IfDone rows (cond b x y)
either_done rows true x y h g = h
either_done rows false x y h g = g

pub operate_step : (version i : ℕ) (sessions : List SessionRow) (verb : Verb) (op : TxnOp) (rows : List KvRow) → IfDone rows (operate version i sessions verb op rows)
operate_step version i sessions Set op rows = set_step version i op.key op.value op.flags rows
operate_step version i sessions Cas op rows = giving_step op.key rows _ (cas_step version i op.key op.value op.flags op.index rows)
operate_step version i sessions Lock op rows = go op.session
  where
    go : (s : Option ℕ) → IfDone rows (by_session sessions s (λ id. giving op.key (kv_lock version i op.key op.value op.flags id rows)))
    go None = tt
    go (Some id) = either_done rows (is_some (session_at id sessions)) (giving op.key (kv_lock version i op.key op.value op.flags id rows)) None (giving_step op.key rows _ (lock_step version i op.key op.value op.flags id rows)) tt
operate_step version i sessions Unlock op rows = go op.session
  where
    go : (s : Option ℕ) → IfDone rows (giving op.key (elim s as (λ _. Option (List KvRow)) [ None ↦ None | Some id ↦ kv_unlock version i op.key op.value op.flags id rows ]))
    go None = tt
    go (Some id) = giving_step op.key rows (kv_unlock version i op.key op.value op.flags id rows) (unlock_step version i op.key op.value op.flags id rows)
operate_step version i sessions Get op rows = go (kv_at op.key rows)
  where
    go : (o : Option KvRow) → IfDone rows (got rows o)
    go None = tt
    go (Some r) = no_step rows
operate_step version i sessions GetOrEmpty op rows = go (kv_at op.key rows)
  where
    go : (o : Option KvRow) → IfDone rows (got_or_empty op.key rows o)
    go None = no_step rows
    go (Some r) = no_step rows
operate_step version i sessions GetTree op rows = no_step rows
operate_step version i sessions CheckIndex op rows = either_done rows _ (giving op.key (Some rows)) None (no_step rows) tt
operate_step version i sessions CheckSession op rows = either_done rows (held_by op.session (kv_at op.key rows)) (giving op.key (Some rows)) None (no_step rows) tt
operate_step version i sessions CheckNotExists op rows = either_done rows (is_some (kv_at op.key rows)) None (Some (rows, [])) tt (no_step rows)
operate_step version i sessions Delete op rows = delete_step op.key rows
operate_step version i sessions DeleteTree op rows = delete_tree_step op.key rows
operate_step version i sessions DeleteCas op rows = nothing_step rows _ (delete_cas_step op.key op.index rows)
