-- The lock law: what ends of sessions do to holders, and that holders always stand.
use Rattle.std.proofs.Common.{◌≡◌, ℕ, ◌+◌, Bool, true, false, not, cond, ◌||◌, List, [], ◌∷◌, ◌++◌, refl, sym, ◌∙◌, ap, subst, Option, Some, None, filter, find, is_some, nat_cmp, length, reverse, ◌⊎◌, inl, inr}
use Rattle.std.specs.List.{filter_map, AllByRecursion, cons_option}
use Rattle.std.specs.Ordering.{is_eq}
use Rattle.std.proofs.lemmas.Cmp.{nat_list_cmp_total, nat_cmp_total, tied_itself}
use Rattle.std.proofs.lemmas.Map.Lookups.{exact_bytes, exact_unsigned}
use Rattle.std.proofs.lemmas.Bool.{true≢false, false≢true}
use Rattle.std.proofs.lemmas.List.{reverse-append, length-reverse}
use Rattle.cat_model.specs.Keys.{text_cmp, is_empty}
use Rattle.cat_model.specs.Tables.{put, without}
use Rattle.cat_model.specs.Catalog.{Catalog, kv_key, kv_at, session_at, session_key}
use Rattle.cat_model.specs.Kv.{put_kv, write_kv, kv_set, kv_lock, kv_delete, kv_delete_tree, run_ops, TxnRun, Went, Failed_at, written, holder}
use Rattle.cat_model.specs.Machine.{Step, act, apply, end_sessions, at_past, catalog_at, register, deregister, create_session, set_query, freed_row, ended_holder, ends, names, broken, yes_or_no, txn_end, unless, refusal_of, deregister_service, deregister_check, deregister_node}
use Rattle.cat_model.specs.Locks.{LockMove, IsLockStep, known, HoldersStand, is_txn, LockLaw}
use Rattle.cat_model.specs.declared.row.KvRow.{KvRow}
use Rattle.cat_model.specs.declared.row.SessionRow.{SessionRow}
use Rattle.cat_model.specs.declared.command.TxnOp.{TxnOp}
use Rattle.cat_model.specs.declared.applied.Refuse.{Refuse}
use Rattle.cat_model.specs.declared.applied.Refuse.TheVariants as refusals
use Rattle.cat_model.specs.declared.row.Behavior.{Behavior}
use Rattle.cat_model.specs.declared.row.Behavior.TheVariants as behaviors
use Rattle.cat_model.specs.declared.command.Command.{Command}
use Rattle.cat_model.specs.declared.command.Command.TheVariants.{Noop, Register, Deregister, KvSet, KvCas, KvLock, KvUnlock, KvDelete, KvDeleteCas, KvDeleteTree, Txn, SessionCreate, SessionDestroy, QuerySet, QueryDelete, Reap, Upgrade}
use Rattle.cat_model.proofs.TableLemmas.{All-filter, All-weaker, All-append, row_at-filter}
use Rattle.cat_model.proofs.Writes.{left_by_write}
use Rattle.cat_model.proofs.KvOrder.{KvAscends, kv_ascends, act_ascends}
use Rattle.cat_model.proofs.Lookups.{row_at-put, row_at-filter_map, row_then}
use Rattle.cat_model.proofs.KvKept.{IsKept, IfKept, WentKept, set_kept, cas_kept, lock_kept, unlock_kept, delete_kept, delete_tree_kept, delete_cas_kept, ops_kept}
use Rattle.cat_model.proofs.LockSteps.{IfStep, no_step, set_step, cas_step, lock_step, unlock_step, delete_step, delete_tree_step, delete_cas_step}

-- 1. Sessions that end release rows or remove them.
pub freed_key : (i : ℕ) (gone : List SessionRow) (r s : KvRow) → freed_row i r (ended_holder gone r.session) ≡ Some s → s.key ≡ r.key
freed_key i gone r s = go (ended_holder gone r.session)
  where
    go : (o : Option SessionRow) → freed_row i r o ≡ Some s → s.key ≡ r.key
    go None e = cc
    go (Some t) e = elim t.behavior as (λ b. freed_by b ≡ Some s → s.key ≡ r.key) [ behaviors.Release ↦ λ e'. cc | behaviors.Delete ↦ λ e'. cc ] e
      where
        freed_by : Behavior → Option KvRow
        freed_by behaviors.Release = Some (record r { session = None; modify = i })
        freed_by behaviors.Delete = None

freed_move : (i : ℕ) (gone : List SessionRow) (r : KvRow) → LockMove (Some r) (freed_row i r (ended_holder gone r.session))
freed_move i gone r = go r.session refl (ended_holder gone r.session) refl
  where
    go : (h : Option ℕ) → r.session ≡ h → (o : Option SessionRow) → ended_holder gone h ≡ o → LockMove (Some r) (freed_row i r o)
    go h is None e = inl (refl, refl)
    go None is (Some t) e = let clash : None ≡ Some t = e in cc
    go (Some id) is (Some t) e = elim t.behavior as (λ b. LockMove (Some r) (freed_by b)) [ behaviors.Release ↦ inr (inr ((id, is), refl, refl)) | behaviors.Delete ↦ tt ]
      where
        freed_by : Behavior → Option KvRow
        freed_by behaviors.Release = Some (record r { session = None; modify = i })
        freed_by behaviors.Delete = None

end_step : (i : ℕ) (gone : List SessionRow) (k : Catalog) → KvAscends k.kv → IsLockStep k.kv (end_sessions i gone k).kv
unfolding end_sessions
end_step i gone k asc = record { moves = λ q. subst (λ o. LockMove (kv_at q k.kv) o) (sym (row_at-filter_map text_cmp kv_key nat_list_cmp_total exact_bytes f (freed_key i gone) q k.kv asc)) (go (kv_at q k.kv)) }
  where
    f : KvRow → Option KvRow
    f r = freed_row i r (ended_holder gone r.session)

    go : (o : Option KvRow) → LockMove o (row_then text_cmp kv_key nat_list_cmp_total exact_bytes f o)
    go None = tt
    go (Some r) = freed_move i gone r

-- where no session ends, no row changes
none_pass : {A : Type 0} (test : A → Bool) (xs : List A) → AllByRecursion (λ x. test x ≡ false) xs → filter test xs ≡ []
none_pass test [] h = refl
none_pass test (x ∷ xs) h = ap (λ b. cond b (x ∷ filter test xs) (filter test xs)) h.0 ∙ none_pass test xs h.1

none_freed : (i : ℕ) (rows : List KvRow) → filter_map (λ r. freed_row i r (ended_holder [] r.session)) rows ≡ rows
none_freed i [] = refl
none_freed i (r ∷ rows) = go r.session (none_freed i rows)
  where
    go : (h : Option ℕ) → filter_map (λ s. freed_row i s (ended_holder [] s.session)) rows ≡ rows → cons_option (freed_row i r (ended_holder [] h)) (filter_map (λ s. freed_row i s (ended_holder [] s.session)) rows) ≡ r ∷ rows
    go None e = ap (λ l. r ∷ l) e
    go (Some id) e = ap (λ l. r ∷ l) e

-- 2. A command changes the keys alone, and ends no session; or leaves the keys alone.
record OnKeys (k : Catalog) (s : Step) : Type 0 where
  rows : List KvRow
  same : s.0 ≡ record k { kv = rows }
  step : IsLockStep k.kv rows

record OffKeys (k : Catalog) (s : Step) : Type 0 where
  same : s.0.kv ≡ k.kv

yes_or_no_keys : (k : Catalog) (o : Option (List KvRow)) → IfStep k.kv o → OnKeys k (yes_or_no k o)
yes_or_no_keys k None h = record { rows = k.kv; same = refl; step = no_step k.kv }
yes_or_no_keys k (Some rows) h = record { rows = rows; same = refl; step = h.step }

unless_keys : (o : Option Refuse) (k : Catalog) (s : Step) → OnKeys k s → OnKeys k (unless o k s)
unfolding unless
unless_keys None k s h = h
unless_keys (Some r) k s h = record { rows = k.kv; same = refl; step = no_step k.kv }

unless_off : (o : Option Refuse) (k : Catalog) (s : Step) → OffKeys k s → OffKeys k (unless o k s)
unfolding unless
unless_off None k s h = h
unless_off (Some r) k s h = record { same = refl }

-- the commands on keys
abbrev on_keys : Command → Bool
on_keys (KvSet key flags value) = true
on_keys (KvCas key flags value index) = true
on_keys (KvLock key flags value session) = true
on_keys (KvUnlock key flags value session) = true
on_keys (KvDelete key) = true
on_keys (KvDeleteCas key index) = true
on_keys (KvDeleteTree prefix) = true
on_keys other = false

abbrev Act : ℕ → Command → Catalog → Type 0
Act i c k = (OnKeys k (act i c k) × ((s : SessionRow) → names c s ≡ false)) ⊎ OffKeys k (act i c k)

act_keys : (i : ℕ) (c : Command) (k : Catalog) → is_txn c ≡ false → Act i c k
unfolding act register deregister create_session set_query
act_keys i Noop k t = inr (record { same = refl })
act_keys i (Register node address service checks) k t = inr (unless_off _ k _ (record { same = refl }))
act_keys i (Deregister node service check) k t = inr (record { same = go (not (is_empty service)) (not (is_empty check)) })
  where
    go : (b d : Bool) → (cond b (deregister_service node service k) (cond d (deregister_check node check k) (deregister_node node k))).kv ≡ k.kv
    go true d = refl
    go false true = refl
    go false false = refl
act_keys i (KvSet key flags value) k t = inl (record { rows = kv_set k.version i key value flags k.kv; same = refl; step = set_step k.version i key value flags k.kv }, λ s. refl)
act_keys i (KvCas key flags value index) k t = inl (yes_or_no_keys k _ (cas_step k.version i key value flags index k.kv), λ s. refl)
act_keys i (KvLock key flags value session) k t = inl (unless_keys _ k _ (yes_or_no_keys k _ (lock_step k.version i key value flags session k.kv)), λ s. refl)
act_keys i (KvUnlock key flags value session) k t = inl (yes_or_no_keys k _ (unlock_step k.version i key value flags session k.kv), λ s. refl)
act_keys i (KvDelete key) k t = inl (record { rows = kv_delete key k.kv; same = refl; step = delete_step key k.kv }, λ s. refl)
act_keys i (KvDeleteCas key index) k t = inl (yes_or_no_keys k _ (delete_cas_step key index k.kv), λ s. refl)
act_keys i (KvDeleteTree prefix) k t = inl (record { rows = kv_delete_tree prefix k.kv; same = refl; step = delete_tree_step prefix k.kv }, λ s. refl)
act_keys i (Txn ops) k t = absurd (true≢false t)
act_keys i (SessionCreate id name node checks behavior delay_ms ttl_ms) k t = inr (unless_off _ k _ (record { same = refl }))
act_keys i (SessionDestroy id) k t = inr (record { same = refl })
act_keys i (QuerySet id create name session service only_passing tags dns_ttl_ms) k t = inr (unless_off _ k _ (record { same = refl }))
act_keys i (QueryDelete id) k t = inr (record { same = refl })
act_keys i Reap k t = inr (record { same = refl })
act_keys i Upgrade k t = inr (record { same = refl })

or_false : (b : Bool) → (b || false) ≡ b
or_false true = refl
or_false false = refl

-- whether a session is broken does not depend on the keys
broken_keys : (k : Catalog) (rows : List KvRow) (s : SessionRow) → broken (record k { kv = rows }) s ≡ broken k s
unfolding broken
broken_keys k rows s = refl

unended : (i : ℕ) (k : Catalog) → (end_sessions i [] k).kv ≡ k.kv
unfolding end_sessions
unended i k = none_freed i k.kv

-- a command that changes the keys alone, where no session is broken, leaves what it made of them
pub keys_after : (i : ℕ) (c : Command) (k : Catalog) (rows : List KvRow) → HoldersStand k → (act i c k).0 ≡ record k { kv = rows } → ((s : SessionRow) → names c s ≡ false) → (apply i c k).0.kv ≡ rows
unfolding apply
keys_after i c k rows stand is unnamed =
    ap (λ l. (end_sessions i l done).kv) none ∙ unended i done ∙ ap (λ l. l.kv) is
  where
    done : Catalog
    done = (act i c k).0

    same_test : (s : SessionRow) → ends c done s ≡ broken k s
    same_test s = ap (λ l. broken l s || names c s) is ∙ ap (λ b. broken (record k { kv = rows }) s || b) (unnamed s) ∙ or_false (broken (record k { kv = rows }) s) ∙ broken_keys k rows s

    none : filter (ends c done) done.sessions ≡ []
    none = none_pass (ends c done) done.sessions (subst (λ l. AllByRecursion (λ s. ends c done s ≡ false) l.sessions) (sym is) (All-weaker (λ s. broken k s ≡ false) (λ s. ends c done s ≡ false) (λ s h. same_test s ∙ h) k.sessions stand.whole))

-- each command but a transaction is a lock step
command_step : (i : ℕ) (c : Command) (k : Catalog) → KvAscends k.kv → HoldersStand k → is_txn c ≡ false → IsLockStep k.kv (apply i c k).0.kv
unfolding apply
command_step i c k asc stand t = go (act_keys i c k t)
  where
    done : Catalog
    done = (act i c k).0

    go : Act i c k → IsLockStep k.kv (end_sessions i (filter (ends c done) done.sessions) done).kv
    go (inr off) = subst (λ rows. IsLockStep rows (end_sessions i (filter (ends c done) done.sessions) done).kv) off.same (end_step i (filter (ends c done) done.sessions) done (act_ascends i c k asc))
    go (inl on) = subst (λ rows. IsLockStep k.kv rows) (sym (keys_after i c k on.0.rows stand on.0.same on.1)) on.0.step

-- 3. Holders stand.
abbrev Held : List SessionRow → List KvRow → Type 0
Held sessions rows = AllByRecursion (λ r. known sessions r.session ≡ true) rows

found_in : {R : Type 0} (P : R → Type 0) (test : R → Bool) (rows : List R) → AllByRecursion P rows → (r : R) → find test rows ≡ Some r → P r
found_in {R = R} P test [] h r e = let clash : None ≡ Some r = e in cc
found_in {R = R} P test (x ∷ rows) h r e = go (test x) e (λ e'. found_in P test rows h.1 r e')
  where
    go : (b : Bool) → cond b (Some x) (find test rows) ≡ Some r → (find test rows ≡ Some r → P r) → P r
    go true e' rest = let same : x ≡ r = cc in subst P same h.0
    go false e' rest = rest e'

held_old : (sessions : List SessionRow) (key : List ℕ) (rows : List KvRow) → Held sessions rows → known sessions (holder (kv_at key rows)) ≡ true
held_old sessions key rows h = go (kv_at key rows) refl
  where
    go : (o : Option KvRow) → kv_at key rows ≡ o → known sessions (holder o) ≡ true
    go None e = refl
    go (Some r) e = found_in (λ x. known sessions x.session ≡ true) (λ x. is_eq (text_cmp key x.key)) rows h r e

held_put : (sessions : List SessionRow) (i : ℕ) (key value : List ℕ) (flags : ℕ) (session : Option ℕ) (lock : ℕ) (rows : List KvRow) → known sessions session ≡ true → Held sessions rows → Held sessions (put_kv (written i key value flags session lock (kv_at key rows)) rows)
unfolding put
held_put sessions i key value flags session lock rows may h =
    All-append (λ r. known sessions r.session ≡ true) _ _ (All-filter _ _ rows h) (go (kv_at key rows), All-filter _ _ rows h)
  where
    go : (o : Option KvRow) → known sessions (written i key value flags session lock o).session ≡ true
    go None = may
    go (Some r) = may

held_write : (sessions : List SessionRow) (i version : ℕ) (key value : List ℕ) (flags : ℕ) (session : Option ℕ) (lock : ℕ) (rows : List KvRow) → known sessions session ≡ true → Held sessions rows → Held sessions (write_kv version i key value flags session lock rows)
held_write sessions i version key value flags session lock rows may h = left_by_write (Held sessions) version i key value flags session lock rows h (held_put sessions i key value flags session lock rows may h)

held_kept : (i : ℕ) (sessions : List SessionRow) → IsKept i (Held sessions) (λ o. known sessions o ≡ true)
held_kept i sessions = record {
  write = held_write sessions i;
  removal = λ test rows h. All-filter (λ r. known sessions r.session ≡ true) (λ r. test r.key) rows h;
  old = held_old sessions;
  none = refl;
}

-- more sessions know the same holders
held_more : (old new : List SessionRow) → ((id : ℕ) → is_some (session_at id old) ≡ true → is_some (session_at id new) ≡ true) → (rows : List KvRow) → Held old rows → Held new rows
held_more old new more rows h = All-weaker (λ r. known old r.session ≡ true) (λ r. known new r.session ≡ true) (λ r. go r.session) rows h
  where
    go : (o : Option ℕ) → known old o ≡ true → known new o ≡ true
    go None e = refl
    go (Some id) e = more id e

record StepHeld (s : Step) : Type 0 where
  at : Held s.0.sessions s.0.kv

unless_held : (o : Option Refuse) (k : Catalog) (s : Step) → Held k.sessions k.kv → StepHeld s → StepHeld (unless o k s)
unfolding unless
unless_held None k s h g = g
unless_held (Some r) k s h g = record { at = h }

yes_or_no_held : (i : ℕ) (k : Catalog) (o : Option (List KvRow)) → Held k.sessions k.kv → IfKept i (Held k.sessions) (λ o. known k.sessions o ≡ true) (held_kept i k.sessions) o → StepHeld (yes_or_no k o)
yes_or_no_held i k None h g = record { at = h }
yes_or_no_held i k (Some rows) h g = record { at = g.at }

txn_held : (i : ℕ) (k : Catalog) (t : TxnRun) → Held k.sessions k.kv → WentKept i (Held k.sessions) (λ o. known k.sessions o ≡ true) (held_kept i k.sessions) t → StepHeld (txn_end k t)
txn_held i k (Went rows results) h g = record { at = g }
txn_held i k (Failed_at at verb) h g = record { at = h }

refused_held : (r : Refuse) (k : Catalog) (s : Step) → Held k.sessions k.kv → StepHeld (unless (Some r) k s)
unfolding unless
refused_held r k s h = record { at = h }

-- a session that is added leaves the others there
session_more : (s : SessionRow) (sessions : List SessionRow) (id : ℕ) → is_some (session_at id sessions) ≡ true → is_some (session_at id (put nat_cmp session_key s sessions)) ≡ true
session_more s sessions id h = ap is_some (row_at-put nat_cmp session_key nat_cmp_total exact_unsigned id s sessions) ∙ go (is_eq (nat_cmp id s.id))
  where
    go : (b : Bool) → is_some (cond b (Some s) (session_at id sessions)) ≡ true
    go true = refl
    go false = h

act_held : (i : ℕ) (c : Command) (k : Catalog) → Held k.sessions k.kv → StepHeld (act i c k)
unfolding act register deregister create_session set_query
act_held i Noop k h = record { at = h }
act_held i (Register node address service checks) k h = unless_held _ k _ h (record { at = h })
act_held i (Deregister node service check) k h = record { at = go (not (is_empty service)) (not (is_empty check)) }
  where
    go : (b d : Bool) → Held (cond b (deregister_service node service k) (cond d (deregister_check node check k) (deregister_node node k))).sessions (cond b (deregister_service node service k) (cond d (deregister_check node check k) (deregister_node node k))).kv
    go true d = h
    go false true = h
    go false false = h
act_held i (KvSet key flags value) k h = record { at = set_kept i (Held k.sessions) (λ o. known k.sessions o ≡ true) (held_kept i k.sessions) k.version key value flags k.kv h }
act_held i (KvCas key flags value index) k h = yes_or_no_held i k _ h (cas_kept i (Held k.sessions) (λ o. known k.sessions o ≡ true) (held_kept i k.sessions) k.version key value flags index k.kv h)
act_held i (KvLock key flags value session) k h = go (is_some (session_at session k.sessions)) refl
  where
    go : (b : Bool) → is_some (session_at session k.sessions) ≡ b → StepHeld (unless (refusal_of ((not b, refusals.UnknownSession) ∷ [])) k (yes_or_no k (kv_lock k.version i key value flags session k.kv)))
    go true e = unless_held _ k _ h (yes_or_no_held i k _ h (lock_kept i (Held k.sessions) (λ o. known k.sessions o ≡ true) (held_kept i k.sessions) k.version key value flags session k.kv e h))
    go false e = refused_held refusals.UnknownSession k _ h
act_held i (KvUnlock key flags value session) k h = yes_or_no_held i k _ h (unlock_kept i (Held k.sessions) (λ o. known k.sessions o ≡ true) (held_kept i k.sessions) k.version key value flags session k.kv h)
act_held i (KvDelete key) k h = record { at = delete_kept i (Held k.sessions) (λ o. known k.sessions o ≡ true) (held_kept i k.sessions) key k.kv h }
act_held i (KvDeleteCas key index) k h = yes_or_no_held i k _ h (delete_cas_kept i (Held k.sessions) (λ o. known k.sessions o ≡ true) (held_kept i k.sessions) key index k.kv h)
act_held i (KvDeleteTree prefix) k h = record { at = delete_tree_kept i (Held k.sessions) (λ o. known k.sessions o ≡ true) (held_kept i k.sessions) prefix k.kv h }
act_held i (Txn ops) k h = txn_held i k _ h (ops_kept i (Held k.sessions) (λ o. known k.sessions o ≡ true) (held_kept i k.sessions) k.version k.sessions (λ id e. e) 0 ops k.kv [] h)
act_held i (SessionCreate id name node checks behavior delay_ms ttl_ms) k h =
    unless_held _ k _ h (record { at = held_more k.sessions (put nat_cmp session_key new k.sessions) (session_more new k.sessions) k.kv h })
  where
    new : SessionRow
    new = record { id = id; name = name; node = node; checks = checks; behavior = behavior; delay_ms = delay_ms; ttl_ms = ttl_ms; create = i; modify = i }
act_held i (SessionDestroy id) k h = record { at = h }
act_held i (QuerySet id create name session service only_passing tags dns_ttl_ms) k h = unless_held _ k _ h (record { at = h })
act_held i (QueryDelete id) k h = record { at = h }
act_held i Reap k h = record { at = h }
act_held i Upgrade k h = record { at = h }

All-filter_map : {R : Type 0} (P Q : R → Type 0) (f : R → Option R) → ((r s : R) → P r → f r ≡ Some s → Q s) → (rows : List R) → AllByRecursion P rows → AllByRecursion Q (filter_map f rows)
All-filter_map {R = R} P Q f gives [] h = tt
All-filter_map {R = R} P Q f gives (r ∷ rows) h = go (f r) refl (All-filter_map P Q f gives rows h.1)
  where
    go : (o : Option R) → f r ≡ o → AllByRecursion Q (filter_map f rows) → AllByRecursion Q (cons_option o (filter_map f rows))
    go None e rest = rest
    go (Some s) e rest = (gives r s h.0 e, rest)

-- a holder whose session did not end is still there
end_held : (i : ℕ) (gone : List SessionRow) (k : Catalog) → Held k.sessions k.kv → Held (end_sessions i gone k).sessions (end_sessions i gone k).kv
unfolding end_sessions
end_held i gone k h = All-filter_map (λ r. known k.sessions r.session ≡ true) (λ r. known left r.session ≡ true) (λ r. freed_row i r (ended_holder gone r.session)) stays k.kv h
  where
    left : List SessionRow
    left = without (λ s. is_some (session_at s.id gone)) k.sessions

    stays : (r s : KvRow) → known k.sessions r.session ≡ true → freed_row i r (ended_holder gone r.session) ≡ Some s → known left s.session ≡ true
    stays r s there made = go r.session refl there (ended_holder gone r.session) refl made
      where
        go : (o : Option ℕ) → r.session ≡ o → known k.sessions o ≡ true → (e : Option SessionRow) → ended_holder gone r.session ≡ e → freed_row i r e ≡ Some s → known left s.session ≡ true
        go o is t (Some x) ended made' = ended_case x.behavior made'
          where
            freed_by : Behavior → Option KvRow
            freed_by behaviors.Release = Some (record r { session = None; modify = i })
            freed_by behaviors.Delete = None

            ended_case : (b : Behavior) → freed_by b ≡ Some s → known left s.session ≡ true
            ended_case behaviors.Release e = let none : s.session ≡ None = cc in ap (known left) none
            ended_case behaviors.Delete e = cc
        go None is t None ended made' = let none : s.session ≡ None = cc in ap (known left) none
        go (Some id) is t None ended made' =
            let holds : s.session ≡ Some id = cc in
            let not_gone : session_at id gone ≡ None = ap (ended_holder gone) (sym is) ∙ ended in
            let found : session_at id left ≡ session_at id k.sessions = row_at-filter nat_cmp session_key nat_cmp_total exact_unsigned (λ q. not (is_some (session_at q gone))) id (ap (λ o. not (is_some o)) not_gone) k.sessions in
            ap (known left) holds ∙ ap is_some found ∙ t

-- whoever ends is among those that end
ended_found : (test : SessionRow → Bool) (xs : List SessionRow) → AllByRecursion (λ s. test s ≡ true → is_some (session_at s.id (filter test xs)) ≡ true) xs
ended_found test [] = tt
ended_found test (x ∷ xs) = (λ e. go (test x) e, All-weaker _ _ (λ s f e. behind s (test x) (f e)) xs (ended_found test xs))
  where
    go : (b : Bool) → b ≡ true → is_some (session_at x.id (cond b (x ∷ filter test xs) (filter test xs))) ≡ true
    go true e = ap (λ o. is_some (cond (is_eq o) (Some x) (session_at x.id (filter test xs)))) (tied_itself nat_cmp_total x.id)
    go false e = absurd (false≢true e)

    behind : (s : SessionRow) (b : Bool) → is_some (session_at s.id (filter test xs)) ≡ true → is_some (session_at s.id (cond b (x ∷ filter test xs) (filter test xs))) ≡ true
    behind s false h = h
    behind s true h = here (is_eq (nat_cmp s.id x.id))
      where
        here : (b : Bool) → is_some (cond b (Some x) (session_at s.id (filter test xs))) ≡ true
        here true = refl
        here false = h

left_whole : (test : SessionRow → Bool) (gone xs : List SessionRow) → AllByRecursion (λ s. test s ≡ true → is_some (session_at s.id gone) ≡ true) xs → AllByRecursion (λ s. test s ≡ false) (without (λ s. is_some (session_at s.id gone)) xs)
left_whole test gone [] h = tt
left_whole test gone (x ∷ xs) h = go (is_some (session_at x.id gone)) refl (left_whole test gone xs h.1)
  where
    rest : List SessionRow
    rest = without (λ s. is_some (session_at s.id gone)) xs

    fails : (t : Bool) → test x ≡ t → is_some (session_at x.id gone) ≡ false → test x ≡ false
    fails true t e = absurd (true≢false (sym (h.0 t) ∙ e))
    fails false t e = t

    go : (b : Bool) → is_some (session_at x.id gone) ≡ b → AllByRecursion (λ s. test s ≡ false) rest → AllByRecursion (λ s. test s ≡ false) (cond (not b) (x ∷ rest) rest)
    go true e r = r
    go false e r = (fails (test x) refl e, r)

-- after each command the holders stand
stands_after : (i : ℕ) (c : Command) (k : Catalog) → HoldersStand k → HoldersStand (apply i c k).0
unfolding apply end_sessions broken
stands_after i c k stand = record {
  holders = end_held i gone done (act_held i c k stand.holders).at;
  whole = All-weaker (λ s. ends c done s ≡ false) (λ s. broken done s ≡ false) (λ s e. first_of_or _ _ e) _ (left_whole (ends c done) gone done.sessions (ended_found (ends c done) done.sessions));
}
  where
    done : Catalog
    done = (act i c k).0

    gone : List SessionRow
    gone = filter (ends c done) done.sessions

    first_of_or : (x y : Bool) → (x || y) ≡ false → x ≡ false
    first_of_or false y h = refl
    first_of_or true y h = h

pub stand_at : (past : List Command) → HoldersStand (at_past past)
unfolding at_past
stand_at [] = record { holders = tt; whole = tt }
stand_at (c ∷ past) = stands_after (length past + 1) c (at_past past) (stand_at past)

pub next_is : (log : List Command) (c : Command) → catalog_at (log ++ c ∷ []) ≡ (apply (length (reverse log) + 1) c (catalog_at log)).0
unfolding at_past
next_is log c = ap at_past (reverse-append log (c ∷ []))

txn_keys : (k : Catalog) (t : TxnRun) → (txn_end k t).0 ≡ record k { kv = (txn_end k t).0.kv }
txn_keys k (Went rows results) = refl
txn_keys k (Failed_at at verb) = refl

-- a transaction leaves the keys that its operations made
txn_step : (i : ℕ) (ops : List TxnOp) (k : Catalog) → HoldersStand k → (apply i (Txn ops) k).0.kv ≡ (act i (Txn ops) k).0.kv
unfolding act
txn_step i ops k stand = keys_after i (Txn ops) k _ stand (txn_keys k (run_ops k.version i k.sessions 0 ops k.kv [])) (λ s. refl)

-- the lock law
pub lock_law : (log : List Command) → LockLaw log
lock_law log = record {
  stand = stand_at (reverse log);
  commands = λ c t. subst (λ k. IsLockStep (catalog_at log).kv k.kv) (sym (next_is log c)) (command_step (length (reverse log) + 1) c (catalog_at log) (kv_ascends (reverse log)) (stand_at (reverse log)) t);
  transactions = λ ops. ap (λ k. k.kv) (next_is log (Txn ops)) ∙ txn_step (length (reverse log) + 1) ops (catalog_at log) (stand_at (reverse log)) ∙ ap (λ n. (act (n + 1) (Txn ops) (catalog_at log)).0.kv) (length-reverse log);
}
