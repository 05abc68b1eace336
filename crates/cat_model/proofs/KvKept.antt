-- What the commands on keys keep: any fact on the rows that a write and a removal keep.
use Rattle.std.proofs.Common.{◌≡◌, ℕ, ◌+◌, Bool, true, false, not, cond, List, [], ◌∷◌, ◌++◌, refl, Option, Some, None, filter, is_some}
use Rattle.std.specs.Ordering.{is_eq}
use Rattle.cat_model.specs.Keys.{same_option, text_cmp, has_prefix}
use Rattle.cat_model.specs.Catalog.{kv_at, session_at}
use Rattle.cat_model.specs.Kv.{write_kv, kv_set, kv_cas, kv_lock, kv_unlock, kv_delete, kv_delete_tree, kv_delete_cas, run_ops, TxnRun, Went, Failed_at, Outcome, operate, index_fits, holder, locks, held_by, giving, giving_nothing, got, got_or_empty, by_session, goes_on}
use Rattle.cat_model.specs.declared.row.KvRow.{KvRow}
use Rattle.cat_model.specs.declared.row.SessionRow.{SessionRow}
use Rattle.cat_model.specs.declared.command.TxnOp.{TxnOp}
use Rattle.cat_model.specs.declared.applied.TxnResult.{TxnResult}
use Rattle.cat_model.specs.declared.command.Verb.{Verb}
use Rattle.cat_model.specs.declared.command.Verb.TheVariants.{Set, Cas, Lock, Unlock, Get, GetOrEmpty, GetTree, CheckIndex, CheckSession, CheckNotExists, Delete, DeleteTree, DeleteCas}

-- J is kept by a write with a holder that may be, by a removal; the holder of a row may be, and none
pub record IsKept (i : ℕ) (J : List KvRow → Type 0) (May : Option ℕ → Type 0) : Type 0 where
  pub write : (version : ℕ) (key value : List ℕ) (flags : ℕ) (session : Option ℕ) (lock : ℕ) (rows : List KvRow) → May session → J rows → J (write_kv version i key value flags session lock rows)
  pub removal : (test : List ℕ → Bool) (rows : List KvRow) → J rows → J (filter (λ r. test r.key) rows)
  pub old : (key : List ℕ) (rows : List KvRow) → J rows → May (holder (kv_at key rows))
  pub none : May None

module _ (i : ℕ) (J : List KvRow → Type 0) (May : Option ℕ → Type 0) (kept : IsKept i J May) where
  pub record IfKept (after : Option (List KvRow)) : Type 0 where
    pub at : elim after as (λ _. Type 0) [ None ↦ Unit {0} | Some rows ↦ J rows ]

  abbrev pub DoneKept : Outcome → Type 0
  DoneKept None = Unit {0}
  DoneKept (Some done) = J done.0

  if_kept : (b : Bool) (rows : List KvRow) → J rows → IfKept (cond b (Some rows) None)
  if_kept true rows h = record { at = h }
  if_kept false rows h = record { at = tt }

  pub set_kept : (version : ℕ) (key value : List ℕ) (flags : ℕ) (rows : List KvRow) → J rows → J (kv_set version i key value flags rows)
  unfolding kv_set
  set_kept version key value flags rows h = kept.write version key value flags _ _ rows (kept.old key rows h) h

  pub cas_kept : (version : ℕ) (key value : List ℕ) (flags n : ℕ) (rows : List KvRow) → J rows → IfKept (kv_cas version i key value flags n rows)
  unfolding kv_cas
  cas_kept version key value flags n rows h = if_kept (index_fits n (kv_at key rows)) (kv_set version i key value flags rows) (set_kept version key value flags rows h)

  pub lock_kept : (version : ℕ) (key value : List ℕ) (flags id : ℕ) (rows : List KvRow) → May (Some id) → J rows → IfKept (kv_lock version i key value flags id rows)
  unfolding kv_lock
  lock_kept version key value flags id rows may h = go (same_option (holder (kv_at key rows)) None)
    where
      go : (b : Bool) → IfKept (cond b (Some (write_kv version i key value flags (Some id) (locks (kv_at key rows) + 1) rows)) (cond (same_option (holder (kv_at key rows)) (Some id)) (Some (write_kv version i key value flags (Some id) (locks (kv_at key rows)) rows)) None))
      go true = record { at = kept.write version key value flags (Some id) (locks (kv_at key rows) + 1) rows may h }
      go false = if_kept (same_option (holder (kv_at key rows)) (Some id)) (write_kv version i key value flags (Some id) (locks (kv_at key rows)) rows) (kept.write version key value flags (Some id) (locks (kv_at key rows)) rows may h)

  pub unlock_kept : (version : ℕ) (key value : List ℕ) (flags id : ℕ) (rows : List KvRow) → J rows → IfKept (kv_unlock version i key value flags id rows)
  unfolding kv_unlock
  unlock_kept version key value flags id rows h = if_kept (same_option (holder (kv_at key rows)) (Some id)) (write_kv version i key value flags None (locks (kv_at key rows)) rows) (kept.write version key value flags None (locks (kv_at key rows)) rows kept.none h)

  pub delete_kept : (key : List ℕ) (rows : List KvRow) → J rows → J (kv_delete key rows)
  unfolding kv_delete
  delete_kept key rows h = kept.removal (λ q. not (is_eq (text_cmp key q))) rows h

  pub delete_tree_kept : (prefix : List ℕ) (rows : List KvRow) → J rows → J (kv_delete_tree prefix rows)
  unfolding kv_delete_tree
  delete_tree_kept prefix rows h = kept.removal (λ q. not (has_prefix prefix q)) rows h

  pub delete_cas_kept : (key : List ℕ) (n : ℕ) (rows : List KvRow) → J rows → IfKept (kv_delete_cas key n rows)
  unfolding kv_delete_cas
  delete_cas_kept key n rows h = go (not (is_some (kv_at key rows)))
    where
      go : (b : Bool) → IfKept (cond b (Some rows) (cond (index_fits n (kv_at key rows)) (Some (kv_delete key rows)) None))
      go true = record { at = h }
      go false = if_kept (index_fits n (kv_at key rows)) (kv_delete key rows) (delete_kept key rows h)

  giving_kept : (key : List ℕ) (o : Option (List KvRow)) → IfKept o → DoneKept (giving key o)
  giving_kept key None h = tt
  giving_kept key (Some rows) h = h.at

  nothing_kept : (o : Option (List KvRow)) → IfKept o → DoneKept (giving_nothing o)
  nothing_kept None h = tt
  nothing_kept (Some rows) h = h.at

  either_kept : (b : Bool) (x y : Outcome) → DoneKept x → DoneKept y → DoneKept (cond b x y)
  either_kept true x y h g = h
  either_kept false x y h g = g

  operate_kept : (version : ℕ) (sessions : List SessionRow) → ((id : ℕ) → is_some (session_at id sessions) ≡ true → May (Some id)) → (verb : Verb) (op : TxnOp) (rows : List KvRow) → J rows → DoneKept (operate version i sessions verb op rows)
  operate_kept version sessions there Set op rows h = set_kept version op.key op.value op.flags rows h
  operate_kept version sessions there Cas op rows h = giving_kept op.key _ (cas_kept version op.key op.value op.flags op.index rows h)
  operate_kept version sessions there Lock op rows h = go op.session
    where
      known : (id : ℕ) (b : Bool) → is_some (session_at id sessions) ≡ b → DoneKept (cond b (giving op.key (kv_lock version i op.key op.value op.flags id rows)) None)
      known id true e = giving_kept op.key _ (lock_kept version op.key op.value op.flags id rows (there id e) h)
      known id false e = tt

      go : (s : Option ℕ) → DoneKept (by_session sessions s (λ id. giving op.key (kv_lock version i op.key op.value op.flags id rows)))
      go None = tt
      go (Some id) = known id (is_some (session_at id sessions)) refl
  operate_kept version sessions there Unlock op rows h = go op.session
    where
      go : (s : Option ℕ) → DoneKept (giving op.key (elim s as (λ _. Option (List KvRow)) [ None ↦ None | Some id ↦ kv_unlock version i op.key op.value op.flags id rows ]))
      go None = tt
      go (Some id) = giving_kept op.key (kv_unlock version i op.key op.value op.flags id rows) (unlock_kept version op.key op.value op.flags id rows h)
  operate_kept version sessions there Get op rows h = go (kv_at op.key rows)
    where
      go : (o : Option KvRow) → DoneKept (got rows o)
      go None = tt
      go (Some r) = h
  operate_kept version sessions there GetOrEmpty op rows h = go (kv_at op.key rows)
    where
      go : (o : Option KvRow) → DoneKept (got_or_empty op.key rows o)
      go None = h
      go (Some r) = h
  operate_kept version sessions there GetTree op rows h = h
  operate_kept version sessions there CheckIndex op rows h = either_kept _ (giving op.key (Some rows)) None h tt
  operate_kept version sessions there CheckSession op rows h = either_kept (held_by op.session (kv_at op.key rows)) (giving op.key (Some rows)) None h tt
  operate_kept version sessions there CheckNotExists op rows h = either_kept (is_some (kv_at op.key rows)) None (Some (rows, [])) tt h
  operate_kept version sessions there Delete op rows h = delete_kept op.key rows h
  operate_kept version sessions there DeleteTree op rows h = delete_tree_kept op.key rows h
  operate_kept version sessions there DeleteCas op rows h = nothing_kept _ (delete_cas_kept op.key op.index rows h)

  abbrev pub WentKept : TxnRun → Type 0
  WentKept (Went rows results) = J rows
  WentKept (Failed_at at verb) = Unit {0}

  pub ops_kept : (version : ℕ) (sessions : List SessionRow) → ((id : ℕ) → is_some (session_at id sessions) ≡ true → May (Some id)) → (at : ℕ) (ops : List TxnOp) (rows : List KvRow) (results : List TxnResult) → J rows → WentKept (run_ops version i sessions at ops rows results)
  unfolding run_ops
  ops_kept version sessions there at [] rows results h = h
  ops_kept version sessions there at (op ∷ ops) rows results h = go (operate version i sessions op.verb op rows) (operate_kept version sessions there op.verb op rows h) (λ rows' results' h'. ops_kept version sessions there (at + 1) ops rows' results' h')
    where
      go : (o : Outcome) → DoneKept o → ((rows' : List KvRow) (results' : List TxnResult) → J rows' → WentKept (run_ops version i sessions (at + 1) ops rows' results'))
          → WentKept (goes_on o (Failed_at at op.verb) (λ done. run_ops version i sessions (at + 1) ops done.0 (results ++ done.1)))
      go None k rest = tt
      go (Some done) k rest = rest done.0 (results ++ done.1) k
