-- A command makes one session at most, and alters none.
use Rattle.std.proofs.Common.{◌≡◌, ℕ, ◌+◌, Bool, true, false, cond, not, List, [], ◌∷◌, ◌++◌, length, refl, sym, ◌∙◌, ap, subst, reverse, Option, Some, None}
use Rattle.std.specs.List.{AllByRecursion as Each}
use Rattle.std.specs.Ordering.{is_lt, is_gt, nat_cmp}
use Rattle.std.proofs.lemmas.List.{length-reverse, reverse-append}
use Rattle.cat_model.specs.declared.applied.Refuse.{Refuse}
use Rattle.cat_model.specs.declared.command.Command.{Command}
use Rattle.cat_model.specs.declared.command.Command.TheVariants as command
use Rattle.cat_model.specs.declared.row.KvRow.{KvRow}
use Rattle.cat_model.specs.declared.row.SessionRow.{SessionRow}
use Rattle.cat_model.specs.Catalog.{Catalog, session_key}
use Rattle.cat_model.specs.Keys.{is_empty}
use Rattle.cat_model.specs.Kv.{TxnRun, Went, Failed_at}
use Rattle.cat_model.specs.Machine.{Step, act, apply, at_past, catalog_at, create_session, deregister, deregister_check, deregister_node, deregister_service, end_sessions, register, set_query, txn_end, unless, yes_or_no}
use Rattle.cat_model.specs.Tables.{put}
use Rattle.cat_model.proofs.TableLemmas.{All-append, All-filter}
use Rattle.applied_state.specs.Making.{made_at}

module _ (P : SessionRow → Type 0) where
  -- each session of the catalog
  abbrev Has : Catalog → Type 0
  Has k = Each P k.sessions

  unless_has : (o : Option Refuse) (k : Catalog) (step : Step) → Has k → Has step.0 → Has (unless o k step).0
  unfolding unless
  unless_has None k step h g = g
  unless_has (Some r) k step h g = h

  answer_has : (k : Catalog) (rows : Option (List KvRow)) → Has k → Has (yes_or_no k rows).0
  answer_has k None h = h
  answer_has k (Some rows) h = h

  txn_has : (k : Catalog) (run : TxnRun) → Has k → Has (txn_end k run).0
  txn_has k (Went rows results) h = h
  txn_has k (Failed_at at verb) h = h

  either_has : (b : Bool) (k j : Catalog) → Has k → Has j → Has (cond b k j)
  either_has true k j h g = h
  either_has false k j h g = g

  deregister_has : (node service check : List ℕ) (k : Catalog) → Has k → Has (deregister node service check k)
  unfolding deregister
  deregister_has node service check k h =
      either_has (not (is_empty service)) (deregister_service node service k) (cond (not (is_empty check)) (deregister_check node check k) (deregister_node node k)) h
      (either_has (not (is_empty check)) (deregister_check node check k) (deregister_node node k) h h)

  put_has : (new : SessionRow) (rows : List SessionRow) → P new → Each P rows → Each P (put nat_cmp session_key new rows)
  unfolding put
  put_has new rows p h = All-append P _ _ (All-filter P (λ r. is_lt (nat_cmp (session_key r) (session_key new))) rows h) (p, All-filter P (λ r. is_gt (nat_cmp (session_key r) (session_key new))) rows h)

  act_has : (i : ℕ) (c : Command) (k : Catalog) → ((s : SessionRow) → made_at i c ≡ Some s → P s) → Has k → Has (act i c k).0
  unfolding act register create_session set_query
  act_has i (command.Register node address service checks) k new h = unless_has _ k _ h h
  act_has i (command.Deregister node service check) k new h = deregister_has node service check k h
  act_has i (command.KvCas key flags value index) k new h = answer_has k _ h
  act_has i (command.KvLock key flags value session) k new h = unless_has _ k _ h (answer_has k _ h)
  act_has i (command.KvUnlock key flags value session) k new h = answer_has k _ h
  act_has i (command.KvDeleteCas key index) k new h = answer_has k _ h
  act_has i (command.Txn ops) k new h = txn_has k _ h
  act_has i (command.SessionCreate id name node checks behavior delay_ms ttl_ms) k new h = unless_has _ k _ h (put_has _ k.sessions (new _ refl) h)
  act_has i (command.QuerySet id create name session service only_passing tags dns_ttl_ms) k new h = unless_has _ k _ h h
  act_has i other k new h = h

  -- after one more command
  pub made_has : (past : List Command) (c : Command) → ((s : SessionRow) → made_at (length past + 1) c ≡ Some s → P s) → Each P (catalog_at past).sessions → Each P (catalog_at (past ++ c ∷ [])).sessions
  unfolding at_past apply end_sessions
  made_has past c new h =
      subst (λ (l : List Command). Each P (at_past l).sessions) (sym (reverse-append past (c ∷ [])))
      (All-filter P _ (act (length (reverse past) + 1) c (catalog_at past)).0.sessions (act_has (length (reverse past) + 1) c (catalog_at past) (λ s e. new s (ap (λ n. made_at (n + 1) c) (sym (length-reverse past)) ∙ e)) h))
