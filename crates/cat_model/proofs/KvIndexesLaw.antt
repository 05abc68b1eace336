-- Tombstones and a floor give the indexes of keys and prefixes, whatever the command.
use Rattle.std.proofs.Common.{◌≡◌, ℕ, ◌+◌, ◌≤◌, Bool, true, false, not, cond, ◌&&◌, ◌||◌, List, [], ◌∷◌, refl, sym, ◌∙◌, ap, subst, Option, Some, None, filter, is_some, length, max, arith, ◌⊎◌, inl, inr}
use Rattle.std.specs.List.{AllByRecursion}
use Rattle.std.specs.Ordering.{is_eq}
use Rattle.std.specs.declared.cmp.Ordering.TheVariants.{Less}
use Rattle.cat_model.proofs.SameLemmas.{kv_decides, text_decides}
use Rattle.std.proofs.lemmas.Cmp.{nat_list_cmp_total, tied_itself}
use Rattle.std.proofs.lemmas.Map.Lookups.{exact_bytes}
use Rattle.std.proofs.lemmas.Bool.{true≢false, false≢true, not-true, or_cases, and_parts, and_from}
use Rattle.cat_model.specs.Keys.{text_cmp, same_text, has_prefix, is_empty}
use Rattle.cat_model.specs.Tables.{same_found}
use Rattle.cat_model.specs.Same.{same_kv}
use Rattle.cat_model.specs.Catalog.{Catalog, empty_catalog, same_catalog, kv_key, kv_at}
use Rattle.cat_model.specs.Kv.{put_kv, write_kv, written}
use Rattle.cat_model.specs.Machine.{Step, act, apply, end_sessions, at_past, register, deregister, create_session, set_query, freed_row, ended_holder, yes_or_no, txn_end, unless, deregister_service, deregister_check, deregister_node}
use Rattle.cat_model.specs.Kv.{TxnRun, Went, Failed_at}
use Rattle.cat_model.specs.Indexes.{past_index, touches, is_reap, some_vanishes}
use Rattle.cat_model.specs.Queries.{reads}
use Rattle.cat_model.specs.Channels.{fires}
use Rattle.cat_model.specs.declared.query.Query.TheVariants as q
use Rattle.cat_model.proofs.IndexLaw.{index_cases, index_within, untouched}
use Rattle.cat_model.proofs.Covering.{some_key}
use Rattle.cat_model.specs.KvIndexes.{row_index, buried, tombs_after, floor_after, last_tomb, last_modify, key_index, prefix_index, GivesIndexes}
use Rattle.cat_model.specs.declared.row.KvRow.{KvRow}
use Rattle.cat_model.specs.declared.row.SessionRow.{SessionRow}
use Rattle.cat_model.specs.declared.applied.Refuse.{Refuse}
use Rattle.cat_model.specs.declared.row.Behavior.{Behavior}
use Rattle.cat_model.specs.declared.row.Behavior.TheVariants as behaviors
use Rattle.cat_model.specs.declared.command.Command.{Command}
use Rattle.cat_model.specs.declared.command.Command.TheVariants.{Noop, Register, Deregister, KvSet, KvCas, KvLock, KvUnlock, KvDelete, KvDeleteCas, KvDeleteTree, Txn, SessionCreate, SessionDestroy, QuerySet, QueryDelete, Reap, Upgrade}
use Rattle.cat_model.proofs.TableLemmas.{row_at-filter, row_at-below, All-weaker, All-filter, eq_is}
use Rattle.cat_model.proofs.Lookups.{row_at-put, row_at-filter_none, row_at-filter_map, row_then}
use Rattle.cat_model.proofs.Writes.{left_by_write}
use Rattle.cat_model.proofs.KvOrder.{KvAscends, kv_ascends, act_ascends}
use Rattle.cat_model.proofs.KvKept.{IsKept, IfKept, WentKept, set_kept, cas_kept, lock_kept, unlock_kept, delete_kept, delete_tree_kept, delete_cas_kept, ops_kept}
use Rattle.cat_model.proofs.LockLaw.{freed_key}

-- 1. A row that a step changes has its position as modify.
abbrev Stamp : ℕ → Option KvRow → Option KvRow → Type 0
Stamp i old None = Unit {0}
Stamp i old (Some new) = (old ≡ Some new) ⊎ (new.modify ≡ i)

same_stamp : (i : ℕ) (o : Option KvRow) → Stamp i o o
same_stamp i None = tt
same_stamp i (Some r) = inl refl

record Stamped (i : ℕ) (before after : List KvRow) : Type 0 where
  at : (key : List ℕ) → Stamp i (kv_at key before) (kv_at key after)

stamped_same : (i : ℕ) (rows : List KvRow) → Stamped i rows rows
stamped_same i rows = record { at = λ key. same_stamp i (kv_at key rows) }

stamped_put : (i : ℕ) (before : List KvRow) (key value : List ℕ) (flags : ℕ) (session : Option ℕ) (lock : ℕ) (rows : List KvRow) → Stamped i before rows → Stamped i before (put_kv (written i key value flags session lock (kv_at key rows)) rows)
stamped_put i before key value flags session lock rows h = record { at = λ q. subst (λ o. Stamp i (kv_at q before) o) (sym (row_at-put text_cmp kv_key nat_list_cmp_total exact_bytes q new rows)) (go q (is_eq (text_cmp q (kv_key new)))) }
  where
    new : KvRow
    new = written i key value flags session lock (kv_at key rows)

    stamp : (o : Option KvRow) → (written i key value flags session lock o).modify ≡ i
    stamp None = refl
    stamp (Some r) = refl

    go : (q : List ℕ) (b : Bool) → Stamp i (kv_at q before) (cond b (Some new) (kv_at q rows))
    go q true = inr (stamp (kv_at key rows))
    go q false = h.at q

stamped_write : (i : ℕ) (before : List KvRow) (version : ℕ) (key value : List ℕ) (flags : ℕ) (session : Option ℕ) (lock : ℕ) (rows : List KvRow) → Unit {0} → Stamped i before rows → Stamped i before (write_kv version i key value flags session lock rows)
stamped_write i before version key value flags session lock rows may h = left_by_write (Stamped i before) version i key value flags session lock rows h (stamped_put i before key value flags session lock rows h)

stamped_removal : (i : ℕ) (before : List KvRow) (test : List ℕ → Bool) (rows : List KvRow) → Stamped i before rows → Stamped i before (filter (λ r. test r.key) rows)
stamped_removal i before test rows h = record { at = λ q. go q (test q) refl }
  where
    go : (q : List ℕ) (b : Bool) → test q ≡ b → Stamp i (kv_at q before) (kv_at q (filter (λ r. test r.key) rows))
    go q true e = subst (λ o. Stamp i (kv_at q before) o) (sym (row_at-filter text_cmp kv_key nat_list_cmp_total exact_bytes test q e rows)) (h.at q)
    go q false e = subst (λ o. Stamp i (kv_at q before) o) (sym (row_at-filter_none text_cmp kv_key nat_list_cmp_total exact_bytes test q e rows)) tt

abbrev Any : Option ℕ → Type 0
Any o = Unit {0}

stamped_kept : (i : ℕ) (before : List KvRow) → IsKept i (Stamped i before) Any
stamped_kept i before = record { write = stamped_write i before; removal = stamped_removal i before; old = λ key rows h. tt; none = tt }

record StepStamped (i : ℕ) (k : Catalog) (s : Step) : Type 0 where
  at : Stamped i k.kv s.0.kv

unless_stamped : (i : ℕ) (o : Option Refuse) (k : Catalog) (s : Step) → StepStamped i k s → StepStamped i k (unless o k s)
unfolding unless
unless_stamped i None k s g = g
unless_stamped i (Some r) k s g = record { at = stamped_same i k.kv }

yes_or_no_stamped : (i : ℕ) (k : Catalog) (o : Option (List KvRow)) → IfKept i (Stamped i k.kv) Any (stamped_kept i k.kv) o → StepStamped i k (yes_or_no k o)
yes_or_no_stamped i k None g = record { at = stamped_same i k.kv }
yes_or_no_stamped i k (Some rows) g = record { at = g.at }

txn_stamped : (i : ℕ) (k : Catalog) (t : TxnRun) → WentKept i (Stamped i k.kv) Any (stamped_kept i k.kv) t → StepStamped i k (txn_end k t)
txn_stamped i k (Went rows results) g = record { at = g }
txn_stamped i k (Failed_at at verb) g = record { at = stamped_same i k.kv }

act_stamped : (i : ℕ) (c : Command) (k : Catalog) → StepStamped i k (act i c k)
unfolding act register deregister create_session set_query
act_stamped i Noop k = record { at = stamped_same i k.kv }
act_stamped i (Register node address service checks) k = unless_stamped i _ k _ (record { at = stamped_same i k.kv })
act_stamped i (Deregister node service check) k = record { at = go (not (is_empty service)) (not (is_empty check)) }
  where
    go : (b d : Bool) → Stamped i k.kv (cond b (deregister_service node service k) (cond d (deregister_check node check k) (deregister_node node k))).kv
    go true d = stamped_same i k.kv
    go false true = stamped_same i k.kv
    go false false = stamped_same i k.kv
act_stamped i (KvSet key flags value) k = record { at = set_kept i (Stamped i k.kv) Any (stamped_kept i k.kv) k.version key value flags k.kv (stamped_same i k.kv) }
act_stamped i (KvCas key flags value index) k = yes_or_no_stamped i k _ (cas_kept i (Stamped i k.kv) Any (stamped_kept i k.kv) k.version key value flags index k.kv (stamped_same i k.kv))
act_stamped i (KvLock key flags value session) k = unless_stamped i _ k _ (yes_or_no_stamped i k _ (lock_kept i (Stamped i k.kv) Any (stamped_kept i k.kv) k.version key value flags session k.kv tt (stamped_same i k.kv)))
act_stamped i (KvUnlock key flags value session) k = yes_or_no_stamped i k _ (unlock_kept i (Stamped i k.kv) Any (stamped_kept i k.kv) k.version key value flags session k.kv (stamped_same i k.kv))
act_stamped i (KvDelete key) k = record { at = delete_kept i (Stamped i k.kv) Any (stamped_kept i k.kv) key k.kv (stamped_same i k.kv) }
act_stamped i (KvDeleteCas key index) k = yes_or_no_stamped i k _ (delete_cas_kept i (Stamped i k.kv) Any (stamped_kept i k.kv) key index k.kv (stamped_same i k.kv))
act_stamped i (KvDeleteTree prefix) k = record { at = delete_tree_kept i (Stamped i k.kv) Any (stamped_kept i k.kv) prefix k.kv (stamped_same i k.kv) }
act_stamped i (Txn ops) k = txn_stamped i k _ (ops_kept i (Stamped i k.kv) Any (stamped_kept i k.kv) k.version k.sessions (λ id e. tt) 0 ops k.kv [] (stamped_same i k.kv))
act_stamped i (SessionCreate id name node checks behavior delay_ms ttl_ms) k = unless_stamped i _ k _ (record { at = stamped_same i k.kv })
act_stamped i (SessionDestroy id) k = record { at = stamped_same i k.kv }
act_stamped i (QuerySet id create name session service only_passing tags dns_ttl_ms) k = unless_stamped i _ k _ (record { at = stamped_same i k.kv })
act_stamped i (QueryDelete id) k = record { at = stamped_same i k.kv }
act_stamped i Reap k = record { at = stamped_same i k.kv }
act_stamped i Upgrade k = record { at = stamped_same i k.kv }

end_stamped : (i : ℕ) (gone : List SessionRow) (before : List KvRow) (k : Catalog) → KvAscends k.kv → Stamped i before k.kv → Stamped i before (end_sessions i gone k).kv
unfolding end_sessions
end_stamped i gone before k asc h = record { at = λ q. subst (λ o. Stamp i (kv_at q before) o) (sym (row_at-filter_map text_cmp kv_key nat_list_cmp_total exact_bytes f (freed_key i gone) q k.kv asc)) (go (kv_at q before) (kv_at q k.kv) (h.at q)) }
  where
    f : KvRow → Option KvRow
    f r = freed_row i r (ended_holder gone r.session)

    freed : (old : Option KvRow) (r : KvRow) (e : Option SessionRow) → Stamp i old (Some r) → Stamp i old (freed_row i r e)
    freed old r None s = s
    freed old r (Some t) s = elim t.behavior as (λ b. Stamp i old (freed_by b)) [ behaviors.Release ↦ inr refl | behaviors.Delete ↦ tt ]
      where
        freed_by : Behavior → Option KvRow
        freed_by behaviors.Release = Some (record r { session = None; modify = i })
        freed_by behaviors.Delete = None

    go : (old new : Option KvRow) → Stamp i old new → Stamp i old (row_then text_cmp kv_key nat_list_cmp_total exact_bytes f new)
    go old None s = tt
    go old (Some r) s = freed old r (ended_holder gone r.session) s

-- each row that a command changes has the command's position as modify
pub stamped : (i : ℕ) (c : Command) (k : Catalog) → KvAscends k.kv → (key : List ℕ) → Stamp i (kv_at key k.kv) (kv_at key (apply i c k).0.kv)
unfolding apply
stamped i c k asc key = (end_stamped i _ k.kv (act i c k).0 (act_ascends i c k asc) (act_stamped i c k).at).at key

-- 2. Tombstones.
tomb_within : (test : List ℕ → Bool) (i floor : ℕ) (after rows : List KvRow) (tombs : List (List ℕ × ℕ)) → last_tomb test floor tombs ≤ i → last_tomb test floor (buried i after rows tombs) ≤ i
tomb_within test i floor after [] tombs h = h
tomb_within test i floor after (r ∷ rows) tombs h = go (is_some (kv_at r.key after)) (test r.key) (tomb_within test i floor after rows tombs h)
  where
    rest : List (List ℕ × ℕ)
    rest = buried i after rows tombs

    go : (b t : Bool) → last_tomb test floor rest ≤ i → last_tomb test floor (cond b rest ((r.key, i) ∷ rest)) ≤ i
    go true t h' = h'
    go false t h' = inner (test r.key)
      where
        inner : (t' : Bool) → cond t' (max i (last_tomb test floor rest)) (last_tomb test floor rest) ≤ i
        inner true = omega arith
        inner false = h'

-- a row that is gone and whose key passes gives the position
tomb_hit : (test : List ℕ → Bool) (i floor : ℕ) (after rows : List KvRow) (tombs : List (List ℕ × ℕ)) (key : List ℕ) (old : KvRow) → last_tomb test floor tombs ≤ i
    → test key ≡ true → kv_at key rows ≡ Some old → kv_at key after ≡ None → last_tomb test floor (buried i after rows tombs) ≡ i
tomb_hit test i floor after [] tombs key old h passes there gone = let clash : None ≡ Some old = there in cc
tomb_hit test i floor after (r ∷ rows) tombs key old h passes there gone =
    go (is_eq (text_cmp key r.key)) refl there (is_some (kv_at r.key after)) refl (test r.key) refl (λ t. tomb_hit test i floor after rows tombs key old h passes t gone)
  where
    rest : List (List ℕ × ℕ)
    rest = buried i after rows tombs

    low : last_tomb test floor rest ≤ i
    low = tomb_within test i floor after rows tombs h

    go : (e : Bool) → is_eq (text_cmp key r.key) ≡ e → cond e (Some r) (kv_at key rows) ≡ Some old → (b : Bool) → is_some (kv_at r.key after) ≡ b → (t : Bool) → test r.key ≡ t
        → (kv_at key rows ≡ Some old → last_tomb test floor rest ≡ i) → last_tomb test floor (cond b rest ((r.key, i) ∷ rest)) ≡ i
    go true e found true b t is behind = absurd (false≢true (sym (ap (λ k. is_some (kv_at k after)) (sym (exact_bytes key r.key (eq_is text_cmp kv_key nat_list_cmp_total _ e))) ∙ ap is_some gone) ∙ b))
    go true e found false b t is behind =
        let here : test r.key ≡ true = ap test (sym (exact_bytes key r.key (eq_is text_cmp kv_key nat_list_cmp_total _ e))) ∙ passes in
        ap (λ x. cond x (max i (last_tomb test floor rest)) (last_tomb test floor rest)) here ∙ omega (arith, low)
    go false e found true b t is behind = behind found
    go false e found false b t is behind = inner (test r.key) (behind found)
      where
        inner : (t' : Bool) → last_tomb test floor rest ≡ i → cond t' (max i (last_tomb test floor rest)) (last_tomb test floor rest) ≡ i
        inner true l = omega arith
        inner false l = l

-- where each row whose key passes is still there, the tombstones say what they said
tomb_same : (test : List ℕ → Bool) (i floor : ℕ) (after rows : List KvRow) (tombs : List (List ℕ × ℕ)) → AllByRecursion (λ r. test r.key ≡ true → is_some (kv_at r.key after) ≡ true) rows → last_tomb test floor (buried i after rows tombs) ≡ last_tomb test floor tombs
tomb_same test i floor after [] tombs h = refl
tomb_same test i floor after (r ∷ rows) tombs h = go (is_some (kv_at r.key after)) refl (test r.key) refl (tomb_same test i floor after rows tombs h.1)
  where
    rest : List (List ℕ × ℕ)
    rest = buried i after rows tombs

    go : (b : Bool) → is_some (kv_at r.key after) ≡ b → (t : Bool) → test r.key ≡ t → last_tomb test floor rest ≡ last_tomb test floor tombs → last_tomb test floor (cond b rest ((r.key, i) ∷ rest)) ≡ last_tomb test floor tombs
    go true b t is l = l
    go false b true is l = absurd (true≢false (sym (h.0 is) ∙ b))
    go false b false is l = ap (λ x. cond x (max i (last_tomb test floor rest)) (last_tomb test floor rest)) is ∙ l

-- each row of a table is the row of its key
own_row : (rows : List KvRow) → AllByRecursion (λ r. is_some (kv_at r.key rows) ≡ true) rows
own_row [] = tt
own_row (x ∷ rows) = (ap (λ o. is_some (cond (is_eq o) (Some x) (kv_at x.key rows))) (tied_itself nat_list_cmp_total x.key), All-weaker _ _ (λ r e. behind r e (is_eq (text_cmp r.key x.key))) rows (own_row rows))
  where
    behind : (r : KvRow) → is_some (kv_at r.key rows) ≡ true → (b : Bool) → is_some (cond b (Some x) (kv_at r.key rows)) ≡ true
    behind r e true = refl
    behind r e false = e

passing : (test : List ℕ → Bool) (P : KvRow → Type 0) (rows : List KvRow) → AllByRecursion P (filter (λ r. test r.key) rows) → AllByRecursion (λ r. test r.key ≡ true → P r) rows
passing test P [] h = tt
passing test P (r ∷ rows) h = go (test r.key) refl h (λ x. passing test P rows x)
  where
    rest : List KvRow
    rest = filter (λ s. test s.key) rows

    go : (b : Bool) → test r.key ≡ b → AllByRecursion P (cond b (r ∷ rest) rest) → (AllByRecursion P rest → AllByRecursion (λ s. test s.key ≡ true → P s) rows) → (test r.key ≡ true → P r) × AllByRecursion (λ s. test s.key ≡ true → P s) rows
    go true e a tail = (λ _. a.0, tail a.1)
    go false e a tail = (λ t. absurd (true≢false (sym t ∙ e)), tail a)

-- where the rows that pass are the same, so are the tombstones that pass
tomb_untouched : (test : List ℕ → Bool) (i floor : ℕ) (before after : List KvRow) (tombs : List (List ℕ × ℕ)) → filter (λ r. test r.key) before ≡ filter (λ r. test r.key) after
    → last_tomb test floor (buried i after before tombs) ≡ last_tomb test floor tombs
tomb_untouched test i floor before after tombs same =
    tomb_same test i floor after before tombs (passing test (λ r. is_some (kv_at r.key after) ≡ true) before
    (subst (AllByRecursion (λ r. is_some (kv_at r.key after) ≡ true)) (sym same) (All-filter (λ r. is_some (kv_at r.key after) ≡ true) (λ r. test r.key) after (own_row after))))

-- 3. The last modify of the rows that pass.
modify_of_filter : (test : List ℕ → Bool) (least : ℕ) (rows : List KvRow) → last_modify test least rows ≡ last_modify (λ k. true) least (filter (λ r. test r.key) rows)
modify_of_filter test least [] = refl
modify_of_filter test least (r ∷ rows) = go (test r.key) (modify_of_filter test least rows)
  where
    rest : List KvRow
    rest = filter (λ s. test s.key) rows

    go : (b : Bool) → last_modify test least rows ≡ last_modify (λ k. true) least rest → cond b (max r.modify (last_modify test least rows)) (last_modify test least rows) ≡ last_modify (λ k. true) least (cond b (r ∷ rest) rest)
    go true e = ap (λ n. max r.modify n) e
    go false e = e

modify_within : (test : List ℕ → Bool) (i least : ℕ) (rows : List KvRow) → least ≤ i → AllByRecursion (λ r. r.modify ≤ i) rows → last_modify test least rows ≤ i
modify_within test i least [] l h = l
modify_within test i least (r ∷ rows) l h = go (test r.key) (modify_within test i least rows l h.1)
  where
    go : (b : Bool) → last_modify test least rows ≤ i → cond b (max r.modify (last_modify test least rows)) (last_modify test least rows) ≤ i
    go true e = omega (arith, h.0)
    go false e = e

least_within : (test : List ℕ → Bool) (least : ℕ) (rows : List KvRow) → least ≤ last_modify test least rows
least_within test least [] = omega arith
least_within test least (r ∷ rows) = go (test r.key) (least_within test least rows)
  where
    go : (b : Bool) → least ≤ last_modify test least rows → least ≤ cond b (max r.modify (last_modify test least rows)) (last_modify test least rows)
    go true e = omega arith
    go false e = e

modify_hit : (test : List ℕ → Bool) (least : ℕ) (rows : List KvRow) (key : List ℕ) (new : KvRow) → test key ≡ true → kv_at key rows ≡ Some new → new.modify ≤ last_modify test least rows
modify_hit test least [] key new passes there = let clash : None ≡ Some new = there in cc
modify_hit test least (r ∷ rows) key new passes there = go (is_eq (text_cmp key r.key)) refl there (λ t. modify_hit test least rows key new passes t)
  where
    more : (b : Bool) → last_modify test least rows ≤ cond b (max r.modify (last_modify test least rows)) (last_modify test least rows)
    more true = omega arith
    more false = omega arith

    go : (e : Bool) → is_eq (text_cmp key r.key) ≡ e → cond e (Some r) (kv_at key rows) ≡ Some new → (kv_at key rows ≡ Some new → new.modify ≤ last_modify test least rows) → new.modify ≤ last_modify test least (r ∷ rows)
    go true e found behind =
        let here : test r.key ≡ true = ap test (sym (exact_bytes key r.key (eq_is text_cmp kv_key nat_list_cmp_total _ e))) ∙ passes in
        let same : new.modify ≡ r.modify = cc in
        let value : last_modify test least (r ∷ rows) ≡ max r.modify (last_modify test least rows) = ap (λ x. cond x (max r.modify (last_modify test least rows)) (last_modify test least rows)) here in
        omega (arith, same, value)
    go false e found behind = let low : new.modify ≤ last_modify test least rows = behind found in let up : last_modify test least rows ≤ last_modify test least (r ∷ rows) = more (test r.key) in omega (arith, low, up)

-- 4. The step.
reaped_floor : (test : List ℕ → Bool) (i : ℕ) → last_tomb test i [] ≡ i
reaped_floor test i = refl

-- each row's modify is at most the position, where each key's index is at most that
all_within : (i : ℕ) (before : List KvRow) (rows whole : List KvRow) → KvAscends rows → ((key : List ℕ) (r : KvRow) → kv_at key before ≡ Some r → r.modify ≤ i)
    → ((key : List ℕ) (r : KvRow) → kv_at key rows ≡ Some r → (kv_at key before ≡ Some r) ⊎ (r.modify ≡ i)) → AllByRecursion (λ r. r.modify ≤ i) rows
all_within i before [] whole asc old stamp = tt
all_within i before (x ∷ rows) whole asc old stamp = (first (stamp x.key x (ap (λ o. cond (is_eq o) (Some x) (kv_at x.key rows)) (tied_itself nat_list_cmp_total x.key))), all_within i before rows whole asc.1 old (λ key r e. stamp key r (behind key r e)))
  where
    first : (kv_at x.key before ≡ Some x) ⊎ (x.modify ≡ i) → x.modify ≤ i
    first (inl e) = old x.key x e
    first (inr e) = omega (arith, e)

    -- a key found behind the first row is not the first row's key
    behind : (key : List ℕ) (r : KvRow) → kv_at key rows ≡ Some r → kv_at key (x ∷ rows) ≡ Some r
    behind key r e = go (is_eq (text_cmp key x.key)) refl
      where
        go : (b : Bool) → is_eq (text_cmp key x.key) ≡ b → cond b (Some x) (kv_at key rows) ≡ Some r
        go true t =
            let none : kv_at key rows ≡ None = row_at-below text_cmp kv_key nat_list_cmp_total key rows (All-weaker (λ s. text_cmp x.key s.key ≡ Less) (λ s. text_cmp key s.key ≡ Less) (λ s l. nat_list_cmp_total.congr key x.key s.key (eq_is text_cmp kv_key nat_list_cmp_total _ t) ∙ l) rows asc.0) in
            let clash : None ≡ Some r = sym none ∙ e in cc
        go false t = e

stamp_cases : (i : ℕ) (old : Option KvRow) (new : Option KvRow) (r : KvRow) → Stamp i old new → new ≡ Some r → (old ≡ Some r) ⊎ (r.modify ≡ i)
stamp_cases i old None r s e = let clash : None ≡ Some r = e in cc
stamp_cases i old (Some n) r s e = let same : n ≡ r = cc in subst (λ x. (old ≡ Some x) ⊎ (x.modify ≡ i)) same s

-- a key that passes and whose row a step changed: its tombstone or its modify is the position
changed : (test : List ℕ → Bool) (i floor : ℕ) (before after : List KvRow) (tombs : List (List ℕ × ℕ)) (key : List ℕ) → ((k : List ℕ) → Stamp i (kv_at k before) (kv_at k after))
    → last_tomb test floor tombs ≤ i → test key ≡ true → same_found same_kv (kv_at key before) (kv_at key after) ≡ false
    → ((kv_at key after ≡ None) × (last_tomb test floor (buried i after before tombs) ≡ i)) ⊎ ((r : KvRow) × (kv_at key after ≡ Some r) × (r.modify ≡ i))
changed test i floor before after tombs key stamp low passes differ = go (kv_at key before) refl (kv_at key after) refl
  where
    go : (old : Option KvRow) → kv_at key before ≡ old → (new : Option KvRow) → kv_at key after ≡ new → ((kv_at key after ≡ None) × (last_tomb test floor (buried i after before tombs) ≡ i)) ⊎ ((r : KvRow) × (kv_at key after ≡ Some r) × (r.modify ≡ i))
    go None was None is = absurd (true≢false (sym (ap (same_found same_kv None) is) ∙ ap (λ o. same_found same_kv o (kv_at key after)) (sym was) ∙ differ))
    go (Some old) was None is = inl (is, tomb_hit test i floor after before tombs key old low passes was is)
    go old was (Some new) is = inr (new, is, stamped_new old was new is (stamp_cases i (kv_at key before) (kv_at key after) new (stamp key) is))
      where
        stamped_new : (old : Option KvRow) → kv_at key before ≡ old → (new : KvRow) → kv_at key after ≡ Some new → (kv_at key before ≡ Some new) ⊎ (new.modify ≡ i) → new.modify ≡ i
        stamped_new old was new is (inr e) = e
        stamped_new old was new is (inl e) = absurd (true≢false (sym ((kv_decides new new).1 refl) ∙ ap (λ o. same_found same_kv (Some new) o) (sym is) ∙ ap (λ o. same_found same_kv o (kv_at key after)) (sym e) ∙ differ))

tomb_more : (test : List ℕ → Bool) (floor : ℕ) (tombs : List (List ℕ × ℕ)) → last_tomb test floor tombs ≤ last_tomb (λ k. true) floor tombs
tomb_more test floor [] = omega arith
tomb_more test floor (t ∷ tombs) = go (test t.0) (tomb_more test floor tombs)
  where
    go : (b : Bool) → last_tomb test floor tombs ≤ last_tomb (λ k. true) floor tombs → cond b (max t.1 (last_tomb test floor tombs)) (last_tomb test floor tombs) ≤ max t.1 (last_tomb (λ k. true) floor tombs)
    go true e = omega (arith, e)
    go false e = omega (arith, e)

first_false : (x y : Bool) → (x || y) ≡ false → x ≡ false
first_false false y h = refl
first_false true y h = h

second_false : (x y : Bool) → (x || y) ≡ false → y ≡ false
second_false false y h = h
second_false true y h = absurd (true≢false h)

and_left_false : (x : Bool) → (x && true) ≡ false → x ≡ false
and_left_false false h = refl
and_left_false true h = h

-- what a log's tombstones and floor are after one more command
module _ (past : List Command) (c : Command) (tombs : List (List ℕ × ℕ)) (floor : ℕ) (gives : GivesIndexes past tombs floor) where
  abbrev before : Catalog
  before = at_past past

  abbrev after : Catalog
  after = at_past (c ∷ past)

  stamps : (key : List ℕ) → Stamp (length past + 1) (kv_at key before.kv) (kv_at key after.kv)
  unfolding at_past
  stamps key = stamped (length past + 1) c (at_past past) (kv_ascends past) key

  old_low : (key : List ℕ) (r : KvRow) → kv_at key before.kv ≡ Some r → r.modify ≤ length past + 1
  old_low key r e =
      let index : r.modify ≡ past_index (q.Key key) past = sym (ap (λ o. row_index o (last_tomb (λ k. same_text k key) floor tombs)) e) ∙ gives.keys key in
      omega (arith, index, (index_within (q.Key key) past).1)

  tombs_low : (test : List ℕ → Bool) → last_tomb test floor tombs ≤ length past + 1
  tombs_low test =
      let all : last_tomb (has_prefix []) floor tombs ≤ prefix_index [] before.kv tombs floor = least_within (has_prefix []) (last_tomb (has_prefix []) floor tombs) before.kv in
      let mine : last_tomb test floor tombs ≤ last_tomb (has_prefix []) floor tombs = tomb_more test floor tombs in
      omega (arith, all, mine, gives.prefixes [], (index_within (q.Prefix []) past).1)

  -- where the rows that pass differ
  differ_at : (test : List ℕ → Bool) → not (same_catalog (record empty_catalog { kv = filter (λ r. test r.key) before.kv }) (record empty_catalog { kv = filter (λ r. test r.key) after.kv })) ≡ true
      → (key : List ℕ) × (test key ≡ true) × (((kv_at key after.kv ≡ None) × (last_tomb test floor (buried (length past + 1) after.kv before.kv tombs) ≡ length past + 1)) ⊎ ((r : KvRow) × (kv_at key after.kv ≡ Some r) × (r.modify ≡ length past + 1)))
  unfolding fires
  differ_at test h =
      let found : (k : List ℕ) × (test k ≡ true) × (not (same_found same_kv (kv_at k before.kv) (kv_at k after.kv)) ≡ true) = some_key test before after c (kv_ascends past) (kv_ascends (c ∷ past)) h in
      (found.0, found.1, changed test (length past + 1) floor before.kv after.kv tombs found.0 stamps (tombs_low test) found.1 (not-true _ found.2))

  same_rows : (test : List ℕ → Bool) → filter (λ r. test r.key) before.kv ≡ filter (λ r. test r.key) after.kv → (key : List ℕ) → test key ≡ true → kv_at key after.kv ≡ kv_at key before.kv
  same_rows test e key passes = sym (row_at-filter text_cmp kv_key nat_list_cmp_total exact_bytes test key passes after.kv) ∙ ap (kv_at key) (sym e) ∙ row_at-filter text_cmp kv_key nat_list_cmp_total exact_bytes test key passes before.kv

  same_key_passes : (key : List ℕ) → same_text key key ≡ true
  same_key_passes key = (text_decides key key).1 refl

  key_given : (key : List ℕ) → key_index key after.kv (tombs_after (length past + 1) c before.kv after.kv tombs) (floor_after (length past + 1) c floor) ≡ past_index (q.Key key) (c ∷ past)
  unfolding reads touches
  key_given key = go (index_cases (q.Key key) c past)
    where
      test : List ℕ → Bool
      test k = same_text k key

      from_change : (b : Bool) → ((kv_at key after.kv ≡ None) × (last_tomb test floor (buried (length past + 1) after.kv before.kv tombs) ≡ length past + 1)) ⊎ ((r : KvRow) × (kv_at key after.kv ≡ Some r) × (r.modify ≡ length past + 1))
          → row_index (kv_at key after.kv) (last_tomb test (cond b (length past + 1) floor) (cond b [] (buried (length past + 1) after.kv before.kv tombs))) ≡ length past + 1
      from_change b (inr r) = ap (λ o. row_index o (last_tomb test (cond b (length past + 1) floor) (cond b [] (buried (length past + 1) after.kv before.kv tombs)))) r.1 ∙ r.2
      from_change true (inl n) = ap (λ o. row_index o (length past + 1)) n.0
      from_change false (inl n) = ap (λ o. row_index o (last_tomb test floor (buried (length past + 1) after.kv before.kv tombs))) n.0 ∙ n.1

      go : ((touches (q.Key key) before c after ≡ true) × (past_index (q.Key key) (c ∷ past) ≡ length past + 1)) ⊎ ((touches (q.Key key) before c after ≡ false) × (past_index (q.Key key) (c ∷ past) ≡ past_index (q.Key key) past))
          → key_index key after.kv (tombs_after (length past + 1) c before.kv after.kv tombs) (floor_after (length past + 1) c floor) ≡ past_index (q.Key key) (c ∷ past)
      go (inl t) =
          elim (or_cases _ _ t.0) [
            | inl first ↦ elim (or_cases _ _ first) [
              | inl diff ↦ (let d = differ_at test diff in from_change (is_reap c) (subst Change ((text_decides d.0 key).0 d.1) d.2) ∙ sym t.1)
              | inr reap ↦ (let parts = and_parts _ _ reap in from_reap (is_reap c) parts.0 (kv_at key after.kv) refl parts.1 ∙ sym t.1)
            ]
            | inr vanish ↦ absurd (false≢true (and_parts (some_vanishes before after) false vanish).1)
          ]
        where
          Change : List ℕ → Type 0
          Change k = ((kv_at k after.kv ≡ None) × (last_tomb test floor (buried (length past + 1) after.kv before.kv tombs) ≡ length past + 1)) ⊎ ((r : KvRow) × (kv_at k after.kv ≡ Some r) × (r.modify ≡ length past + 1))

          from_reap : (b : Bool) → b ≡ true → (o : Option KvRow) → kv_at key after.kv ≡ o → not (is_some o) ≡ true → row_index o (last_tomb test (cond b (length past + 1) floor) (cond b [] (buried (length past + 1) after.kv before.kv tombs))) ≡ length past + 1
          from_reap true e None is h = refl
          from_reap true e (Some r) is h = absurd (false≢true h)
          from_reap false e o is h = absurd (false≢true e)
      go (inr f) =
          let same_lists : filter (λ r. test r.key) before.kv ≡ filter (λ r. test r.key) after.kv = ap (λ k. k.kv) (untouched (q.Key key) before c after f.0) in
          let same : kv_at key after.kv ≡ kv_at key before.kv = same_rows test same_lists key (same_key_passes key) in
          stays same_lists (kv_at key after.kv) refl (is_reap c) refl ∙ ap (λ o. row_index o (last_tomb test floor tombs)) same ∙ gives.keys key ∙ sym f.1
        where
          stays : filter (λ r. test r.key) before.kv ≡ filter (λ r. test r.key) after.kv → (o : Option KvRow) → kv_at key after.kv ≡ o → (b : Bool) → is_reap c ≡ b
              → row_index o (last_tomb test (cond b (length past + 1) floor) (cond b [] (buried (length past + 1) after.kv before.kv tombs))) ≡ row_index o (last_tomb test floor tombs)
          stays e (Some r) is b reap = refl
          stays e None is false reap = tomb_untouched test (length past + 1) floor before.kv after.kv tombs e
          stays e None is true reap = absurd (true≢false (sym (and_from _ _ reap (ap (λ o. not (is_some o)) is)) ∙ second_false _ _ (first_false _ _ f.0)))

  prefix_given : (prefix : List ℕ) → prefix_index prefix after.kv (tombs_after (length past + 1) c before.kv after.kv tombs) (floor_after (length past + 1) c floor) ≡ past_index (q.Prefix prefix) (c ∷ past)
  unfolding reads touches
  prefix_given prefix = go (index_cases (q.Prefix prefix) c past)
    where
      test : List ℕ → Bool
      test = has_prefix prefix

      differ : Bool
      differ = not (same_catalog (reads (q.Prefix prefix) before) (reads (q.Prefix prefix) after))

      within : AllByRecursion (λ r. r.modify ≤ length past + 1) after.kv
      within = all_within (length past + 1) before.kv after.kv after.kv (kv_ascends (c ∷ past)) old_low (λ key r e. stamp_cases (length past + 1) (kv_at key before.kv) (kv_at key after.kv) r (stamps key) e)

      tomb_low : (b : Bool) → last_tomb test (cond b (length past + 1) floor) (cond b [] (buried (length past + 1) after.kv before.kv tombs)) ≤ length past + 1
      tomb_low true = omega arith
      tomb_low false = tomb_within test (length past + 1) floor after.kv before.kv tombs (tombs_low test)

      whole : Bool → ℕ
      whole b = last_modify test (last_tomb test (cond b (length past + 1) floor) (cond b [] (buried (length past + 1) after.kv before.kv tombs))) after.kv

      low : (b : Bool) → whole b ≤ length past + 1
      low b = modify_within test (length past + 1) (last_tomb test (cond b (length past + 1) floor) (cond b [] (buried (length past + 1) after.kv before.kv tombs))) after.kv (tomb_low b) within

      from_reap : (b : Bool) → b ≡ true → whole b ≡ length past + 1
      from_reap true e = let up : length past + 1 ≤ whole true = least_within test (length past + 1) after.kv in let down : whole true ≤ length past + 1 = low true in omega (arith, up, down)
      from_reap false e = absurd (false≢true e)

      from_change : (b : Bool) → (key : List ℕ) → test key ≡ true → ((kv_at key after.kv ≡ None) × (last_tomb test floor (buried (length past + 1) after.kv before.kv tombs) ≡ length past + 1)) ⊎ ((r : KvRow) × (kv_at key after.kv ≡ Some r) × (r.modify ≡ length past + 1)) → whole b ≡ length past + 1
      from_change true key passes h = from_reap true refl
      from_change false key passes (inl n) =
          let up : last_tomb test floor (buried (length past + 1) after.kv before.kv tombs) ≤ whole false = least_within test (last_tomb test floor (buried (length past + 1) after.kv before.kv tombs)) after.kv in let down : whole false ≤ length past + 1 = low false in omega (arith, up, down, n.1)
      from_change false key passes (inr r) =
          let up : r.0.modify ≤ whole false = modify_hit test (last_tomb test floor (buried (length past + 1) after.kv before.kv tombs)) after.kv key r.0 passes r.1 in let down : whole false ≤ length past + 1 = low false in omega (arith, up, down, r.2)

      stays : (b : Bool) → is_reap c ≡ b → filter (λ r. test r.key) before.kv ≡ filter (λ r. test r.key) after.kv → is_reap c ≡ false → whole b ≡ last_modify test (last_tomb test floor tombs) before.kv
      stays true e same f = absurd (true≢false (sym e ∙ f))
      stays false e same f =
          ap (λ n. last_modify test n after.kv) (tomb_untouched test (length past + 1) floor before.kv after.kv tombs same)
          ∙ modify_of_filter test (last_tomb test floor tombs) after.kv ∙ ap (last_modify (λ k. true) (last_tomb test floor tombs)) (sym same) ∙ sym (modify_of_filter test (last_tomb test floor tombs) before.kv)

      go : ((touches (q.Prefix prefix) before c after ≡ true) × (past_index (q.Prefix prefix) (c ∷ past) ≡ length past + 1)) ⊎ ((touches (q.Prefix prefix) before c after ≡ false) × (past_index (q.Prefix prefix) (c ∷ past) ≡ past_index (q.Prefix prefix) past))
          → whole (is_reap c) ≡ past_index (q.Prefix prefix) (c ∷ past)
      go (inl t) =
          elim (or_cases (differ || (is_reap c && true)) (some_vanishes before after && false) t.0) [
            | inl first ↦ elim (or_cases differ (is_reap c && true) first) [
              | inl diff ↦ (let d = differ_at test diff in from_change (is_reap c) d.0 d.1 d.2 ∙ sym t.1)
              | inr reap ↦ (let parts = and_parts (is_reap c) true reap in from_reap (is_reap c) parts.0 ∙ sym t.1)
            ]
            | inr vanish ↦ absurd (false≢true (and_parts (some_vanishes before after) false vanish).1)
          ]
      go (inr f) =
          let same : filter (λ r. test r.key) before.kv ≡ filter (λ r. test r.key) after.kv = ap (λ k. k.kv) (untouched (q.Prefix prefix) before c after f.0) in
          let unreaped : is_reap c ≡ false = and_left_false (is_reap c) (second_false differ (is_reap c && true) (first_false (differ || (is_reap c && true)) (some_vanishes before after && false) f.0)) in
          stays (is_reap c) refl same unreaped ∙ gives.prefixes prefix ∙ sym f.1

  -- one more command keeps what tombstones and floor give
  pub gives_more : GivesIndexes (c ∷ past) (tombs_after (length past + 1) c before.kv after.kv tombs) (floor_after (length past + 1) c floor)
  gives_more = record { keys = key_given; prefixes = prefix_given }

-- at the start: no tombstones, and the floor 1
pub gives_first : GivesIndexes [] [] 1
unfolding at_past past_index
gives_first = record { keys = λ key. refl; prefixes = λ prefix. refl }
