-- What each command on keys does, by what it moves.
use Rattle.std.proofs.Common.{◌≡◌, ℕ, ◌+◌, Bool, true, false, not, cond, ◌&&◌, List, [], ◌∷◌, refl, sym, ◌∙◌, ap, subst, Some, None, is_some, Result, IfOk}
use Rattle.std.proofs.lemmas.Bool.{true≢false, false≢true}
use Rattle.std.proofs.lemmas.Result.{IfOk-weaker}
use Rattle.cat_model.specs.Catalog.{Catalog, kv_at, session_at}
use Rattle.cat_model.specs.Keys.{same_option}
use Rattle.cat_model.specs.Kv.{kv_set, kv_cas, kv_lock, kv_unlock, kv_delete, kv_delete_cas, kv_delete_tree, write_kv, holder, locks, index_fits}
use Rattle.cat_model.specs.Machine.{act, unless, refusal_of, yes_or_no}
use Rattle.cat_model.specs.Indexes.{is_reap}
use Rattle.cat_model.specs.KvIndexes.{buried}
use Rattle.cat_model.specs.declared.query.Chan.{Chan}
use Rattle.cat_model.specs.declared.query.Chan.TheVariants.{Reaped}
use Rattle.cat_model.specs.declared.applied.Applied.{Applied}
use Rattle.cat_model.specs.declared.applied.Applied.TheVariants.{Done, Yes, No, Refused}
use Rattle.cat_model.specs.declared.applied.Refuse.TheVariants.{UnknownSession}
use Rattle.cat_model.specs.declared.row.SessionRow.{SessionRow}
use Rattle.cat_model.specs.declared.row.KvRow.{KvRow}
use Rattle.cat_model.specs.declared.command.Command.{Command}
use Rattle.cat_model.specs.declared.command.Command.TheVariants.{Noop, KvSet, KvCas, KvLock, KvUnlock, KvDelete, KvDeleteCas, KvDeleteTree, Reap}
use Rattle.kv_table.specs.States.{KvVersions, Reaps}
use Rattle.catalog_store.specs.Firing.{FiresJust, keys_fire}
use Rattle.catalog_store.specs.Steps.{SameIndexes, Moves, KeyStep, PlainStep, Tells, acquired, is_refused}
use Rattle.catalog_store.proofs.Tombs.{same_by_tombs}
use Rattle.catalog_store.proofs.Fires.{fires_one, only_reaped}
use Rattle.catalog_store.proofs.Removals.{absent_same, unmoved}

module _ (version : ℕ) (sessions : List SessionRow) (i : ℕ) (old new : KvVersions) (chans : List Chan) where
  abbrev Is : Command → Applied → Type 0
  Is c answer = KeyStep version sessions i c old new answer chans

  abbrev before : List KvRow
  before = old.now.rows

  abbrev at : Catalog → List KvRow → Catalog
  at k rows = record k { kv = rows }

  -- in each catalog
  abbrev pub Does : Command → Applied → Type 0
  Does c answer = (k : Catalog) → k.version ≡ version → k.sessions ≡ sessions → act i c (at k before) ≡ (at k new.now.rows, answer)

  pub step_of : (c : Command) (answer : Applied) → is_reap c ≡ false → Moves i old new chans → Does c answer → Is c answer
  step_of c answer plain moves does = record {
    does = does;
    indexes = subst (λ b. SameIndexes new.now.rows (cond b [] (buried i new.now.rows before old.now.tombs)) (cond b i old.now.floor) new.now.tombs new.now.floor) (sym plain) moves.indexes;
    fires = subst (λ b. FiresJust (keys_fire b before new.now.rows) chans) (sym plain) moves.fires;
    before = moves.before;
  }

  pub set_step : (key value : List ℕ) (flags : ℕ) → new.now.rows ≡ kv_set version i key value flags before → Moves i old new chans → Is (KvSet key flags value) Yes
  unfolding act
  set_step key value flags rows moves = step_of (KvSet key flags value) Yes refl moves does
    where
      does : Does (KvSet key flags value) Yes
      does k v s = λ j. (at k ((ap (λ n. kv_set n i key value flags before) v ∙ sym rows) j), Yes)

  pub cas_step : (key value : List ℕ) (flags n : ℕ) → index_fits n (kv_at key before) ≡ true → new.now.rows ≡ kv_set version i key value flags before → Moves i old new chans → Is (KvCas key flags value n) Yes
  unfolding act kv_cas
  cas_step key value flags n fits rows moves = step_of (KvCas key flags value n) Yes refl moves does
    where
      does : Does (KvCas key flags value n) Yes
      does k v s =
          ap (λ b. yes_or_no (at k before) (cond b (Some (kv_set k.version i key value flags before)) None)) fits
          ∙ (λ j. (at k ((ap (λ m. kv_set m i key value flags before) v ∙ sym rows) j), Yes))

  pub lock_step : (key value : List ℕ) (flags session lock : ℕ) → is_some (session_at session sessions) ≡ true → Some lock ≡ acquired session (kv_at key before) → new.now.rows ≡ write_kv version i key value flags (Some session) lock before → Moves i old new chans → Is (KvLock key flags value session) Yes
  unfolding act unless kv_lock
  lock_step key value flags session lock known gets rows moves = step_of (KvLock key flags value session) Yes refl moves does
    where
      does : Does (KvLock key flags value session) Yes
      does k v s =
          ap (λ b. unless (refusal_of ((not b, UnknownSession) ∷ [])) (at k before) (yes_or_no (at k before) (kv_lock k.version i key value flags session before))) (ap (λ l. is_some (session_at session l)) s ∙ known)
          ∙ ap (yes_or_no (at k before)) (go (same_option (holder (kv_at key before)) None) (same_option (holder (kv_at key before)) (Some session)) gets)
          ∙ (λ j. (at k ((ap (λ m. write_kv m i key value flags (Some session) lock before) v ∙ sym rows) j), Yes))
        where
          next : ℕ
          next = locks (kv_at key before)

          go : (a b : Bool) → Some lock ≡ cond a (Some (next + 1)) (cond b (Some next) None)
              → cond a (Some (write_kv k.version i key value flags (Some session) (next + 1) before)) (cond b (Some (write_kv k.version i key value flags (Some session) next before)) None) ≡ Some (write_kv k.version i key value flags (Some session) lock before)
          go true b h = ap (λ o. Some (write_kv k.version i key value flags (Some session) (elim o as (λ _. ℕ) [ None ↦ lock | Some x ↦ x ]) before)) (sym h)
          go false true h = ap (λ o. Some (write_kv k.version i key value flags (Some session) (elim o as (λ _. ℕ) [ None ↦ lock | Some x ↦ x ]) before)) (sym h)
          go false false h = let clash : Some lock ≡ None = h in cc

  pub unlock_step : (key value : List ℕ) (flags session : ℕ) → same_option (holder (kv_at key before)) (Some session) ≡ true → new.now.rows ≡ write_kv version i key value flags None (locks (kv_at key before)) before → Moves i old new chans → Is (KvUnlock key flags value session) Yes
  unfolding act kv_unlock
  unlock_step key value flags session held rows moves = step_of (KvUnlock key flags value session) Yes refl moves does
    where
      does : Does (KvUnlock key flags value session) Yes
      does k v s =
          ap (λ b. yes_or_no (at k before) (cond b (Some (write_kv k.version i key value flags None (locks (kv_at key before)) before)) None)) held
          ∙ (λ j. (at k ((ap (λ m. write_kv m i key value flags None (locks (kv_at key before)) before) v ∙ sym rows) j), Yes))

  pub delete_step : (key : List ℕ) → new.now.rows ≡ kv_delete key before → Moves i old new chans → Is (KvDelete key) Yes
  unfolding act
  delete_step key rows moves = step_of (KvDelete key) Yes refl moves does
    where
      does : Does (KvDelete key) Yes
      does k v s = λ j. (at k (sym rows j), Yes)

  pub delete_cas_step : (key : List ℕ) (n : ℕ) → is_refused n (kv_at key before) ≡ false → new.now.rows ≡ kv_delete key before → Moves i old new chans → Is (KvDeleteCas key n) Yes
  unfolding act kv_delete_cas
  delete_cas_step key n fits rows moves = step_of (KvDeleteCas key n) Yes refl moves does
    where
      does : Does (KvDeleteCas key n) Yes
      does k v s = go (is_some (kv_at key before)) refl (index_fits n (kv_at key before)) fits
        where
          go : (b : Bool) → is_some (kv_at key before) ≡ b → (f : Bool) → (b && not f) ≡ false → yes_or_no (at k before) (cond (not b) (Some before) (cond f (Some (kv_delete key before)) None)) ≡ (at k new.now.rows, Yes)
          go true e true h = λ j. (at k (sym rows j), Yes)
          go true e false h = absurd (true≢false h)
          go false e f h = λ j. (at k (sym (rows ∙ absent_same key before e) j), Yes)

  pub delete_tree_step : (prefix : List ℕ) → new.now.rows ≡ kv_delete_tree prefix before → Moves i old new chans → Is (KvDeleteTree prefix) Yes
  unfolding act
  delete_tree_step prefix rows moves = step_of (KvDeleteTree prefix) Yes refl moves does
    where
      does : Does (KvDeleteTree prefix) Yes
      does k v s = λ j. (at k (sym rows j), Yes)

-- commands that change nothing
module _ (version : ℕ) (sessions : List SessionRow) (i : ℕ) (old : KvVersions) where
  abbrev Stays : Command → Applied → Type 0
  Stays c answer = KeyStep version sessions i c old old answer []

  same : (c : Command) (answer : Applied) → is_reap c ≡ false → Does version sessions i old old [] c answer → Stays c answer
  same c answer plain does = step_of version sessions i old old [] c answer plain (unmoved i old) does

  pub noop_step : Stays Noop Done
  unfolding act
  noop_step = same Noop Done refl (λ k v s. refl)

  pub cas_no : (key value : List ℕ) (flags n : ℕ) → index_fits n (kv_at key old.now.rows) ≡ false → Stays (KvCas key flags value n) No
  unfolding act kv_cas
  cas_no key value flags n fits = same (KvCas key flags value n) No refl (λ k v s. ap (λ b. yes_or_no (record k { kv = old.now.rows }) (cond b (Some (kv_set k.version i key value flags old.now.rows)) None)) fits)

  pub lock_refused : (key value : List ℕ) (flags session : ℕ) → is_some (session_at session sessions) ≡ false → Stays (KvLock key flags value session) (Refused UnknownSession)
  unfolding act unless
  lock_refused key value flags session unknown = same (KvLock key flags value session) (Refused UnknownSession) refl does
    where
      does : Does version sessions i old old [] (KvLock key flags value session) (Refused UnknownSession)
      does k v s = ap (λ b. unless (refusal_of ((not b, UnknownSession) ∷ [])) (record k { kv = old.now.rows }) (yes_or_no (record k { kv = old.now.rows }) (kv_lock k.version i key value flags session old.now.rows))) (ap (λ l. is_some (session_at session l)) s ∙ unknown)

  pub lock_no : (key value : List ℕ) (flags session : ℕ) → is_some (session_at session sessions) ≡ true → None ≡ acquired session (kv_at key old.now.rows) → Stays (KvLock key flags value session) No
  unfolding act unless kv_lock
  lock_no key value flags session known gets = same (KvLock key flags value session) No refl does
    where
      does : Does version sessions i old old [] (KvLock key flags value session) No
      does k v s =
          ap (λ b. unless (refusal_of ((not b, UnknownSession) ∷ [])) (record k { kv = old.now.rows }) (yes_or_no (record k { kv = old.now.rows }) (kv_lock k.version i key value flags session old.now.rows))) (ap (λ l. is_some (session_at session l)) s ∙ known)
          ∙ ap (yes_or_no (record k { kv = old.now.rows })) (go (same_option (holder (kv_at key old.now.rows)) None) (same_option (holder (kv_at key old.now.rows)) (Some session)) gets)
        where
          next : ℕ
          next = locks (kv_at key old.now.rows)

          go : (a b : Bool) → None ≡ cond a (Some (next + 1)) (cond b (Some next) None)
              → cond a (Some (write_kv k.version i key value flags (Some session) (next + 1) old.now.rows)) (cond b (Some (write_kv k.version i key value flags (Some session) next old.now.rows)) None) ≡ None
          go true b h = let clash : None ≡ Some (next + 1) = h in cc
          go false true h = let clash : None ≡ Some next = h in cc
          go false false h = refl

  pub unlock_no : (key value : List ℕ) (flags session : ℕ) → same_option (holder (kv_at key old.now.rows)) (Some session) ≡ false → Stays (KvUnlock key flags value session) No
  unfolding act kv_unlock
  unlock_no key value flags session held = same (KvUnlock key flags value session) No refl (λ k v s. ap (λ b. yes_or_no (record k { kv = old.now.rows }) (cond b (Some (write_kv k.version i key value flags None (locks (kv_at key old.now.rows)) old.now.rows)) None)) held)

  pub delete_cas_no : (key : List ℕ) (n : ℕ) → is_refused n (kv_at key old.now.rows) ≡ true → Stays (KvDeleteCas key n) No
  unfolding act kv_delete_cas
  delete_cas_no key n refused = same (KvDeleteCas key n) No refl does
    where
      does : Does version sessions i old old [] (KvDeleteCas key n) No
      does k v s = go (is_some (kv_at key old.now.rows)) (index_fits n (kv_at key old.now.rows)) refused
        where
          go : (b f : Bool) → (b && not f) ≡ true → yes_or_no (record k { kv = old.now.rows }) (cond (not b) (Some old.now.rows) (cond f (Some (kv_delete key old.now.rows)) None)) ≡ (record k { kv = old.now.rows }, No)
          go true true h = absurd (false≢true h)
          go true false h = refl
          go false f h = absurd (false≢true h)

-- a reap
pub reap_step : (version : ℕ) (sessions : List SessionRow) (i : ℕ) (old new : KvVersions) → Reaps i old new → KeyStep version sessions i Reap old new Done (Reaped ∷ [])
unfolding act
reap_step version sessions i old new reaps = record {
  does = λ k v s j. (record k { kv = sym reaps.rows j }, Done);
  indexes = same_by_tombs new.now.rows i new.now.floor [] new.now.tombs reaps.tombs reaps.floor;
  fires = subst (λ rows. FiresJust (keys_fire true old.now.rows rows) (Reaped ∷ [])) (sym reaps.rows) (fires_one (keys_fire true old.now.rows old.now.rows) Reaped refl (only_reaped old.now.rows));
  before = reaps.before;
}

-- a step that does not ask whether a session is there
pub told : {E : Type 0} (known : Bool) (version version' i i' : ℕ) (c c' : Command) (old new : KvVersions) (r : Result (Applied × List Chan) E) → version' ≡ version → i' ≡ i → c' ≡ c
    → IfOk r (λ d. (sessions : List SessionRow) → KeyStep version' sessions i' c' old new d.0 d.1) → IfOk r (λ d. (sessions : List SessionRow) → Tells known c sessions → KeyStep version sessions i c old new d.0 d.1)
told known version version' i i' c c' old new r same at is =
    IfOk-weaker r (λ d. (sessions : List SessionRow) → KeyStep version' sessions i' c' old new d.0 d.1) (λ d. (sessions : List SessionRow) → Tells known c sessions → KeyStep version sessions i c old new d.0 d.1)
    (λ d step sessions tells. subst (λ v. KeyStep v sessions i c old new d.0 d.1) same (subst (λ n. KeyStep version' sessions n c old new d.0 d.1) at (subst (λ x. KeyStep version' sessions i' x old new d.0 d.1) is (step sessions))))

pub told_plain : {E : Type 0} (known : Bool) (version i : ℕ) (c c' : Command) (old new : KvVersions) (r : Result (Applied × List Chan) E) → c' ≡ c
    → IfOk r (λ d. PlainStep i c' old new d.0 d.1) → IfOk r (λ d. (sessions : List SessionRow) → Tells known c sessions → KeyStep version sessions i c old new d.0 d.1)
told_plain known version i c c' old new r is =
    IfOk-weaker r (λ d. PlainStep i c' old new d.0 d.1) (λ d. (sessions : List SessionRow) → Tells known c sessions → KeyStep version sessions i c old new d.0 d.1)
    (λ d step sessions tells. subst (λ x. KeyStep version sessions i x old new d.0 d.1) is (step version sessions))
