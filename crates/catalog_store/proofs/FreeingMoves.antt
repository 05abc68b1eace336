-- What moves where ended sessions free their keys.
use Rattle.std.proofs.Common.{◌≡◌, ◌≢◌, ℕ, ◌≤◌, Bool, true, false, not, cond, ◌&&◌, ◌||◌, List, [], ◌∷◌, refl, sym, ◌∙◌, ap, Option, Some, None, is_some, map, max, arith, Contains, suc}
use Rattle.std.specs.List.{AllByRecursion, cons_option}
use Rattle.std.specs.declared.cmp.Ordering.TheVariants.{Less, Equal}
use Rattle.std.specs.Ordering.{is_eq}
use Rattle.std.proofs.lemmas.Bool.{false≢true}
use Rattle.std.proofs.lemmas.Cmp.{nat_list_cmp_total, tied_itself}
use Rattle.std.proofs.lemmas.Map.Lookups.{exact_bytes}
use Rattle.cat_model.specs.Keys.{text_cmp, same_text, has_prefix}
use Rattle.cat_model.specs.Tables.{Ascends, same_found}
use Rattle.cat_model.specs.Same.{same_kv}
use Rattle.cat_model.specs.Catalog.{kv_at, kv_key}
use Rattle.cat_model.specs.KvIndexes.{row_index, buried, last_tomb, last_modify, key_index, prefix_index}
use Rattle.cat_model.specs.Machine.{freed_row, freed_key, ended_holder}
use Rattle.cat_model.specs.declared.fired.Freed.{Freed}
use Rattle.cat_model.specs.declared.query.Chan.{Chan}
use Rattle.cat_model.specs.declared.query.Chan.TheVariants.{Key}
use Rattle.cat_model.specs.declared.row.KvRow.{KvRow}
use Rattle.cat_model.specs.declared.row.SessionRow.{SessionRow}
use Rattle.cat_model.specs.declared.row.Behavior.{Behavior}
use Rattle.cat_model.specs.declared.row.Behavior.TheVariants.{Release, Delete}
use Rattle.cat_model.proofs.SameLemmas.{kv_decides, text_decides}
use Rattle.cat_model.proofs.TableLemmas.{All-weaker, eq_is, Ascends-filter_map}
use Rattle.cat_model.proofs.Lookups.{row_at-filter_map, row_then}
use Rattle.cat_model.proofs.InOrder.{own_rows}
use Rattle.kv_table.specs.States.{KvVersions}
use Rattle.catalog_store.specs.declared.key_commands.freed_keys.Holding.{Holding}
use Rattle.catalog_store.specs.Firing.{Once, keys_fire}
use Rattle.catalog_store.specs.Steps.{Moves}
use Rattle.catalog_store.specs.Freeing.{freed_rows, freed_keys, freed_holding, holding_key, holding_at, holdings, row_holding, found_holding, left, left_of, deletes, any_deleted, any_released, Frees}
use Rattle.catalog_store.proofs.Tombs.{last_modify-max, modify_of_row}
use Rattle.catalog_store.proofs.Fires.{key_quiet, keys_only}
use Rattle.catalog_store.proofs.FreeingTables.{same_table}
use Rattle.catalog_store.proofs.FreeingNotes.{keeps_key, holding_found, holdings_ascend}

-- 1. The keys with their delays, and their channels.
pub freed_are : (gone : List SessionRow) (rows : List KvRow) → map (λ f. (f.key, f.delay_ms)) (map freed_holding (holdings gone rows)) ≡ freed_keys gone rows
freed_are gone [] = refl
freed_are gone (r ∷ rows) = go (ended_holder gone r.session) (freed_are gone rows)
  where
    go : (o : Option SessionRow) → map (λ f. (f.key, f.delay_ms)) (map freed_holding (holdings gone rows)) ≡ freed_keys gone rows
        → map (λ f. (f.key, f.delay_ms)) (map freed_holding (cons_option (row_holding r o) (holdings gone rows))) ≡ cons_option (freed_key r o) (freed_keys gone rows)
    go None rest = rest
    go (Some s) rest = ap (λ l. (r.key, s.delay_ms) ∷ l) rest

abbrev pub freed_chans : List Holding → List Chan
freed_chans hs = map (λ (f : Freed). Key f.key) (map freed_holding hs)

contains_more : (chans : List Chan) (c d : Chan) → Contains chans c → Contains (d ∷ chans) c
contains_more chans c d (k, low, is) = (suc k, omega (arith, low), is)

-- a key that is held has its channel
chan_found : (q : List ℕ) (h : Holding) (hs : List Holding) → holding_at q hs ≡ Some h → Contains (freed_chans hs) (Key q)
chan_found q h [] e = let clash : None ≡ Some h = e in cc
chan_found q h (x ∷ hs) e = go (is_eq (text_cmp q x.key)) refl e (chan_found q h hs)
  where
    go : (b : Bool) → is_eq (text_cmp q x.key) ≡ b → cond b (Some x) (holding_at q hs) ≡ Some h → (holding_at q hs ≡ Some h → Contains (freed_chans hs) (Key q)) → Contains (freed_chans (x ∷ hs)) (Key q)
    go true t e rest = (0, omega arith, ap (λ k. Key k) (sym (exact_bytes q x.key (eq_is text_cmp kv_key nat_list_cmp_total _ t))))
    go false t e rest = contains_more (freed_chans hs) (Key q) (Key x.key) (rest e)

others : (key : List ℕ) (hs : List Holding) → AllByRecursion (λ s. text_cmp key s.key ≡ Less) hs → AllByRecursion (λ d. d ≢ Key key) (freed_chans hs)
others key [] all = tt
others key (x ∷ hs) all = ((λ e. let clash : Less ≡ Equal = tie (ap name e) in cc), others key hs all.1)
  where
    name : Chan → List ℕ
    name (Key q) = q
    name c = key

    tie : x.key ≡ key → Less ≡ Equal
    tie e = sym all.0 ∙ ap (text_cmp key) e ∙ tied_itself nat_list_cmp_total key

chans_once : (hs : List Holding) → Ascends text_cmp holding_key hs → Once (freed_chans hs)
chans_once [] asc = tt
chans_once (x ∷ hs) asc = (others x.key hs asc.0, chans_once hs asc.1)

-- 2. Rows before and after.
abbrev is_deleted : Option Holding → Bool
is_deleted None = false
is_deleted (Some h) = deletes h.behavior

module _ (gone : List SessionRow) (i : ℕ) (after : List KvRow) where
  abbrev held : KvRow → Option Holding
  held r = row_holding r (ended_holder gone r.session)

  -- the row's key has after what its session left of it
  abbrev Left : KvRow → Type 0
  Left r = kv_at r.key after ≡ left_of i (held r) (Some r)

  all_chans : (rows : List KvRow) (P : Chan → Type 0) → AllByRecursion (λ r. (h : Holding) → held r ≡ Some h → P (Key h.key)) rows → AllByRecursion P (freed_chans (holdings gone rows))
  all_chans [] P all = tt
  all_chans (r ∷ rows) P all = go (held r) refl (all_chans rows P all.1)
    where
      go : (o : Option Holding) → held r ≡ o → AllByRecursion P (freed_chans (holdings gone rows)) → AllByRecursion P (freed_chans (cons_option o (holdings gone rows)))
      go None e rest = rest
      go (Some h) e rest = (all.0 h e, rest)

  -- the tombstones of the rows that are gone
  buried_last : (test : List ℕ → Bool) (floor : ℕ) (tombs : List (List ℕ × ℕ)) (rows : List KvRow) → AllByRecursion (λ r. is_some (kv_at r.key after) ≡ not (is_deleted (held r))) rows
      → last_tomb test floor (buried i after rows tombs) ≡ cond (any_deleted test (holdings gone rows)) (max i (last_tomb test floor tombs)) (last_tomb test floor tombs)
  buried_last test floor tombs [] all = refl
  buried_last test floor tombs (r ∷ rows) all =
      ap (λ b. last_tomb test floor (cond b (buried i after rows tombs) ((r.key, i) ∷ buried i after rows tombs))) all.0 ∙ go (held r) refl (buried_last test floor tombs rows all.1)
    where
      was : ℕ
      was = last_tomb test floor tombs

      rest : ℕ
      rest = last_tomb test floor (buried i after rows tombs)

      more : Bool
      more = any_deleted test (holdings gone rows)

      one : (v t : Bool) → rest ≡ cond more (max i was) was → cond (not v) rest (cond t (max i rest) rest) ≡ cond ((t && v) || more) (max i was) was
      one true true e = on more e
        where
          on : (m : Bool) → rest ≡ cond m (max i was) was → max i rest ≡ max i was
          on true e = omega (arith, e)
          on false e = ap (max i) e
      one true false e = e
      one false true e = e
      one false false e = e

      inside : (b : Bool) → last_tomb test floor (cond b (buried i after rows tombs) ((r.key, i) ∷ buried i after rows tombs)) ≡ cond b rest (cond (test r.key) (max i rest) rest)
      inside true = refl
      inside false = refl

      go : (o : Option Holding) → held r ≡ o → rest ≡ cond more (max i was) was
          → last_tomb test floor (cond (not (is_deleted o)) (buried i after rows tombs) ((r.key, i) ∷ buried i after rows tombs)) ≡ cond (any_deleted test (cons_option o (holdings gone rows))) (max i was) was
      go None e ih = ih
      go (Some h) e ih =
          inside (not (deletes h.behavior)) ∙ ap (λ k. cond (not (deletes h.behavior)) rest (cond (test k) (max i rest) rest)) (sym (keeps_key gone r h e)) ∙ one (deletes h.behavior) (test h.key) ih

  -- a released key that passes the test has a row of the position
  pub record Witness (test : List ℕ → Bool) : Type 0 where
    pub row : KvRow
    pub passes : test row.key ≡ true
    pub there : kv_at row.key after ≡ Some (record row { session = None; modify = i })

  witness : (test : List ℕ → Bool) (rows : List KvRow) → AllByRecursion Left rows → any_released test (holdings gone rows) ≡ true → Witness test
  witness test [] all e = absurd (false≢true e)
  witness test (r ∷ rows) all e = go (held r) refl e all.0 (witness test rows all.1)
    where
      more : Bool
      more = any_released test (holdings gone rows)

      by : (h : Holding) (v : Behavior) → held r ≡ Some h → h.behavior ≡ v → (t : Bool) → test h.key ≡ t → ((t && not (deletes v)) || more) ≡ true → Left r → (more ≡ true → Witness test) → Witness test
      by h Delete held_is is true t e at rest = rest e
      by h Delete held_is is false t e at rest = rest e
      by h Release held_is is false t e at rest = rest e
      by h Release held_is is true t e at rest = record {
        row = r;
        passes = ap test (sym (keeps_key gone r h held_is)) ∙ t;
        there = at ∙ ap (λ o. left_of i o (Some r)) held_is ∙ ap (λ v. left i v (Some r)) is;
      }

      go : (o : Option Holding) → held r ≡ o → any_released test (cons_option o (holdings gone rows)) ≡ true → Left r → (more ≡ true → Witness test) → Witness test
      go None held_is e at rest = rest e
      go (Some h) held_is e at rest = by h h.behavior held_is refl (test h.key) refl e at rest

-- 3. The table before and after.
module _ (gone : List SessionRow) (i : ℕ) (old new : KvVersions) (asc : Ascends text_cmp kv_key old.now.rows) (frees : Frees (holdings gone old.now.rows) i old new) where
  abbrev before : List KvRow
  before = old.now.rows

  abbrev after : List KvRow
  after = new.now.rows

  abbrev hs : List Holding
  hs = holdings gone before

  abbrev freed_by : KvRow → Option KvRow
  freed_by r = freed_row i r (ended_holder gone r.session)

  at_key : (q : List ℕ) → kv_at q after ≡ left_of i (found_holding gone (kv_at q before)) (kv_at q before)
  at_key q = frees.rows q ∙ ap (λ o. left_of i o (kv_at q before)) (holding_found gone before asc q)

  left_is : (r : KvRow) (o : Option SessionRow) → left_of i (row_holding r o) (Some r) ≡ freed_row i r o
  left_is r None = refl
  left_is r (Some s) = by s.behavior refl
    where
      by : (v : Behavior) → s.behavior ≡ v → left i s.behavior (Some r) ≡ freed_row i r (Some s)
      by Release e = ap (λ v. left i v (Some r)) e ∙ sym (ap (λ v. freed_row i r (Some (record s { behavior = v }))) e)
      by Delete e = ap (λ v. left i v (Some r)) e ∙ sym (ap (λ v. freed_row i r (Some (record s { behavior = v }))) e)

  same_name : (r s : KvRow) (o : Option SessionRow) → freed_row i r o ≡ Some s → s.key ≡ r.key
  same_name r s None e = ap (λ o. elim o as (λ _. List ℕ) [ None ↦ r.key | Some x ↦ x.key ]) (sym e)
  same_name r s (Some t) e = by t.behavior (left_is r (Some t) ∙ e)
    where
      by : (v : Behavior) → left i v (Some r) ≡ Some s → s.key ≡ r.key
      by Release e = ap (λ o. elim o as (λ _. List ℕ) [ None ↦ r.key | Some x ↦ x.key ]) (sym e)
      by Delete e = let clash : None ≡ Some s = e in cc

  pub rows_are : after ≡ freed_rows i gone before
  rows_are =
      same_table text_cmp kv_key nat_list_cmp_total after (freed_rows i gone before) (frees.order asc)
      (Ascends-filter_map text_cmp kv_key nat_list_cmp_total freed_by (λ r s e. same_name r s (ended_holder gone r.session) e) before asc)
      (λ q. at_key q ∙ go (kv_at q before) ∙ sym (row_at-filter_map text_cmp kv_key nat_list_cmp_total exact_bytes freed_by (λ r s e. same_name r s (ended_holder gone r.session) e) q before asc))
    where
      go : (o : Option KvRow) → left_of i (found_holding gone o) o ≡ row_then text_cmp kv_key nat_list_cmp_total exact_bytes freed_by o
      go None = refl
      go (Some r) = left_is r (ended_holder gone r.session)

  own : AllByRecursion (λ r. kv_at r.key before ≡ Some r) before
  own = own_rows text_cmp kv_key nat_list_cmp_total exact_bytes before asc

  lefts : AllByRecursion (Left gone i after) before
  lefts = All-weaker (λ r. kv_at r.key before ≡ Some r) (Left gone i after) (λ r e. at_key r.key ∙ ap (λ o. left_of i (found_holding gone o) o) e) before own

  stays : AllByRecursion (λ r. is_some (kv_at r.key after) ≡ not (is_deleted (held gone i after r))) before
  stays = All-weaker (Left gone i after) (λ r. is_some (kv_at r.key after) ≡ not (is_deleted (held gone i after r))) (λ r e. ap is_some e ∙ go r (held gone i after r)) before lefts
    where
      go : (r : KvRow) (o : Option Holding) → is_some (left_of i o (Some r)) ≡ not (is_deleted o)
      go r None = refl
      go r (Some h) = by h.behavior
        where
          by : (v : Behavior) → is_some (left i v (Some r)) ≡ not (deletes v)
          by Release = refl
          by Delete = refl

  -- which channels fire
  differs : (r : KvRow) (id : ℕ) (v : Behavior) → r.session ≡ Some id → not (same_found same_kv (Some r) (left i v (Some r))) ≡ true
  differs r id Delete e = refl
  differs r id Release e = go (same_kv r (record r { session = None; modify = i })) refl
    where
      go : (b : Bool) → same_kv r (record r { session = None; modify = i }) ≡ b → not b ≡ true
      go false t = refl
      go true t = let clash : Some id ≡ None = sym e ∙ ap (λ x. x.session) ((kv_decides r (record r { session = None; modify = i })).0 t) in cc

  each_fires : AllByRecursion (λ r. (h : Holding) → held gone i after r ≡ Some h → keys_fire false before after (Key h.key) ≡ true) before
  each_fires = All-weaker (λ r. kv_at r.key before ≡ Some r) (λ r. (h : Holding) → held gone i after r ≡ Some h → keys_fire false before after (Key h.key) ≡ true) (λ r e h held_is. fires r e h held_is) before own
    where
      fires : (r : KvRow) → kv_at r.key before ≡ Some r → (h : Holding) → held gone i after r ≡ Some h → keys_fire false before after (Key h.key) ≡ true
      fires r e h held_is =
          ap (λ k. not (same_found same_kv (kv_at k before) (kv_at k after))) (keeps_key gone r h held_is) ∙ ap (λ o. not (same_found same_kv o (kv_at r.key after))) e
          ∙ ap (λ o. not (same_found same_kv (Some r) o)) (at_key r.key ∙ ap (λ o. left_of i (found_holding gone o) o) e ∙ ap (λ o. left_of i o (Some r)) held_is) ∙ go r.session refl
        where
          go : (o : Option ℕ) → r.session ≡ o → not (same_found same_kv (Some r) (left i h.behavior (Some r))) ≡ true
          go (Some id) s = differs r id h.behavior s
          go None s = let clash : None ≡ Some h = sym (ap (λ o. row_holding r (ended_holder gone o)) s) ∙ held_is in cc

  fires_key : (q : List ℕ) → not (same_found same_kv (kv_at q before) (kv_at q after)) ≡ true → Contains (freed_chans hs) (Key q)
  fires_key q e = go (holding_at q hs) refl
    where
      go : (o : Option Holding) → holding_at q hs ≡ o → Contains (freed_chans hs) (Key q)
      go (Some h) found = chan_found q h hs found
      go None found = absurd (false≢true (sym (key_quiet before after q (frees.rows q ∙ ap (λ o. left_of i o (kv_at q before)) found)) ∙ e))

  -- the tombstones
  abbrev dead : List (List ℕ × ℕ)
  dead = buried i after before old.now.tombs

  dead_last : (test : List ℕ → Bool) (floor : ℕ) → last_tomb test floor dead ≡ cond (any_deleted test hs) (max i (last_tomb test floor old.now.tombs)) (last_tomb test floor old.now.tombs)
  dead_last test floor = buried_last gone i after test floor old.now.tombs before stays

  -- where no released key passes, the tombstones count the same
  same_last : (test : List ℕ → Bool) → any_released test hs ≡ false → last_tomb test new.now.floor new.now.tombs ≡ last_tomb test old.now.floor dead
  same_last test none = frees.tombs test new.now.floor none ∙ ap (λ f. cond (any_deleted test hs) (max i (last_tomb test f old.now.tombs)) (last_tomb test f old.now.tombs)) frees.floor ∙ sym (dead_last test old.now.floor)

  -- elsewhere they do above the position
  dead_under : (test : List ℕ → Bool) → max i (last_tomb test new.now.floor new.now.tombs) ≡ max i (last_tomb test old.now.floor dead)
  dead_under test =
      frees.under test new.now.floor ∙ ap (λ f. max i (last_tomb test f old.now.tombs)) frees.floor ∙ sym (ap (max i) (dead_last test old.now.floor) ∙ hidden (any_deleted test hs) (last_tomb test old.now.floor old.now.tombs))
    where
      hidden : (c : Bool) (x : ℕ) → max i (cond c (max i x) x) ≡ max i x
      hidden true x = omega arith
      hidden false x = refl

  of_key : (q : List ℕ) (o : Option KvRow) → kv_at q after ≡ o → key_index q after new.now.tombs new.now.floor ≡ key_index q after dead old.now.floor
  of_key q (Some r) e = ap (λ o. row_index o (last_tomb (λ k. same_text k q) new.now.floor new.now.tombs)) e ∙ sym (ap (λ o. row_index o (last_tomb (λ k. same_text k q) old.now.floor dead)) e)
  of_key q None e = ap (row_index (kv_at q after)) (same_last (λ k. same_text k q) (no_one (any_released (λ k. same_text k q) hs) refl))
    where
      no_one : (b : Bool) → any_released (λ k. same_text k q) hs ≡ b → any_released (λ k. same_text k q) hs ≡ false
      no_one false t = t
      no_one true t =
          let w : Witness gone i after (λ k. same_text k q) = witness gone i after (λ k. same_text k q) before lefts t in
          let clash : None ≡ Some (record w.row { session = None; modify = i }) = sym e ∙ ap (λ k. kv_at k after) (sym ((text_decides w.row.key q).0 w.passes)) ∙ w.there in
          cc

  of_prefix : (p : List ℕ) (b : Bool) → any_released (has_prefix p) hs ≡ b → prefix_index p after new.now.tombs new.now.floor ≡ prefix_index p after dead old.now.floor
  of_prefix p false t = ap (λ n. last_modify (has_prefix p) n after) (same_last (has_prefix p) t)
  of_prefix p true t =
      let w : Witness gone i after (has_prefix p) = witness gone i after (has_prefix p) before lefts t in
      let low : i ≤ last_modify (has_prefix p) 0 after = modify_of_row (has_prefix p) 0 after w.row.key (record w.row { session = None; modify = i }) w.passes w.there in
      omega (arith, low, last_modify-max (has_prefix p) (last_tomb (has_prefix p) new.now.floor new.now.tombs) after, last_modify-max (has_prefix p) (last_tomb (has_prefix p) old.now.floor dead) after, dead_under (has_prefix p))

  pub freeing_moves : Moves i old new (freed_chans hs)
  freeing_moves = record {
    indexes = record { keys = λ q. of_key q (kv_at q after) refl; prefixes = λ p. of_prefix p (any_released (has_prefix p) hs) refl };
    fires = record {
      every = keys_only before after (λ chan. Contains (freed_chans hs) chan) fires_key;
      just = all_chans gone i after before (λ chan. keys_fire false before after chan ≡ true) each_fires;
      once = chans_once hs (holdings_ascend gone before asc);
    };
    before = frees.before;
  }
