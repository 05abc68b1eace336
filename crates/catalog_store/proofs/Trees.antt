-- What a removal of all keys under a prefix moves.
use Rattle.std.proofs.Common.{◌≡◌, ◌≢◌, ℕ, Bool, true, false, not, cond, ◌||◌, List, [], ◌∷◌, ◌++◌, refl, sym, ◌∙◌, ap, Option, Some, None, filter, map, is_some, max, arith, Contains, suc}
use Rattle.std.specs.List.{AllByRecursion, list_any}
use Rattle.std.specs.Ordering.{is_eq}
use Rattle.std.specs.declared.cmp.Ordering.TheVariants.{Less, Equal}
use Rattle.std.proofs.lemmas.Bool.{true≢false, false≢true}
use Rattle.std.proofs.lemmas.Cmp.{nat_list_cmp_total, tied_itself}
use Rattle.std.proofs.lemmas.Map.Lookups.{exact_bytes}
use Rattle.cat_model.specs.Keys.{text_cmp, has_prefix}
use Rattle.cat_model.specs.Catalog.{kv_at, kv_key}
use Rattle.cat_model.specs.Tables.{Ascends, same_found}
use Rattle.cat_model.specs.Same.{same_kv}
use Rattle.cat_model.specs.Kv.{kv_delete, kv_delete_tree}
use Rattle.cat_model.specs.KvIndexes.{buried, last_tomb}
use Rattle.cat_model.specs.declared.row.KvRow.{KvRow}
use Rattle.cat_model.specs.declared.query.Chan.{Chan}
use Rattle.cat_model.specs.declared.query.Chan.TheVariants.{Key}
use Rattle.cat_model.proofs.TableLemmas.{eq_is, All-weaker}
use Rattle.kv_table.specs.States.{KvVersions, SameTombs}
use Rattle.catalog_store.specs.Firing.{Once, keys_fire}
use Rattle.catalog_store.specs.Steps.{Moves, Buries, BuriesEach, without_each, graves}
use Rattle.catalog_store.proofs.Tombs.{same_by_tombs, own_row, buried_gone}
use Rattle.catalog_store.proofs.Fires.{key_quiet, keys_only}
use Rattle.catalog_store.proofs.Removals.{found_gone, found_there, all_gone}

-- 1. One key more.
without_more : (keys : List (List ℕ)) (key : List ℕ) (rows : List KvRow) → without_each (keys ++ key ∷ []) rows ≡ kv_delete key (without_each keys rows)
without_more [] key rows = refl
without_more (k ∷ keys) key rows = without_more keys key (kv_delete k rows)

graves_more : (i : ℕ) (keys : List (List ℕ)) (key : List ℕ) (tombs : List (List ℕ × ℕ)) → SameTombs (graves i (keys ++ key ∷ []) tombs) ((key, i) ∷ graves i keys tombs)
graves_more i [] key tombs test floor = refl
graves_more i (k ∷ keys) key tombs test floor = go (test k) (test key) (graves_more i keys key tombs test floor)
  where
    rest : ℕ
    rest = last_tomb test floor (graves i keys tombs)

    end : ℕ
    end = last_tomb test floor (graves i (keys ++ key ∷ []) tombs)

    go : (a b : Bool) → end ≡ cond b (max i rest) rest → cond a (max i end) end ≡ cond b (max i (cond a (max i rest) rest)) (cond a (max i rest) rest)
    go true true e = ap (max i) e
    go true false e = ap (max i) e
    go false true e = e
    go false false e = e

pub buries_none : (i : ℕ) (old : KvVersions) → BuriesEach [] i old old
buries_none i old = record { rows = refl; tombs = λ test floor. refl; floor = refl; before = refl }

pub buries_more : (keys : List (List ℕ)) (key : List ℕ) (i : ℕ) (old mid new : KvVersions) → BuriesEach keys i old mid → Buries key i mid new → BuriesEach (keys ++ key ∷ []) i old new
buries_more keys key i old mid new each one = record {
  rows = one.rows ∙ ap (kv_delete key) each.rows ∙ sym (without_more keys key old.now.rows);
  tombs = λ test floor. graves_more i keys key old.now.tombs test floor ∙ ap (λ n. cond (test key) (max i n) n) (each.tombs test floor) ∙ one.tombs test floor;
  floor = one.floor ∙ each.floor;
  before = one.before ∙ each.before;
}

-- 2. The rows without all of these keys.
stands : List (List ℕ) → List ℕ → Bool
stands keys q = list_any (λ k. is_eq (text_cmp k q)) keys

filter_filter : (p s : KvRow → Bool) (rows : List KvRow) → filter (λ r. not (s r)) (filter (λ r. not (p r)) rows) ≡ filter (λ r. not (p r || s r)) rows
filter_filter p s [] = refl
filter_filter p s (r ∷ rows) = go (p r) (s r) refl (filter_filter p s rows)
  where
    rest : List KvRow
    rest = filter (λ x. not (p x)) rows

    both : List KvRow
    both = filter (λ x. not (p x || s x)) rows

    go : (a b : Bool) → s r ≡ b → filter (λ x. not (s x)) rest ≡ both → filter (λ x. not (s x)) (cond (not a) (r ∷ rest) rest) ≡ cond (not (a || b)) (r ∷ both) both
    go true b t e = e
    go false true t e = ap (λ c. cond (not c) (r ∷ filter (λ x. not (s x)) rest) (filter (λ x. not (s x)) rest)) t ∙ e
    go false false t e = ap (λ c. cond (not c) (r ∷ filter (λ x. not (s x)) rest) (filter (λ x. not (s x)) rest)) t ∙ ap (λ l. r ∷ l) e

all_rows : (rows : List KvRow) → filter (λ (r : KvRow). not false) rows ≡ rows
all_rows [] = refl
all_rows (r ∷ rows) = ap (λ l. r ∷ l) (all_rows rows)

without_all : (keys : List (List ℕ)) (rows : List KvRow) → without_each keys rows ≡ filter (λ r. not (stands keys r.key)) rows
unfolding stands kv_delete
without_all [] rows = sym (all_rows rows)
without_all (k ∷ keys) rows = without_all keys (kv_delete k rows) ∙ filter_filter (λ r. is_eq (text_cmp k r.key)) (λ r. list_any (λ q. is_eq (text_cmp q r.key)) keys) rows

same_filter : (p s : KvRow → Bool) (rows : List KvRow) → AllByRecursion (λ r. p r ≡ s r) rows → filter (λ r. not (p r)) rows ≡ filter (λ r. not (s r)) rows
same_filter p s [] h = refl
same_filter p s (r ∷ rows) h = (λ j. cond (not (h.0 j)) (r ∷ same_filter p s rows h.1 j) (same_filter p s rows h.1 j))

-- 3. The keys under the prefix.
module _ (gone : List ℕ → Bool) where
  abbrev pub keys_of : List KvRow → List (List ℕ)
  keys_of rows = map kv_key (filter (λ r. gone r.key) rows)

  all_pass : (rows : List KvRow) → AllByRecursion (λ k. gone k ≡ true) (keys_of rows)
  all_pass [] = tt
  all_pass (r ∷ rows) = go (gone r.key) refl (all_pass rows)
    where
      go : (b : Bool) → gone r.key ≡ b → AllByRecursion (λ k. gone k ≡ true) (keys_of rows) → AllByRecursion (λ k. gone k ≡ true) (map kv_key (cond b (r ∷ filter (λ x. gone x.key) rows) (filter (λ x. gone x.key) rows)))
      go true e h = (e, h)
      go false e h = h

  not_there : (keys : List (List ℕ)) (q : List ℕ) → AllByRecursion (λ k. gone k ≡ true) keys → gone q ≡ false → stands keys q ≡ false
  unfolding stands
  not_there [] q h e = refl
  not_there (k ∷ keys) q h e = go (is_eq (text_cmp k q)) refl (not_there keys q h.1 e)
    where
      go : (b : Bool) → is_eq (text_cmp k q) ≡ b → list_any (λ x. is_eq (text_cmp x q)) keys ≡ false → (b || list_any (λ x. is_eq (text_cmp x q)) keys) ≡ false
      go true t rest = absurd (true≢false (sym h.0 ∙ ap gone (exact_bytes k q (eq_is text_cmp kv_key nat_list_cmp_total _ t)) ∙ e))
      go false t rest = rest

  all_there : (rows : List KvRow) → AllByRecursion (λ r. gone r.key ≡ true → stands (keys_of rows) r.key ≡ true) rows
  unfolding stands
  all_there [] = tt
  all_there (x ∷ rows) = (λ e. first (gone x.key) e, All-weaker (λ r. gone r.key ≡ true → stands (keys_of rows) r.key ≡ true) (λ r. gone r.key ≡ true → stands (keys_of (x ∷ rows)) r.key ≡ true) (λ r h e. behind r (gone x.key) (is_eq (text_cmp x.key r.key)) (h e)) rows (all_there rows))
    where
      rest : List KvRow
      rest = filter (λ r. gone r.key) rows

      first : (b : Bool) → b ≡ true → list_any (λ k. is_eq (text_cmp k x.key)) (map kv_key (cond b (x ∷ rest) rest)) ≡ true
      first true e = ap (λ o. is_eq o || list_any (λ k. is_eq (text_cmp k x.key)) (map kv_key rest)) (tied_itself nat_list_cmp_total x.key)
      first false e = absurd (false≢true e)

      or_right : (a b : Bool) → b ≡ true → (a || b) ≡ true
      or_right true b e = refl
      or_right false b e = e

      behind : (r : KvRow) (b c : Bool) → list_any (λ k. is_eq (text_cmp k r.key)) (map kv_key rest) ≡ true → list_any (λ k. is_eq (text_cmp k r.key)) (map kv_key (cond b (x ∷ rest) rest)) ≡ true
      behind r true c e = or_right (is_eq (text_cmp x.key r.key)) (list_any (λ k. is_eq (text_cmp k r.key)) (map kv_key rest)) e
      behind r false c e = e

  agree : (rows : List KvRow) → AllByRecursion (λ r. stands (keys_of rows) r.key ≡ gone r.key) rows
  agree rows = All-weaker (λ r. gone r.key ≡ true → stands (keys_of rows) r.key ≡ true) (λ r. stands (keys_of rows) r.key ≡ gone r.key) (λ r h. go r (gone r.key) refl h) rows (all_there rows)
    where
      go : (r : KvRow) (b : Bool) → gone r.key ≡ b → (gone r.key ≡ true → stands (keys_of rows) r.key ≡ true) → stands (keys_of rows) r.key ≡ gone r.key
      go r true e h = h e ∙ sym e
      go r false e h = not_there (keys_of rows) r.key (all_pass rows) e ∙ sym e

  pub without_keys : (rows : List KvRow) → without_each (keys_of rows) rows ≡ filter (λ r. not (gone r.key)) rows
  without_keys rows = without_all (keys_of rows) rows ∙ same_filter (λ r. stands (keys_of rows) r.key) (λ r. gone r.key) rows (agree rows)

  same_graves : (i : ℕ) (rows : List KvRow) (tombs : List (List ℕ × ℕ)) → map {B = List ℕ × ℕ} (λ r. (r.key, i)) rows ++ tombs ≡ graves i (map kv_key rows) tombs
  same_graves i [] tombs = refl
  same_graves i (r ∷ rows) tombs = ap (λ l. (r.key, i) ∷ l) (same_graves i rows tombs)

  -- 4. The channels.
  abbrev pub chans_of : List (List ℕ) → List Chan
  chans_of keys = map (λ key. Key key) keys

  contains_more : (chans : List Chan) (c d : Chan) → Contains chans c → Contains (d ∷ chans) c
  contains_more chans c d (k, low, is) = (suc k, omega (arith, low), is)

  of_key : (rows : List KvRow) (q : List ℕ) → gone q ≡ true → is_some (kv_at q rows) ≡ true → Contains (chans_of (keys_of rows)) (Key q)
  of_key [] q g e = absurd (false≢true e)
  of_key (r ∷ rows) q g e = go (is_eq (text_cmp q r.key)) refl e (gone r.key) refl (λ h. of_key rows q g h)
    where
      rest : List KvRow
      rest = filter (λ x. gone x.key) rows

      go : (t : Bool) → is_eq (text_cmp q r.key) ≡ t → is_some (cond t (Some r) (kv_at q rows)) ≡ true → (b : Bool) → gone r.key ≡ b → (is_some (kv_at q rows) ≡ true → Contains (chans_of (map kv_key rest)) (Key q)) → Contains (chans_of (map kv_key (cond b (r ∷ rest) rest))) (Key q)
      go true t h true b tail = (0, omega arith, ap (λ k. Key k) (sym (exact_bytes q r.key (eq_is text_cmp kv_key nat_list_cmp_total _ t))))
      go true t h false b tail = absurd (true≢false (sym g ∙ ap gone (exact_bytes q r.key (eq_is text_cmp kv_key nat_list_cmp_total _ t)) ∙ b))
      go false t h true b tail = contains_more (chans_of (map kv_key rest)) (Key q) (Key r.key) (tail h)
      go false t h false b tail = tail h

  all_keys : (P : Chan → Type 0) (rows : List KvRow) → AllByRecursion (λ r. gone r.key ≡ true → P (Key r.key)) rows → AllByRecursion P (chans_of (keys_of rows))
  all_keys P [] h = tt
  all_keys P (r ∷ rows) h = go (gone r.key) refl (all_keys P rows h.1)
    where
      rest : List KvRow
      rest = filter (λ x. gone x.key) rows

      go : (b : Bool) → gone r.key ≡ b → AllByRecursion P (chans_of (map kv_key rest)) → AllByRecursion P (chans_of (map kv_key (cond b (r ∷ rest) rest)))
      go true e t = (h.0 e, t)
      go false e t = t

  others : (key : List ℕ) (keys : List (List ℕ)) → AllByRecursion (λ s. text_cmp key s ≡ Less) keys → AllByRecursion (λ d. d ≢ Key key) (chans_of keys)
  others key [] h = tt
  others key (k ∷ keys) h = ((λ e. let clash : Less ≡ Equal = tie (ap name e) in cc), others key keys h.1)
    where
      name : Chan → List ℕ
      name (Key q) = q
      name c = key

      tie : k ≡ key → Less ≡ Equal
      tie e = sym h.0 ∙ ap (text_cmp key) e ∙ tied_itself nat_list_cmp_total key

  pub chans_once : (keys : List (List ℕ)) → Ascends text_cmp (λ key. key) keys → Once (chans_of keys)
  chans_once [] h = tt
  chans_once (k ∷ keys) h = (others k keys h.0, chans_once keys h.1)

  module _ (i : ℕ) (old new : KvVersions) (asc : Ascends text_cmp (λ key. key) (keys_of old.now.rows)) (each : BuriesEach (keys_of old.now.rows) i old new) where
    abbrev before : List KvRow
    before = old.now.rows

    abbrev after : List KvRow
    after = new.now.rows

    filtered : after ≡ filter (λ r. not (gone r.key)) before
    filtered = each.rows ∙ without_keys before

    buried_is : buried i after before old.now.tombs ≡ graves i (keys_of before) old.now.tombs
    buried_is = buried_gone i gone after before old.now.tombs (all_gone gone before after filtered) ∙ same_graves i (filter (λ r. gone r.key) before) old.now.tombs

    fires_key : (q : List ℕ) → not (same_found same_kv (kv_at q before) (kv_at q after)) ≡ true → Contains (chans_of (keys_of before)) (Key q)
    fires_key q e = go (gone q) refl
      where
        there : (o : Option KvRow) → not (same_found same_kv o None) ≡ true → is_some o ≡ true
        there None h = h
        there (Some r) h = refl

        go : (b : Bool) → gone q ≡ b → Contains (chans_of (keys_of before)) (Key q)
        go true g = of_key before q g (there (kv_at q before) (sym (ap (λ o. not (same_found same_kv (kv_at q before) o)) (found_gone gone before after filtered q g)) ∙ e))
        go false g = absurd (false≢true (sym (key_quiet before after q (found_there gone before after filtered q g)) ∙ e))

    each_fires : AllByRecursion (λ r. gone r.key ≡ true → keys_fire false before after (Key r.key) ≡ true) before
    each_fires = All-weaker (λ r. is_some (kv_at r.key before) ≡ true) (λ r. gone r.key ≡ true → keys_fire false before after (Key r.key) ≡ true) (λ r h g. ap (λ o. not (same_found same_kv (kv_at r.key before) o)) (found_gone gone before after filtered r.key g) ∙ lost (kv_at r.key before) h) before (own_row before)
      where
        lost : (o : Option KvRow) → is_some o ≡ true → not (same_found same_kv o None) ≡ true
        lost None h = absurd (false≢true h)
        lost (Some r) h = refl

    pub tree_moves : Moves i old new (chans_of (keys_of before))
    tree_moves = record {
      indexes = same_by_tombs after old.now.floor new.now.floor (buried i after before old.now.tombs) new.now.tombs (λ test floor. ap (last_tomb test floor) buried_is ∙ each.tombs test floor) each.floor;
      fires = record {
        every = keys_only before after (λ chan. Contains (chans_of (keys_of before)) chan) fires_key;
        just = all_keys (λ chan. keys_fire false before after chan ≡ true) before each_fires;
        once = chans_once (keys_of before) asc;
      };
      before = each.before;
    }

pub tree_rows : (prefix : List ℕ) (rows : List KvRow) → without_each (keys_of (has_prefix prefix) rows) rows ≡ kv_delete_tree prefix rows
unfolding kv_delete_tree
tree_rows prefix rows = without_keys (has_prefix prefix) rows
