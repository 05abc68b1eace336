-- What a removal of keys moves.
use Rattle.std.proofs.Common.{◌≡◌, ℕ, Bool, true, false, not, cond, List, [], ◌∷◌, ◌++◌, refl, sym, ◌∙◌, ap, Option, Some, None, filter, map, is_some, max}
use Rattle.std.specs.List.{AllByRecursion}
use Rattle.std.specs.Ordering.{is_eq}
use Rattle.std.specs.declared.cmp.Ordering.TheVariants.{Less}
use Rattle.std.proofs.lemmas.Bool.{true≢false, false≢true}
use Rattle.std.proofs.lemmas.Cmp.{nat_list_cmp_total, tied_itself}
use Rattle.std.proofs.lemmas.Map.Lookups.{exact_bytes}
use Rattle.cat_model.specs.Keys.{text_cmp}
use Rattle.cat_model.specs.Catalog.{kv_at, kv_key}
use Rattle.cat_model.specs.Tables.{Ascends, same_found}
use Rattle.cat_model.specs.Same.{same_kv}
use Rattle.cat_model.specs.Kv.{kv_delete}
use Rattle.cat_model.specs.KvIndexes.{buried, last_tomb}
use Rattle.cat_model.specs.declared.row.KvRow.{KvRow}
use Rattle.cat_model.specs.declared.query.Chan.TheVariants.{Key}
use Rattle.cat_model.proofs.TableLemmas.{eq_is, All-weaker, row_at-filter}
use Rattle.cat_model.proofs.Lookups.{row_at-filter_none}
use Rattle.kv_table.specs.States.{KvVersions, RemovesRow, AddsTomb, SameTombs}
use Rattle.catalog_store.specs.Firing.{keys_fire}
use Rattle.catalog_store.specs.Steps.{Moves, Buries}
use Rattle.catalog_store.proofs.Tombs.{same_by_tombs, own_row, buried_none, buried_gone}
use Rattle.catalog_store.proofs.Fires.{fires_none, fires_one, key_quiet, all_quiet, keys_only}

-- the same tombstones under one more
more_tombs : (t : List ℕ × ℕ) (a b : List (List ℕ × ℕ)) → SameTombs a b → SameTombs (t ∷ a) (t ∷ b)
more_tombs t a b same test floor = ap (λ n. cond (test t.0) (max t.1 n) n) (same test floor)

pub buries : (key : List ℕ) (i : ℕ) (old mid new : KvVersions) → RemovesRow key old mid → AddsTomb key i mid new → Buries key i old new
buries key i old mid new removes adds = record {
  rows = adds.rows ∙ removes.rows;
  tombs = λ test floor. more_tombs (key, i) old.now.tombs mid.now.tombs removes.tombs test floor ∙ adds.tombs test floor;
  floor = adds.floor ∙ removes.floor;
  before = adds.before ∙ removes.before;
}

-- nothing changed
pub unmoved : (i : ℕ) (old : KvVersions) → Moves i old old []
unmoved i old = record {
  indexes = same_by_tombs old.now.rows old.now.floor old.now.floor (buried i old.now.rows old.now.rows old.now.tombs) old.now.tombs (λ test floor. ap (last_tomb test floor) (buried_none i old.now.rows old.now.rows old.now.tombs (own_row old.now.rows))) refl;
  fires = fires_none (keys_fire false old.now.rows old.now.rows) (all_quiet old.now.rows);
  before = refl;
}

-- the rows whose key passes the test are gone
module _ (gone : List ℕ → Bool) (before after : List KvRow) (is : after ≡ filter (λ r. not (gone r.key)) before) where
  pub found_gone : (q : List ℕ) → gone q ≡ true → kv_at q after ≡ None
  found_gone q e = ap (kv_at q) is ∙ row_at-filter_none text_cmp kv_key nat_list_cmp_total exact_bytes (λ k. not (gone k)) q (ap not e) before

  pub found_there : (q : List ℕ) → gone q ≡ false → kv_at q after ≡ kv_at q before
  found_there q e = ap (kv_at q) is ∙ row_at-filter text_cmp kv_key nat_list_cmp_total exact_bytes (λ k. not (gone k)) q (ap not e) before

  pub all_gone : AllByRecursion (λ r. is_some (kv_at r.key after) ≡ not (gone r.key)) before
  all_gone = All-weaker (λ r. is_some (kv_at r.key before) ≡ true) (λ r. is_some (kv_at r.key after) ≡ not (gone r.key)) (λ r e. go r (gone r.key) refl e) before (own_row before)
    where
      go : (r : KvRow) (b : Bool) → gone r.key ≡ b → is_some (kv_at r.key before) ≡ true → is_some (kv_at r.key after) ≡ not (gone r.key)
      go r true g e = ap is_some (found_gone r.key g) ∙ ap not (sym g)
      go r false g e = ap is_some (found_there r.key g) ∙ e ∙ ap not (sym g)

-- no row is of a key, or one
pub absent_same : (key : List ℕ) (rows : List KvRow) → is_some (kv_at key rows) ≡ false → kv_delete key rows ≡ rows
unfolding kv_delete
absent_same key [] e = refl
absent_same key (r ∷ rows) e = go (is_eq (text_cmp key r.key)) e (λ h. absent_same key rows h)
  where
    rest : List KvRow
    rest = filter (λ s. not (is_eq (text_cmp key s.key))) rows

    go : (b : Bool) → is_some (cond b (Some r) (kv_at key rows)) ≡ false → (is_some (kv_at key rows) ≡ false → rest ≡ rows) → cond (not b) (r ∷ rest) rest ≡ r ∷ rows
    go true h tail = absurd (true≢false h)
    go false h tail = ap (λ l. r ∷ l) (tail h)

none_above : (key : List ℕ) (rows : List KvRow) → AllByRecursion (λ r. text_cmp key r.key ≡ Less) rows → filter (λ r. is_eq (text_cmp key r.key)) rows ≡ []
none_above key [] all = refl
none_above key (r ∷ rows) all = ap (λ o. cond (is_eq o) (r ∷ filter (λ s. is_eq (text_cmp key s.key)) rows) (filter (λ s. is_eq (text_cmp key s.key)) rows)) all.0 ∙ none_above key rows all.1

-- the tombstones of a key's rows: one where it has a row
one_tomb : (i : ℕ) (key : List ℕ) (rows : List KvRow) → Ascends text_cmp kv_key rows → is_some (kv_at key rows) ≡ true → map {B = List ℕ × ℕ} (λ r. (r.key, i)) (filter (λ r. is_eq (text_cmp key r.key)) rows) ≡ (key, i) ∷ []
one_tomb i key [] asc e = absurd (false≢true e)
one_tomb i key (r ∷ rows) asc e = go (is_eq (text_cmp key r.key)) refl e (λ h. one_tomb i key rows asc.1 h)
  where
    rest : List KvRow
    rest = filter (λ s. is_eq (text_cmp key s.key)) rows

    go : (b : Bool) → is_eq (text_cmp key r.key) ≡ b → is_some (cond b (Some r) (kv_at key rows)) ≡ true → (is_some (kv_at key rows) ≡ true → map {B = List ℕ × ℕ} (λ s. (s.key, i)) rest ≡ (key, i) ∷ []) → map {B = List ℕ × ℕ} (λ s. (s.key, i)) (cond b (r ∷ rest) rest) ≡ (key, i) ∷ []
    go true t h tail =
        let same : key ≡ r.key = exact_bytes key r.key (eq_is text_cmp kv_key nat_list_cmp_total _ t) in
        let empty : rest ≡ [] = none_above key rows (All-weaker (λ s. text_cmp r.key s.key ≡ Less) (λ s. text_cmp key s.key ≡ Less) (λ s l. ap (λ k. text_cmp k s.key) same ∙ l) rows asc.0) in
        ap (λ l. (r.key, i) ∷ map {B = List ℕ × ℕ} (λ s. (s.key, i)) l) empty ∙ ap (λ k. (k, i) ∷ []) (sym same)
    go false t h tail = tail h

module _ (i : ℕ) (key : List ℕ) (old new : KvVersions) (asc : Ascends text_cmp kv_key old.now.rows) (there : is_some (kv_at key old.now.rows) ≡ true) (b : Buries key i old new) where
  abbrev gone : List ℕ → Bool
  gone q = is_eq (text_cmp key q)

  abbrev before : List KvRow
  before = old.now.rows

  abbrev after : List KvRow
  after = new.now.rows

  filtered : after ≡ filter (λ r. not (gone r.key)) before
  unfolding kv_delete
  filtered = b.rows

  graves : buried i after before old.now.tombs ≡ (key, i) ∷ old.now.tombs
  graves = buried_gone i gone after before old.now.tombs (all_gone gone before after filtered) ∙ ap (λ l. l ++ old.now.tombs) (one_tomb i key before asc there)

  key_fires : not (same_found same_kv (kv_at key before) (kv_at key after)) ≡ true
  key_fires = ap (λ o. not (same_found same_kv (kv_at key before) o)) (found_gone gone before after filtered key (ap is_eq (tied_itself nat_list_cmp_total key))) ∙ go (kv_at key before) there
    where
      go : (o : Option KvRow) → is_some o ≡ true → not (same_found same_kv o None) ≡ true
      go None e = absurd (false≢true e)
      go (Some r) e = refl

  key_alone : (q : List ℕ) → not (same_found same_kv (kv_at q before) (kv_at q after)) ≡ true → Key key ≡ Key q
  key_alone q e = go (gone q) refl
    where
      go : (c : Bool) → gone q ≡ c → Key key ≡ Key q
      go true t = ap (λ k. Key k) (exact_bytes key q (eq_is text_cmp kv_key nat_list_cmp_total _ t))
      go false t = absurd (false≢true (sym (key_quiet before after q (found_there gone before after filtered q t)) ∙ e))

  pub removal_moves : Moves i old new (Key key ∷ [])
  removal_moves = record {
    indexes = same_by_tombs after old.now.floor new.now.floor (buried i after before old.now.tombs) new.now.tombs (λ test floor. ap (last_tomb test floor) graves ∙ b.tombs test floor) b.floor;
    fires = fires_one (keys_fire false before after) (Key key) key_fires (keys_only before after (λ chan. Key key ≡ chan) key_alone);
    before = b.before;
  }
