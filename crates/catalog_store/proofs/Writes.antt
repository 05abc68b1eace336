-- What a write and a removal of one key move.
use Rattle.std.proofs.Common.{◌≡◌, ℕ, ◌<◌, Bool, true, false, not, cond, if◌then◌else◌, List, [], ◌∷◌, refl, sym, ◌∙◌, ap, subst, Option, Some, None, is_some, arith, Result, Ok, Err, IfOk, OnOk}
use Rattle.std.specs.List.{AllByRecursion}
use Rattle.std.specs.Ordering.{is_eq}
use Rattle.std.proofs.lemmas.Bool.{false≢true}
use Rattle.std.proofs.lemmas.Cmp.{nat_list_cmp_total, tied_itself}
use Rattle.std.proofs.lemmas.Map.Lookups.{exact_bytes}
use Rattle.cat_model.specs.Keys.{text_cmp}
use Rattle.cat_model.specs.Catalog.{kv_at, kv_key}
use Rattle.cat_model.specs.Tables.{same_found}
use Rattle.cat_model.specs.Same.{same_kv}
use Rattle.cat_model.specs.Kv.{put_kv, written, changes_nothing, write_kv}
use Rattle.cat_model.specs.KvIndexes.{buried}
use Rattle.cat_model.specs.declared.row.KvRow.{KvRow}
use Rattle.cat_model.specs.declared.query.Chan.TheVariants.{Key}
use Rattle.cat_model.proofs.SameLemmas.{kv_decides}
use Rattle.cat_model.proofs.TableLemmas.{eq_is, All-weaker}
use Rattle.cat_model.proofs.Lookups.{row_at-put}
use Rattle.kv_table.specs.States.{KvVersions, SetsRow, TombsUnder}
use Rattle.catalog_store.specs.Firing.{keys_fire}
use Rattle.catalog_store.specs.Steps.{SameIndexes, Earlier, Moves}
use Rattle.catalog_store.proofs.Tombs.{same_after_write, own_row, buried_none}
use Rattle.catalog_store.proofs.Fires.{fires_one, key_quiet, keys_only}

-- a row that is found has what all rows have
pub found_all : (P : KvRow → Type 0) (rows : List KvRow) (key : List ℕ) (row : KvRow) → AllByRecursion P rows → kv_at key rows ≡ Some row → P row
found_all P [] key row all e = let clash : None ≡ Some row = e in cc
found_all P (r ∷ rows) key row all e = go (is_eq (text_cmp key r.key)) e (λ h. found_all P rows key row all.1 h)
  where
    go : (b : Bool) → cond b (Some r) (kv_at key rows) ≡ Some row → (kv_at key rows ≡ Some row → P row) → P row
    go true is rest = subst P (ap (λ o. elim o as (λ _. KvRow) [ None ↦ r | Some x ↦ x ]) is) all.0
    go false is rest = rest is

module _ (i : ℕ) (key : List ℕ) (row : KvRow) (old new : KvVersions) (named : row.key ≡ key) (at : row.modify ≡ i) (earlier : Earlier i old.now.rows) (sets : SetsRow row old new) where
  abbrev before : List KvRow
  before = old.now.rows

  abbrev after : List KvRow
  after = new.now.rows

  found : (q : List ℕ) → kv_at q after ≡ cond (is_eq (text_cmp q row.key)) (Some row) (kv_at q before)
  found q = ap (kv_at q) sets.rows ∙ row_at-put text_cmp kv_key nat_list_cmp_total exact_bytes q row before

  itself : kv_at key after ≡ Some row
  itself = ap (λ k. kv_at k after) (sym named) ∙ found row.key ∙ ap (λ o. cond (is_eq o) (Some row) (kv_at row.key before)) (tied_itself nat_list_cmp_total row.key)

  all_there : AllByRecursion (λ r. is_some (kv_at r.key after) ≡ true) before
  all_there = All-weaker (λ r. is_some (kv_at r.key before) ≡ true) (λ r. is_some (kv_at r.key after) ≡ true) (λ r e. ap is_some (found r.key) ∙ go r (is_eq (text_cmp r.key row.key)) e) before (own_row before)
    where
      go : (r : KvRow) (b : Bool) → is_some (kv_at r.key before) ≡ true → is_some (cond b (Some row) (kv_at r.key before)) ≡ true
      go r true e = refl
      go r false e = e

  key_fires : not (same_found same_kv (kv_at key before) (kv_at key after)) ≡ true
  key_fires = ap (λ o. not (same_found same_kv (kv_at key before) o)) itself ∙ go (kv_at key before) refl
    where
      differs : (r : KvRow) (b : Bool) → same_kv r row ≡ b → r.modify < i → not b ≡ true
      differs r true e low = absurd (let same : r.modify ≡ row.modify = ap (λ x. x.modify) ((kv_decides r row).0 e) in omega (arith, same, at, low))
      differs r false e low = refl

      go : (o : Option KvRow) → kv_at key before ≡ o → not (same_found same_kv o (Some row)) ≡ true
      go None e = refl
      go (Some r) e = differs r (same_kv r row) refl (found_all (λ x. x.modify < i) before key r earlier e)

  key_alone : (q : List ℕ) → not (same_found same_kv (kv_at q before) (kv_at q after)) ≡ true → Key key ≡ Key q
  key_alone q e = go (is_eq (text_cmp q row.key)) refl
    where
      go : (b : Bool) → is_eq (text_cmp q row.key) ≡ b → Key key ≡ Key q
      go true t = ap (λ k. Key k) (sym named ∙ sym (exact_bytes q row.key (eq_is text_cmp kv_key nat_list_cmp_total _ t)))
      go false t = absurd (false≢true (sym (key_quiet before after q (found q ∙ ap (λ b. cond b (Some row) (kv_at q before)) t)) ∙ e))

  pub write_moves : Moves i old new (Key key ∷ [])
  write_moves = record {
    indexes =
        subst (λ floor. SameIndexes after (buried i after before old.now.tombs) old.now.floor new.now.tombs floor) (sym sets.floor)
        (subst (λ tombs. SameIndexes after tombs old.now.floor new.now.tombs old.now.floor) (sym (buried_none i after before old.now.tombs all_there))
        (same_after_write after row.key i old.now.floor old.now.tombs new.now.tombs row (ap (λ k. kv_at k after) named ∙ itself) at (subst (λ n. TombsAt n) at sets.tombs)));
    fires = fires_one (keys_fire false before after) (Key key) key_fires (keys_only before after (λ chan. Key key ≡ chan) key_alone);
    before = sets.before;
  }
    where
      TombsAt : ℕ → Type 0
      TombsAt n = TombsUnder row.key n old.now.tombs new.now.tombs

made_key : (i : ℕ) (key value : List ℕ) (flags : ℕ) (session : Option ℕ) (lock : ℕ) (o : Option KvRow) → (written i key value flags session lock o).key ≡ key
made_key i key value flags session lock None = refl
made_key i key value flags session lock (Some r) = refl

made_at : (i : ℕ) (key value : List ℕ) (flags : ℕ) (session : Option ℕ) (lock : ℕ) (o : Option KvRow) → (written i key value flags session lock o).modify ≡ i
made_at i key value flags session lock None = refl
made_at i key value flags session lock (Some r) = refl

-- of a value that is there both hold
pub if_both : {T E : Type 0} (r : Result T E) (A : Type 0) (P Q : T → Type 0) → OnOk r A → IfOk r P → (A → (x : T) → P x → Q x) → IfOk r Q
if_both (Ok x) A P Q a p f = f a x p
if_both (Err e) A P Q a p f = tt

-- what a write puts there, which is nothing where it changes nothing
module _ (version i : ℕ) (key value : List ℕ) (flags : ℕ) (session : Option ℕ) (lock : ℕ) (old : KvVersions) where
  abbrev was : Option KvRow
  was = kv_at key old.now.rows

  abbrev made : KvRow
  made = written i key value flags session lock was

  abbrev pub change : Option KvRow
  change = if changes_nothing version made was then None else Some made

  pub none_written : None ≡ change → old.now.rows ≡ write_kv version i key value flags session lock old.now.rows
  unfolding write_kv
  none_written e = go (changes_nothing version made was) e
    where
      go : (b : Bool) → None ≡ cond b None (Some made) → old.now.rows ≡ cond b old.now.rows (put_kv made old.now.rows)
      go true h = refl
      go false h = let clash : None ≡ Some made = h in cc

  module _ (row : KvRow) (new : KvVersions) (is : Some row ≡ change) (sets : SetsRow row old new) where
    is_made : row ≡ made
    is_made = go (changes_nothing version made was) is
      where
        go : (b : Bool) → Some row ≡ cond b None (Some made) → row ≡ made
        go true h = let clash : Some row ≡ None = h in cc
        go false h = ap (λ o. elim o as (λ _. KvRow) [ None ↦ row | Some x ↦ x ]) h

    pub row_written : new.now.rows ≡ write_kv version i key value flags session lock old.now.rows
    unfolding write_kv
    row_written = go (changes_nothing version made was) is
      where
        go : (b : Bool) → Some row ≡ cond b None (Some made) → new.now.rows ≡ cond b old.now.rows (put_kv made old.now.rows)
        go true h = let clash : Some row ≡ None = h in cc
        go false h = sets.rows ∙ ap (λ r. put_kv r old.now.rows) is_made

    pub row_moves : Earlier i old.now.rows → Moves i old new (Key row.key ∷ [])
    row_moves earlier = subst (λ k. Moves i old new (Key k ∷ [])) (sym named) (write_moves i key row old new named (ap (λ r. r.modify) is_made ∙ made_at i key value flags session lock was) earlier sets)
      where
        named : row.key ≡ key
        named = ap (λ r. r.key) is_made ∙ made_key i key value flags session lock was
