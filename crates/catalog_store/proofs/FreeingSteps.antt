-- What it does to the table to free one key, and one more.
use Rattle.std.proofs.Common.{◌≡◌, ℕ, Bool, true, false, not, cond, ◌&&◌, ◌||◌, List, [], ◌∷◌, ◌++◌, refl, sym, ◌∙◌, ap, subst, Option, Some, None, filter, max, arith}
use Rattle.std.specs.Ordering.{is_eq}
use Rattle.std.proofs.lemmas.Bool.{true≢false, false≢true}
use Rattle.std.proofs.lemmas.Cmp.{nat_list_cmp_total, tied_itself}
use Rattle.std.proofs.lemmas.List.Folds.{list_any-append}
use Rattle.std.proofs.lemmas.Map.Lookups.{exact_bytes}
use Rattle.cat_model.specs.Keys.{text_cmp}
use Rattle.cat_model.specs.Tables.{Ascends}
use Rattle.cat_model.specs.Catalog.{kv_at, kv_key}
use Rattle.cat_model.specs.Kv.{kv_delete}
use Rattle.cat_model.specs.KvIndexes.{last_tomb}
use Rattle.cat_model.specs.declared.row.KvRow.{KvRow}
use Rattle.cat_model.specs.declared.row.Behavior.TheVariants.{Release, Delete}
use Rattle.cat_model.proofs.TableLemmas.{eq_is, Ascends-filter, Ascends-put}
use Rattle.cat_model.proofs.Lookups.{row_at-put, row_at-append}
use Rattle.cat_model.proofs.InOrder.{key_of_found}
use Rattle.kv_table.specs.States.{KvVersions, SetsRow, TombsUnder}
use Rattle.catalog_store.specs.declared.key_commands.freed_keys.Holding.{Holding}
use Rattle.catalog_store.specs.Steps.{Buries}
use Rattle.catalog_store.specs.Freeing.{holding_key, holding_at, released, put_released, left, left_of, deletes, any_deleted, any_released, Releases, Frees}
use Rattle.catalog_store.proofs.FreeingTables.{or_row}
use Rattle.catalog_store.proofs.Removals.{found_gone, found_there}

same_key : (q k : List ℕ) → is_eq (text_cmp q k) ≡ true → q ≡ k
same_key q k t = exact_bytes q k (eq_is text_cmp kv_key nat_list_cmp_total _ t)

-- 1. A key is released.
module _ (key : List ℕ) (i : ℕ) (row : KvRow) (old new : KvVersions) (is : Some row ≡ released i (kv_at key old.now.rows)) (sets : SetsRow row old new) where
  named : (o : Option KvRow) → kv_at key old.now.rows ≡ o → Some row ≡ released i o → row.key ≡ key
  named None e h = let clash : Some row ≡ None = h in cc
  named (Some x) e h = ap (λ o. elim o as (λ _. List ℕ) [ None ↦ row.key | Some y ↦ y.key ]) h ∙ sym (key_of_found text_cmp kv_key nat_list_cmp_total exact_bytes key old.now.rows x e)

  written_at : (o : Option KvRow) → Some row ≡ released i o → row.modify ≡ i
  written_at None h = let clash : Some row ≡ None = h in cc
  written_at (Some x) h = ap (λ o. elim o as (λ _. ℕ) [ None ↦ row.modify | Some y ↦ y.modify ]) h

  pub sets_released : Releases key i old new
  sets_released = record {
    rows = sets.rows ∙ ap (λ o. put_released o old.now.rows) is;
    tombs = subst (λ n. TombsUnder key n old.now.tombs new.now.tombs) (written_at (kv_at key old.now.rows) is) (subst (λ k. TombsUnder k row.modify old.now.tombs new.now.tombs) (named (kv_at key old.now.rows) refl is) sets.tombs);
    floor = sets.floor;
    before = sets.before;
  }

module _ (h : Holding) (i : ℕ) (old new : KvVersions) (release : h.behavior ≡ Release) (r : Releases h.key i old new) where
  abbrev before : List KvRow
  before = old.now.rows

  found : (q : List ℕ) (o : Option KvRow) → kv_at h.key before ≡ o → (b : Bool) → is_eq (text_cmp q h.key) ≡ b → kv_at q (put_released (released i o) before) ≡ left_of i (cond b (Some h) None) (kv_at q before)
  found q None e false t = refl
  found q None e true t =
      let at : kv_at q before ≡ None = ap (λ k. kv_at k before) (same_key q h.key t) ∙ e in
      at ∙ sym (ap (left i h.behavior) at ∙ ap (λ v. left i v None) release)
  found q (Some x) e b t = row_at-put text_cmp kv_key nat_list_cmp_total exact_bytes q made before ∙ ap (λ k. cond (is_eq (text_cmp q k)) (Some made) (kv_at q before)) (sym named) ∙ ap (λ c. cond c (Some made) (kv_at q before)) t ∙ rest b t
    where
      made : KvRow
      made = record x { session = None; modify = i }

      named : h.key ≡ x.key
      named = key_of_found text_cmp kv_key nat_list_cmp_total exact_bytes h.key before x e

      rest : (c : Bool) → is_eq (text_cmp q h.key) ≡ c → cond c (Some made) (kv_at q before) ≡ left_of i (cond c (Some h) None) (kv_at q before)
      rest false u = refl
      rest true u =
          let at : kv_at q before ≡ Some x = ap (λ k. kv_at k before) (same_key q h.key u) ∙ e in
          sym (ap (left i h.behavior) at ∙ ap (λ v. left i v (Some x)) release)

  ordered : (o : Option KvRow) → Ascends text_cmp kv_key before → Ascends text_cmp kv_key (put_released (released i o) before)
  ordered None asc = asc
  ordered (Some x) asc = Ascends-put text_cmp kv_key nat_list_cmp_total (record x { session = None; modify = i }) before asc

  tombs_of : (test : List ℕ → Bool) (floor : ℕ) (b : Bool) → test h.key ≡ b → ((b && not (deletes h.behavior)) || false) ≡ false
      → last_tomb test floor new.now.tombs ≡ cond ((b && deletes h.behavior) || false) (max i (last_tomb test floor old.now.tombs)) (last_tomb test floor old.now.tombs)
  tombs_of test floor true k e = absurd (true≢false (sym (ap (λ v. not (deletes v) || false) release) ∙ e))
  tombs_of test floor false k e = r.tombs.others test floor k

  pub frees_released : Frees (h ∷ []) i old new
  frees_released = record {
    rows = λ q. ap (kv_at q) r.rows ∙ found q (kv_at h.key before) refl (is_eq (text_cmp q h.key)) refl;
    order = λ asc. subst (Ascends text_cmp kv_key) (sym r.rows) (ordered (kv_at h.key before) asc);
    tombs = λ test floor e. tombs_of test floor (test h.key) refl e;
    under = r.tombs.under;
    floor = r.floor;
    before = r.before;
  }

-- 2. A key is deleted.
module _ (h : Holding) (i : ℕ) (old new : KvVersions) (delete : h.behavior ≡ Delete) (b : Buries h.key i old new) where
  abbrev gone : List ℕ → Bool
  gone q = is_eq (text_cmp h.key q)

  filtered : new.now.rows ≡ filter (λ r. not (gone r.key)) old.now.rows
  unfolding kv_delete
  filtered = b.rows

  lost : (q : List ℕ) (c : Bool) → is_eq (text_cmp q h.key) ≡ c → kv_at q new.now.rows ≡ left_of i (cond c (Some h) None) (kv_at q old.now.rows)
  lost q true t =
      let here : gone q ≡ true = ap (λ k. gone k) (same_key q h.key t) ∙ ap is_eq (tied_itself nat_list_cmp_total h.key) in
      found_gone gone old.now.rows new.now.rows filtered q here ∙ sym (ap (λ v. left i v (kv_at q old.now.rows)) delete)
  lost q false t = found_there gone old.now.rows new.now.rows filtered q (other (gone q) refl)
    where
      other : (c : Bool) → gone q ≡ c → gone q ≡ false
      other false e = e
      other true e = absurd (false≢true (sym t ∙ ap (λ k. is_eq (text_cmp q k)) (same_key h.key q e) ∙ ap is_eq (tied_itself nat_list_cmp_total q)))

  dug : (test : List ℕ → Bool) (floor : ℕ) → last_tomb test floor new.now.tombs ≡ cond (test h.key) (max i (last_tomb test floor old.now.tombs)) (last_tomb test floor old.now.tombs)
  dug test floor = sym (b.tombs test floor)

  as_deleted : (c : Bool) (x y : ℕ) → cond c x y ≡ cond ((c && deletes h.behavior) || false) x y
  as_deleted true x y = ap (λ v. cond (deletes v || false) x y) (sym delete)
  as_deleted false x y = refl

  pub frees_buried : Frees (h ∷ []) i old new
  frees_buried = record {
    rows = λ q. lost q (is_eq (text_cmp q h.key)) refl;
    order = λ asc. subst (Ascends text_cmp kv_key) (sym filtered) (Ascends-filter text_cmp kv_key nat_list_cmp_total (λ r. not (gone r.key)) old.now.rows asc);
    tombs = λ test floor e. dug test floor ∙ as_deleted (test h.key) (max i (last_tomb test floor old.now.tombs)) (last_tomb test floor old.now.tombs);
    under = λ test floor. ap (max i) (dug test floor) ∙ hidden (test h.key) (last_tomb test floor old.now.tombs);
    floor = b.floor;
    before = b.before;
  }
    where
      hidden : (c : Bool) (x : ℕ) → max i (cond c (max i x) x) ≡ max i x
      hidden true x = omega arith
      hidden false x = refl

-- 3. None, and one more.
pub frees_none : (i : ℕ) (old : KvVersions) → Frees [] i old old
frees_none i old = record { rows = λ q. refl; order = λ asc. asc; tombs = λ test floor e. refl; under = λ test floor. refl; floor = refl; before = refl }

left_false : (a b : Bool) → (a || b) ≡ false → a ≡ false
left_false true b e = e
left_false false b e = refl

right_false : (a b : Bool) → (a || b) ≡ false → b ≡ false
right_false true b e = absurd (true≢false e)
right_false false b e = e

module _ (hs : List Holding) (h : Holding) (i : ℕ) (old mid new : KvVersions) (other : holding_at h.key hs ≡ None) (all : Frees hs i old mid) (one : Frees (h ∷ []) i mid new) where
  twice : (a b : Bool) (x m n : ℕ) → m ≡ cond a (max i x) x → n ≡ cond b (max i m) m → n ≡ cond (a || b) (max i x) x
  twice true true x m n e f = omega (arith, e, f)
  twice true false x m n e f = f ∙ e
  twice false true x m n e f = f ∙ ap (max i) e
  twice false false x m n e f = f ∙ e

  rows_more : (q : List ℕ) (b : Bool) → is_eq (text_cmp q h.key) ≡ b → left_of i (cond b (Some h) None) (kv_at q mid.now.rows) ≡ left_of i (or_row (holding_at q hs) (cond b (Some h) None)) (kv_at q old.now.rows)
  rows_more q true t =
      let none : holding_at q hs ≡ None = ap (λ k. holding_at k hs) (same_key q h.key t) ∙ other in
      let kept : kv_at q mid.now.rows ≡ kv_at q old.now.rows = all.rows q ∙ ap (λ o. left_of i o (kv_at q old.now.rows)) none in
      ap (left i h.behavior) kept ∙ ap (λ o. left_of i (or_row o (Some h)) (kv_at q old.now.rows)) (sym none)
  rows_more q false t = all.rows q ∙ ap (λ o. left_of i o (kv_at q old.now.rows)) (sym (or_none (holding_at q hs)))
    where
      or_none : (o : Option Holding) → or_row o None ≡ o
      or_none None = refl
      or_none (Some x) = refl

  pub frees_more : Frees (hs ++ h ∷ []) i old new
  frees_more = record {
    rows = λ q. one.rows q ∙ rows_more q (is_eq (text_cmp q h.key)) refl ∙ ap (λ o. left_of i o (kv_at q old.now.rows)) (sym (row_at-append text_cmp holding_key nat_list_cmp_total exact_bytes q hs (h ∷ [])));
    order = λ asc. one.order (all.order asc);
    tombs = λ test floor e.
        let none : (any_released test hs || any_released test (h ∷ [])) ≡ false = sym (list_any-append (λ x. test x.key && not (deletes x.behavior)) hs (h ∷ [])) ∙ e in
        twice (any_deleted test hs) (any_deleted test (h ∷ [])) (last_tomb test floor old.now.tombs) (last_tomb test floor mid.now.tombs) (last_tomb test floor new.now.tombs)
        (all.tombs test floor (left_false (any_released test hs) (any_released test (h ∷ [])) none)) (one.tombs test floor (right_false (any_released test hs) (any_released test (h ∷ [])) none))
        ∙ ap (λ c. cond c (max i (last_tomb test floor old.now.tombs)) (last_tomb test floor old.now.tombs)) (sym (list_any-append (λ x. test x.key && deletes x.behavior) hs (h ∷ [])));
    under = λ test floor. one.under test floor ∙ all.under test floor;
    floor = one.floor ∙ all.floor;
    before = one.before ∙ all.before;
  }
