-- When tombstones give the same indexes.
use Rattle.std.proofs.Common.{◌≡◌, ℕ, ◌≤◌, Bool, true, false, not, cond, List, [], ◌∷◌, ◌++◌, refl, sym, ◌∙◌, ap, Some, None, filter, map, is_some, max, arith}
use Rattle.std.specs.List.{AllByRecursion}
use Rattle.std.specs.Ordering.{is_eq}
use Rattle.std.proofs.lemmas.Bool.{false≢true}
use Rattle.std.proofs.lemmas.Cmp.{nat_list_cmp_total, tied_itself}
use Rattle.std.proofs.lemmas.Map.Lookups.{exact_bytes}
use Rattle.cat_model.specs.Keys.{text_cmp, same_text, has_prefix}
use Rattle.cat_model.specs.Catalog.{kv_at, kv_key}
use Rattle.cat_model.specs.KvIndexes.{row_index, buried, last_tomb, last_modify, key_index, prefix_index}
use Rattle.cat_model.specs.declared.row.KvRow.{KvRow}
use Rattle.cat_model.proofs.SameLemmas.{text_decides}
use Rattle.cat_model.proofs.TableLemmas.{eq_is, All-weaker}
use Rattle.kv_table.specs.States.{SameTombs, TombsUnder}
use Rattle.catalog_store.specs.Steps.{SameIndexes}

-- the least counts as one more row does
pub last_modify-max : (test : List ℕ → Bool) (least : ℕ) (rows : List KvRow) → last_modify test least rows ≡ max least (last_modify test 0 rows)
last_modify-max test least [] = omega arith
last_modify-max test least (r ∷ rows) = go (test r.key) (last_modify-max test least rows)
  where
    go : (b : Bool) → last_modify test least rows ≡ max least (last_modify test 0 rows) → cond b (max r.modify (last_modify test least rows)) (last_modify test least rows) ≡ max least (cond b (max r.modify (last_modify test 0 rows)) (last_modify test 0 rows))
    go true e = omega (arith, e)
    go false e = e

-- a row that passes counts
pub modify_of_row : (test : List ℕ → Bool) (least : ℕ) (rows : List KvRow) (key : List ℕ) (row : KvRow) → test key ≡ true → kv_at key rows ≡ Some row → row.modify ≤ last_modify test least rows
modify_of_row test least [] key row passes there = let clash : None ≡ Some row = there in cc
modify_of_row test least (r ∷ rows) key row passes there = go (is_eq (text_cmp key r.key)) refl there (λ t. modify_of_row test least rows key row passes t)
  where
    more : (b : Bool) → last_modify test least rows ≤ cond b (max r.modify (last_modify test least rows)) (last_modify test least rows)
    more true = omega arith
    more false = omega arith

    first : (b : Bool) → b ≡ true → r.modify ≤ cond b (max r.modify (last_modify test least rows)) (last_modify test least rows)
    first true e = omega arith
    first false e = absurd (false≢true e)

    go : (e : Bool) → is_eq (text_cmp key r.key) ≡ e → cond e (Some r) (kv_at key rows) ≡ Some row → (kv_at key rows ≡ Some row → row.modify ≤ last_modify test least rows) → row.modify ≤ last_modify test least (r ∷ rows)
    go true e is tail =
        let same : r.modify ≡ row.modify = ap (λ o. elim o as (λ _. ℕ) [ None ↦ 0 | Some x ↦ x.modify ]) is in
        let low : r.modify ≤ last_modify test least (r ∷ rows) = first (test r.key) (sym (ap test (exact_bytes key r.key (eq_is text_cmp kv_key nat_list_cmp_total _ e))) ∙ passes) in
        omega (arith, same, low)
    go false e is tail = let low : last_modify test least rows ≤ last_modify test least (r ∷ rows) = more (test r.key) in omega (arith, tail is, low)

-- a row written at the position hides its key's tombstones
pub same_after_write : (after : List KvRow) (key : List ℕ) (i floor : ℕ) (a b : List (List ℕ × ℕ)) (row : KvRow) → kv_at key after ≡ Some row → row.modify ≡ i → TombsUnder key i a b → SameIndexes after a floor b floor
same_after_write after key i floor a b row there at tombs = record { keys = λ q. of_key q (same_text key q) refl; prefixes = λ p. of_prefix p (has_prefix p key) refl }
  where
    of_key : (q : List ℕ) (c : Bool) → same_text key q ≡ c → key_index q after b floor ≡ key_index q after a floor
    of_key q true e =
        let here : kv_at q after ≡ Some row = ap (λ k. kv_at k after) (sym ((text_decides key q).0 e)) ∙ there in
        ap (λ o. row_index o (last_tomb (λ k. same_text k q) floor b)) here ∙ sym (ap (λ o. row_index o (last_tomb (λ k. same_text k q) floor a)) here)
    of_key q false e = ap (row_index (kv_at q after)) (tombs.others (λ k. same_text k q) floor e)

    of_prefix : (p : List ℕ) (c : Bool) → has_prefix p key ≡ c → prefix_index p after b floor ≡ prefix_index p after a floor
    of_prefix p true e =
        let low : row.modify ≤ last_modify (has_prefix p) 0 after = modify_of_row (has_prefix p) 0 after key row e there in
        omega (arith, low, at, last_modify-max (has_prefix p) (last_tomb (has_prefix p) floor b) after, last_modify-max (has_prefix p) (last_tomb (has_prefix p) floor a) after, tombs.under (has_prefix p) floor)
    of_prefix p false e = ap (λ n. last_modify (has_prefix p) n after) (tombs.others (has_prefix p) floor e)

pub same_by_tombs : (rows : List KvRow) (floor floor' : ℕ) (a b : List (List ℕ × ℕ)) → SameTombs a b → floor' ≡ floor → SameIndexes rows a floor b floor'
same_by_tombs rows floor floor' a b same at =
    record {
      keys = λ key. ap (row_index (kv_at key rows)) (ap (λ f. last_tomb (λ k. same_text k key) f b) at ∙ sym (same (λ k. same_text k key) floor));
      prefixes = λ prefix. ap (λ n. last_modify (has_prefix prefix) n rows) (ap (λ f. last_tomb (has_prefix prefix) f b) at ∙ sym (same (has_prefix prefix) floor));
    }

-- each row of a table is the row of its key
pub own_row : (rows : List KvRow) → AllByRecursion (λ r. is_some (kv_at r.key rows) ≡ true) rows
own_row [] = tt
own_row (x ∷ rows) = (ap (λ o. is_some (cond (is_eq o) (Some x) (kv_at x.key rows))) (tied_itself nat_list_cmp_total x.key), All-weaker _ _ (λ r e. behind r e (is_eq (text_cmp r.key x.key))) rows (own_row rows))
  where
    behind : (r : KvRow) → is_some (kv_at r.key rows) ≡ true → (b : Bool) → is_some (cond b (Some x) (kv_at r.key rows)) ≡ true
    behind r e true = refl
    behind r e false = e

-- no row is gone
pub buried_none : (i : ℕ) (after rows : List KvRow) (tombs : List (List ℕ × ℕ)) → AllByRecursion (λ r. is_some (kv_at r.key after) ≡ true) rows → buried i after rows tombs ≡ tombs
buried_none i after [] tombs all = refl
buried_none i after (r ∷ rows) tombs all = ap (λ b. cond b (buried i after rows tombs) ((r.key, i) ∷ buried i after rows tombs)) all.0 ∙ buried_none i after rows tombs all.1

-- just the rows that pass are gone
pub buried_gone : (i : ℕ) (gone : List ℕ → Bool) (after rows : List KvRow) (tombs : List (List ℕ × ℕ)) → AllByRecursion (λ r. is_some (kv_at r.key after) ≡ not (gone r.key)) rows
    → buried i after rows tombs ≡ map (λ r. (r.key, i)) (filter (λ r. gone r.key) rows) ++ tombs
buried_gone i gone after [] tombs all = refl
buried_gone i gone after (r ∷ rows) tombs all = ap (λ b. cond b (buried i after rows tombs) ((r.key, i) ∷ buried i after rows tombs)) all.0 ∙ go (gone r.key) (buried_gone i gone after rows tombs all.1)
  where
    rest : List KvRow
    rest = filter (λ s. gone s.key) rows

    go : (b : Bool) → buried i after rows tombs ≡ map (λ s. (s.key, i)) rest ++ tombs → cond (not b) (buried i after rows tombs) ((r.key, i) ∷ buried i after rows tombs) ≡ map (λ s. (s.key, i)) (cond b (r ∷ rest) rest) ++ tombs
    go true e = ap (λ l. (r.key, i) ∷ l) e
    go false e = e
