-- The sessions that pass a test are found by identifiers among which theirs are.
use Rattle.std.proofs.Common.{◌≡◌, ℕ, ◌+◌, ◌<◌, ◌++◌, length, take, get_or, Bool, true, false, cond, ◌&&◌, ◌||◌, List, [], ◌∷◌, refl, sym, ◌∙◌, ap, Option, Some, None, filter, map, is_some}
use Rattle.std.specs.BTreeMap.{is_at}
use Rattle.std.specs.List.{AllByRecursion as Each, cons_option, filter_map, list_any}
use Rattle.std.specs.List.Sorted.{IsStrictlySortedBy}
use Rattle.std.specs.Ordering.{nat_cmp}
use Rattle.std.proofs.lemmas.Bool.{false≢true}
use Rattle.std.proofs.lemmas.Cmp.{nat_cmp_total}
use Rattle.std.proofs.lemmas.List.{map-append, take_more}
use Rattle.std.proofs.lemmas.List.Elements.{filter-append, filter_map-append}
use Rattle.std.proofs.lemmas.List.Folds.{list_any-append}
use Rattle.std.proofs.lemmas.Map.Keys.{sorted_head, sorted_tail}
use Rattle.std.proofs.lemmas.Map.Lookups.{exact_unsigned}
use Rattle.cat_model.specs.Catalog.{session_at, session_key}
use Rattle.cat_model.specs.Tables.{row_at, Ascends}
use Rattle.cat_model.specs.declared.row.SessionRow.{SessionRow}
use Rattle.cat_model.proofs.Elements.{filter_map-filter_some}
use Rattle.cat_model.proofs.InOrder.{key_of_found, row_at-where, row_where}
use Rattle.cat_model.proofs.TableLemmas.{Ascends-filter}
use Rattle.row_table.specs.Tests.{passes}
use Rattle.row_table.proofs.FiledUnder.{both_tests}
use Rattle.session_table.specs.Places.{has_id}
use Rattle.session_table.proofs.Finding.{ids_are, rows_again}
use Rattle.timer_wheel.proofs.Keeps.{at_itself, key_same}
use Rattle.session_ttl.specs.Timed.{is_one_of}

-- numbers that are sorted strictly ascend
pub ascend_from : (ids : List ℕ) → IsStrictlySortedBy nat_cmp ids → Ascends nat_cmp (λ (id : ℕ). id) ids
ascend_from [] h = tt
ascend_from (i ∷ ids) h = (sorted_head nat_cmp i ids h, ascend_from ids (sorted_tail nat_cmp i ids h))

-- the two ways to say that an identifier is one of these
has_is : (k : ℕ) (ids : List ℕ) → has_id k ids ≡ is_one_of k ids
has_is k [] = refl
has_is k (i ∷ ids) = go (is_at (nat_cmp k) i) (has_is k ids)
  where
    go : (b : Bool) → has_id k ids ≡ is_one_of k ids → is_some (cond b (Some i) (row_at nat_cmp (λ (j : ℕ). j) k ids)) ≡ (b || is_one_of k ids)
    go true more = refl
    go false more = more

module _ (rows : List SessionRow) (asc : Ascends nat_cmp session_key rows) (ids : List ℕ) (ordered : Ascends nat_cmp (λ (id : ℕ). id) ids) where
  either : (b : Bool) (i : ℕ) → is_some (cond b (Some i) None) ≡ b
  either true i = refl
  either false i = refl

  is_there : (k : ℕ) (o : Option ℕ) → row_at nat_cmp (λ (j : ℕ). j) k ids ≡ o → (s : Option SessionRow) → session_at k rows ≡ s → is_some (row_where (λ i. is_some (session_at i rows)) o) ≡ passes (λ s. has_id s.id ids) s
  is_there k None none None e = refl
  is_there k None none (Some s) e =
      sym (ap (λ n. has_id n ids) (sym (key_of_found nat_cmp session_key nat_cmp_total exact_unsigned k rows s e)) ∙ ap is_some none)
  is_there k (Some i) found s e = either (is_some (session_at i rows)) i ∙ ap (λ n. is_some (session_at n rows)) (sym (key_of_found nat_cmp (λ (j : ℕ). j) nat_cmp_total exact_unsigned k ids i found)) ∙ go s e
    where
      go : (s : Option SessionRow) → session_at k rows ≡ s → is_some (session_at k rows) ≡ passes (λ s. has_id s.id ids) s
      go None e = ap is_some e
      go (Some r) e = ap is_some e ∙ sym (ap (λ n. has_id n ids) (sym (key_of_found nat_cmp session_key nat_cmp_total exact_unsigned k rows r e)) ∙ ap is_some found)

  pub rows_among : filter_map (λ id. session_at id rows) ids ≡ filter (λ s. has_id s.id ids) rows
  rows_among =
      sym (filter_map-filter_some (λ id. session_at id rows) ids)
      ∙ rows_again (λ s. has_id s.id ids) rows (filter (λ i. is_some (session_at i rows)) ids) asc
      (ids_are (λ s. has_id s.id ids) rows (filter (λ i. is_some (session_at i rows)) ids) asc (Ascends-filter nat_cmp (λ (j : ℕ). j) nat_cmp_total (λ i. is_some (session_at i rows)) ids ordered)
      (λ k. ap is_some (row_at-where nat_cmp (λ (j : ℕ). j) nat_cmp_total exact_unsigned (λ i. is_some (session_at i rows)) k ids ordered) ∙ is_there k (row_at nat_cmp (λ (j : ℕ). j) k ids) refl (session_at k rows) refl))

  -- each that passes is among them
  all_among : (p : SessionRow → Bool) (ss : List SessionRow) → Each (λ s. p s ≡ true → is_one_of s.id ids ≡ true) ss → filter (λ s. has_id s.id ids && p s) ss ≡ filter p ss
  all_among p [] h = refl
  all_among p (s ∷ ss) h = go (p s) refl (has_id s.id ids) (has_is s.id ids) (all_among p ss h.1)
    where
      go : (b : Bool) → p s ≡ b → (a : Bool) → a ≡ is_one_of s.id ids → filter (λ s. has_id s.id ids && p s) ss ≡ filter p ss → cond (a && p s) (s ∷ filter (λ s. has_id s.id ids && p s) ss) (filter (λ s. has_id s.id ids && p s) ss) ≡ cond (p s) (s ∷ filter p ss) (filter p ss)
      go b e true is more = ap (λ l. cond (p s) (s ∷ l) l) more
      go true e false is more = absurd (false≢true (is ∙ h.0 e))
      go false e false is more = more ∙ ap (λ b. cond b (s ∷ filter p ss) (filter p ss)) (sym e)

  pub passing_among : (p : SessionRow → Bool) → Each (λ s. p s ≡ true → is_one_of s.id ids ≡ true) rows → filter p (filter_map (λ id. session_at id rows) ids) ≡ filter p rows
  passing_among p h = ap (filter p) rows_among ∙ both_tests (λ s. has_id s.id ids) p rows ∙ all_among p rows h

-- one more identifier was looked up
pub found_more : {B : Type 0} (f : SessionRow → B) (p : SessionRow → Bool) (look : ℕ → Option SessionRow) (ids : List ℕ) (i : ℕ) (was now : List B) → i < length ids → was ≡ map f (filter p (filter_map look (take i ids))) → now ≡ was ++ map f (filter p (cons_option (look (get_or ids i 0)) []))
    → now ≡ map f (filter p (filter_map look (take (i + 1) ids)))
found_more f p look ids i was now l e is =
    is ∙ ap (λ z. z ++ map f (filter p (cons_option (look (get_or ids i 0)) []))) e ∙ sym (map-append f (filter p (filter_map look (take i ids))) (filter p (cons_option (look (get_or ids i 0)) [])))
    ∙ ap (map f) (sym (filter-append p (filter_map look (take i ids)) (cons_option (look (get_or ids i 0)) [])))
    ∙ ap (λ z. map f (filter p z)) (sym (filter_map-append look (take i ids) (get_or ids i 0 ∷ [])))
    ∙ ap (λ z. map f (filter p (filter_map look z))) (sym (take_more ids i 0 l))

-- one more identifier is in the set
pub one_of_more : (id key : ℕ) (ids old new : List ℕ) → is_one_of id old ≡ is_one_of id ids → list_any (is_at (nat_cmp id)) new ≡ cond (is_at (nat_cmp key) id) true (list_any (is_at (nat_cmp id)) old) → is_one_of id new ≡ is_one_of id (ids ++ key ∷ [])
one_of_more id key ids old new was is = is ∙ ap (cond (is_at (nat_cmp key) id) true) was ∙ go (is_at (nat_cmp key) id) refl (is_at (nat_cmp id) key) refl (is_one_of id ids) refl ∙ sym (list_any-append (is_at (nat_cmp id)) ids (key ∷ []))
  where
    go : (a : Bool) → is_at (nat_cmp key) id ≡ a → (b : Bool) → is_at (nat_cmp id) key ≡ b → (m : Bool) → is_one_of id ids ≡ m → cond a true (is_one_of id ids) ≡ (is_one_of id ids || (is_at (nat_cmp id) key || false))
    go true e true f true g = sym (ap (λ x. x || (is_at (nat_cmp id) key || false)) g)
    go true e true f false g = sym (ap (λ x. x || (is_at (nat_cmp id) key || false)) g ∙ ap (λ x. x || false) f)
    go true e false f m g = absurd (false≢true (sym f ∙ ap (λ n. is_at (nat_cmp id) n) (sym (key_same key id e)) ∙ at_itself id))
    go false e true f m g = absurd (false≢true (sym e ∙ ap (λ n. is_at (nat_cmp key) n) (sym (key_same id key f)) ∙ at_itself key))
    go false e false f true g = g ∙ sym (ap (λ x. x || (is_at (nat_cmp id) key || false)) g)
    go false e false f false g = g ∙ sym (ap (λ x. x || (is_at (nat_cmp id) key || false)) g ∙ ap (λ x. x || false) f)
