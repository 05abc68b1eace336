-- The rows that pass a test, and those that fail it.
use Rattle.std.proofs.Common.{◌≡◌, Bool, true, false, not, cond, List, ◌∷◌, ◌++◌, refl, sym, ◌∙◌, ap, Option, Some, None, ◌||◌, filter}
use Rattle.std.specs.List.{cons_option, list_any}
use Rattle.std.proofs.lemmas.List.Elements.{filter-append, filter_map-append}
use Rattle.std.proofs.lemmas.List.Folds.{list_any-append}
use Rattle.cat_model.specs.Tables.{without}
use Rattle.row_table.specs.Slots.{now_of, rows_now}
use Rattle.row_table.specs.Tests.{passes, passing, failing}
use Rattle.row_table.specs.declared.slot.Slot.{Slot}

module _ {R : Type 0} (test : R → Bool) where
  pub failing_passed : (o : Option R) → passes test o ≡ true → failing test o ≡ None
  failing_passed None h = refl
  failing_passed (Some r) h = ap (λ b. cond b None (Some r)) h

  pub failing_failed : (o : Option R) → passes test o ≡ false → failing test o ≡ o
  failing_failed None h = refl
  failing_failed (Some r) h = ap (λ b. cond b None (Some r)) h

  -- the rows that fail among slots around one
  left_cons : (o : Option R) (rows : List R) → cons_option (failing test o) (without test rows) ≡ without test (cons_option o rows)
  left_cons None rows = refl
  left_cons (Some r) rows = go (test r)
    where
      go : (b : Bool) → cons_option (cond b None (Some r)) (without test rows) ≡ cond (not b) (r ∷ without test rows) (without test rows)
      go true = refl
      go false = refl

  pub left_around : (a a' : List (Slot R)) (s s' : Slot R) (b b' : List (Slot R)) → rows_now a' ≡ without test (rows_now a) → now_of s' ≡ failing test (now_of s) → rows_now b' ≡ without test (rows_now b) → rows_now (a' ++ s' ∷ b') ≡ without test (rows_now (a ++ s ∷ b))
  left_around a a' s s' b b' low mid high =
      filter_map-append now_of a' (s' ∷ b') ∙ (λ i. low i ++ cons_option (mid i) (high i)) ∙ ap (λ l. without test (rows_now a) ++ l) (left_cons (now_of s) (rows_now b)) ∙ sym (filter-append _ (rows_now a) (cons_option (now_of s) (rows_now b))) ∙ ap (without test) (sym (filter_map-append now_of a (s ∷ b)))

  any_cons : (o : Option R) (rows : List R) → list_any test (cons_option o rows) ≡ (passes test o || list_any test rows)
  any_cons None rows = refl
  any_cons (Some r) rows = refl

  -- whether a row passes among slots around one
  pub any_around : (a : List (Slot R)) (s : Slot R) (b : List (Slot R)) → list_any test (rows_now (a ++ s ∷ b)) ≡ (list_any test (rows_now a) || (passes test (now_of s) || list_any test (rows_now b)))
  any_around a s b = ap (list_any test) (filter_map-append now_of a (s ∷ b)) ∙ list_any-append test (rows_now a) (cons_option (now_of s) (rows_now b)) ∙ ap (λ x. list_any test (rows_now a) || x) (any_cons (now_of s) (rows_now b))

  passing_cons : (o : Option R) (rows : List R) → filter test (cons_option o rows) ≡ cons_option (passing test o) (filter test rows)
  passing_cons None rows = refl
  passing_cons (Some r) rows = go (test r)
    where
      go : (b : Bool) → cond b (r ∷ filter test rows) (filter test rows) ≡ cons_option (cond b (Some r) None) (filter test rows)
      go true = refl
      go false = refl

  pub passing_around : (a : List (Slot R)) (s : Slot R) (b : List (Slot R)) → filter test (rows_now (a ++ s ∷ b)) ≡ filter test (rows_now a) ++ cons_option (passing test (now_of s)) (filter test (rows_now b))
  passing_around a s b = ap (filter test) (filter_map-append now_of a (s ∷ b)) ∙ filter-append test (rows_now a) (cons_option (now_of s) (rows_now b)) ∙ ap (λ l. filter test (rows_now a) ++ l) (passing_cons (now_of s) (rows_now b))
