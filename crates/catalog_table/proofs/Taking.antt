-- Where the rows that pass a test are taken out one after another, the others are left.
use Rattle.std.proofs.Common.{◌≡◌, Bool, true, false, not, ◌&&◌, ◌||◌, cond, List, [], ◌∷◌, refl, sym, ◌∙◌, ap, filter}
use Rattle.std.specs.List.{AllByRecursion, list_any}
use Rattle.std.specs.Cmp.{IsTotalOrder}
use Rattle.std.specs.declared.cmp.Ordering.{Ordering}
use Rattle.std.specs.declared.cmp.Ordering.TheVariants.{Less}
use Rattle.std.specs.Ordering.{is_eq, ordering_reverse}
use Rattle.std.proofs.lemmas.Cmp.{tied_itself}
use Rattle.cat_model.specs.Tables.{without, Ascends}
use Rattle.cat_model.proofs.TableLemmas.{All-filter, All-weaker}
use Rattle.row_table.proofs.FiledUnder.{both_tests, same_test}
use Rattle.catalog_table.specs.Takes.{without_each}
use Rattle.catalog_table.proofs.Parts.{filter_all}

-- tests that agree on the rows
same_on : {R : Type 0} (p q : R → Bool) (rows : List R) → AllByRecursion (λ r. p r ≡ q r) rows → filter p rows ≡ filter q rows
same_on p q [] all = refl
same_on p q (r ∷ rows) all = ap (λ b. cond b (r ∷ filter p rows) (filter p rows)) all.0 ∙ ap (λ l. cond (q r) (r ∷ l) l) (same_on p q rows all.1)

neither : (a b : Bool) → (not a && not b) ≡ not (a || b)
neither true b = refl
neither false b = refl

module _ {K R : Type 0} (cmp : K → K → Ordering) (key : R → K) (total : IsTotalOrder cmp) where
  -- the row has the key of one of these
  abbrev is_gone : List R → R → Bool
  is_gone gone q = list_any (λ r. is_eq (cmp (key r) (key q))) gone

  each_is : (gone rows : List R) → without_each cmp key gone rows ≡ without (is_gone gone) rows
  each_is [] rows = sym (filter_all rows)
  each_is (r ∷ gone) rows =
      each_is gone (without (λ q. is_eq (cmp (key r) (key q))) rows) ∙ both_tests (λ q. not (is_eq (cmp (key r) (key q)))) (λ q. not (is_gone gone q)) rows
      ∙ same_test (λ q. not (is_eq (cmp (key r) (key q))) && not (is_gone gone q)) (λ q. not (is_gone (r ∷ gone) q)) rows (λ q. neither (is_eq (cmp (key r) (key q))) (is_gone gone q))

  none_above : (q : R) (xs : List R) → AllByRecursion (λ s. cmp (key q) (key s) ≡ Less) xs → is_gone xs q ≡ false
  none_above q [] all = refl
  none_above q (s ∷ xs) all = ap (λ o. is_eq o || is_gone xs q) (total.antisymm (key s) (key q) ∙ ap ordering_reverse all.0) ∙ none_above q xs all.1

  behind : (test : R → Bool) (r : R) (gone xs : List R) → AllByRecursion (λ s. cmp (key r) (key s) ≡ Less) xs → AllByRecursion (λ q. is_gone gone q ≡ test q) xs → AllByRecursion (λ q. is_gone (r ∷ gone) q ≡ test q) xs
  behind test r gone [] above all = tt
  behind test r gone (q ∷ xs) above all = (ap (λ o. is_eq o || is_gone gone q) above.0 ∙ all.0, behind test r gone xs above.1 all.1)

  each_gone : (test : R → Bool) (rows : List R) → Ascends cmp key rows → AllByRecursion (λ q. is_gone (filter test rows) q ≡ test q) rows
  each_gone test [] asc = tt
  each_gone test (r ∷ rows) asc = go (test r) refl (each_gone test rows asc.1)
    where
      left : List R
      left = filter test rows

      go : (b : Bool) → test r ≡ b → AllByRecursion (λ q. is_gone left q ≡ test q) rows → (is_gone (cond b (r ∷ left) left) r ≡ test r) × AllByRecursion (λ q. is_gone (cond b (r ∷ left) left) q ≡ test q) rows
      go true e rest = (ap (λ o. is_eq o || is_gone left r) (tied_itself total (key r)) ∙ sym e, behind test r left rows asc.0 rest)
      go false e rest = (none_above r left (All-filter (λ s. cmp (key r) (key s) ≡ Less) test rows asc.0) ∙ sym e, rest)

  pub taken : (test : R → Bool) (rows : List R) → Ascends cmp key rows → without_each cmp key (filter test rows) rows ≡ without test rows
  taken test rows asc =
      each_is (filter test rows) rows
      ∙ same_on (λ q. not (is_gone (filter test rows) q)) (λ q. not (test q)) rows
      (All-weaker (λ q. is_gone (filter test rows) q ≡ test q) (λ q. not (is_gone (filter test rows) q) ≡ not (test q)) (λ q e. ap not e) rows (each_gone test rows asc))
