-- The checks that count for a service: those of its node alone, and its own.
use Rattle.std.proofs.Common.{◌≡◌, ℕ, Bool, true, false, List, [], ◌∷◌, ◌++◌, refl, sym, ◌∙◌, ap, subst, filter, ◌&&◌, ◌||◌}
use Rattle.std.specs.List.Sorted.{IsPermutation, IsSortedBy}
use Rattle.std.specs.Ordering.{is_lt}
use Rattle.std.proofs.lemmas.Bool.{true≢false, and_parts}
use Rattle.cat_model.specs.Keys.{pair_cmp, same_text, is_empty}
use Rattle.cat_model.specs.Catalog.{check_key}
use Rattle.cat_model.specs.Tables.{Ascends}
use Rattle.cat_model.specs.declared.row.CheckRow.{CheckRow}
use Rattle.cat_model.proofs.Pairs.{pair_cmp_total}
use Rattle.cat_model.proofs.SameLemmas.{text_decides}
use Rattle.cat_model.proofs.TableLemmas.{Ascends-filter}
use Rattle.row_table.proofs.FiledUnder.{same_test}
use Rattle.catalog_table.proofs.Sorting.{either_moved, sorted_is}

abbrev pub is_served : List ℕ → List ℕ → CheckRow → Bool
is_served node service c = same_text c.node node && same_text c.service service

abbrev pub counts : List ℕ → List ℕ → CheckRow → Bool
counts node service c = same_text c.node node && (is_empty c.service || same_text c.service service)

blank_is : (s : List ℕ) → same_text s [] ≡ is_empty s
blank_is [] = refl
blank_is (x ∷ xs) = refl

twice : (a : Bool) → a ≡ (a || a)
twice true = refl
twice false = refl

both : (n a b : Bool) → ((n && a) || (n && b)) ≡ (n && (a || b))
both true a b = refl
both false a b = refl

module _ (node service : List ℕ) (rows : List CheckRow) where
  pub counts_blank : is_empty service ≡ true → filter (is_served node []) rows ≡ filter (counts node service) rows
  counts_blank blank = same_test (is_served node []) (counts node service) rows (λ c. ap (λ b. same_text c.node node && b) (alone c service blank))
    where
      alone : (c : CheckRow) (id : List ℕ) → is_empty id ≡ true → same_text c.service [] ≡ (is_empty c.service || same_text c.service id)
      alone c [] e = twice (same_text c.service []) ∙ ap (λ b. b || same_text c.service []) (blank_is c.service)
      alone c (x ∷ xs) e = absurd (true≢false (sym e))

  other : is_empty service ≡ false → (c : CheckRow) → is_served node [] c ≡ true → is_served node service c ≡ false
  other some c own = go (is_served node service c) refl
    where
      go : (b : Bool) → is_served node service c ≡ b → is_served node service c ≡ false
      go false e = e
      go true e =
          let none : c.service ≡ [] = (text_decides c.service []).0 (and_parts (same_text c.node node) (same_text c.service []) own).1 in
          let its : c.service ≡ service = (text_decides c.service service).0 (and_parts (same_text c.node node) (same_text c.service service) e).1 in
          absurd (true≢false (ap is_empty (sym none ∙ its) ∙ some))

  pub counts_sorted : (xs ys : List CheckRow) → is_empty service ≡ false → Ascends pair_cmp check_key rows → xs ≡ filter (is_served node []) rows ++ filter (is_served node service) rows → IsPermutation xs ys
      → IsSortedBy (λ a b. is_lt (pair_cmp (check_key a) (check_key b))) ys → ys ≡ filter (counts node service) rows
  counts_sorted xs ys some asc are moved sorted =
      sorted_is pair_cmp check_key pair_cmp_total xs ys (filter (λ c. is_served node [] c || is_served node service c) rows) moved sorted
      (subst (λ l. IsPermutation l (filter (λ c. is_served node [] c || is_served node service c) rows)) (sym are) (either_moved (is_served node []) (is_served node service) (other some) rows))
      (Ascends-filter pair_cmp check_key pair_cmp_total (λ c. is_served node [] c || is_served node service c) rows asc)
      ∙ same_test (λ c. is_served node [] c || is_served node service c) (counts node service) rows (λ c. both (same_text c.node node) (same_text c.service []) (same_text c.service service) ∙ ap (λ b. same_text c.node node && (b || same_text c.service service)) (blank_is c.service))
