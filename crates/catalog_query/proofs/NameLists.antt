-- Names that are sorted, and then each taken once, and the tags of services.
use Rattle.std.proofs.Common.{◌≡◌, ◌∙◌, ℕ, Bool, true, false, cond, List, [], ◌∷◌, ◌++◌, ◌||◌, Some, refl, sym, ap, is_some}
use Rattle.std.specs.Cmp.Lexicographic.{texts_ties}
use Rattle.std.specs.List.{list_any, dedup, dedup_from}
use Rattle.std.specs.List.Sorted.{IsPermutation, IsSorted, IsStrictlySortedBy}
use Rattle.std.specs.Ordering.{is_eq}
use Rattle.std.proofs.lemmas.Cmp.{nat_list_cmp_total}
use Rattle.std.proofs.lemmas.List.Kept.{IsStrictlySortedBy-dedup}
use Rattle.std.proofs.lemmas.List.Sorted.{list_any-IsPermutation}
use Rattle.std.proofs.lemmas.Map.Lookups.{exact_bytes}
use Rattle.cat_model.specs.Keys.{text_cmp, same_text}
use Rattle.cat_model.specs.Lists.{flat}
use Rattle.cat_model.specs.Queries.{all_names, all_tags}
use Rattle.cat_model.specs.Tables.{Ascends, row_at}
use Rattle.cat_model.specs.declared.row.ServiceRow.{ServiceRow}
use Rattle.cat_model.proofs.Lookups.{row_at-put}
use Rattle.cat_model.proofs.SameLemmas.{text_decides}
use Rattle.cat_model.proofs.TableLemmas.{Ascends-put}
use Rattle.row_table.proofs.FiledUnder.{same_keys}

-- where a test does not tell two items apart that count as one, it finds the same in a list with each of these once
module _ {X : Type 0} (same : X → X → Bool) (test : X → Bool) (alike : (x y : X) → same x y ≡ true → test x ≡ test y) where
  or_twice : (a b : Bool) → (a || b) ≡ (a || (a || b))
  or_twice true b = refl
  or_twice false b = refl

  any_from : (k : X) (xs : List X) → list_any test (dedup_from same k xs) ≡ (test k || list_any test xs)
  any_from k [] = refl
  any_from k (x ∷ xs) = go (same x k) refl (any_from k xs) (any_from x xs)
    where
      go : (b : Bool) → same x k ≡ b → list_any test (dedup_from same k xs) ≡ (test k || list_any test xs) → list_any test (dedup_from same x xs) ≡ (test x || list_any test xs)
          → list_any test (cond b (dedup_from same k xs) (k ∷ dedup_from same x xs)) ≡ (test k || (test x || list_any test xs))
      go true e skips goes = skips ∙ or_twice (test k) (list_any test xs) ∙ ap (λ b. test k || (b || list_any test xs)) (sym (alike x k e))
      go false e skips goes = ap (λ b. test k || b) goes

  any_dedup : (xs : List X) → list_any test (dedup same xs) ≡ list_any test xs
  any_dedup [] = refl
  any_dedup (x ∷ xs) = any_from x xs

-- the name is one of these
abbrev is_one : List ℕ → List ℕ → Bool
is_one name n = is_eq (text_cmp name n)

abbrev has : List ℕ → List (List ℕ) → Bool
has name names = is_some (row_at text_cmp (λ (n : List ℕ). n) name names)

has_is : (name : List ℕ) (names : List (List ℕ)) → has name names ≡ list_any (is_one name) names
has_is name [] = refl
has_is name (n ∷ ns) = go (is_one name n) (has_is name ns)
  where
    go : (b : Bool) → has name ns ≡ list_any (is_one name) ns → is_some (cond b (Some n) (row_at text_cmp (λ (m : List ℕ). m) name ns)) ≡ (b || list_any (is_one name) ns)
    go true rest = refl
    go false rest = rest

has_all : (name : List ℕ) (names : List (List ℕ)) → has name (all_names names) ≡ list_any (is_one name) names
has_all name [] = refl
has_all name (n ∷ ns) = ap is_some (row_at-put text_cmp (λ (m : List ℕ). m) nat_list_cmp_total exact_bytes name n (all_names ns)) ∙ go (is_one name n) (has_all name ns)
  where
    go : (b : Bool) → has name (all_names ns) ≡ list_any (is_one name) ns → is_some (cond b (Some n) (row_at text_cmp (λ (m : List ℕ). m) name (all_names ns))) ≡ (b || list_any (is_one name) ns)
    go true rest = refl
    go false rest = rest

names_ascend : (names : List (List ℕ)) → Ascends text_cmp (λ (n : List ℕ). n) (all_names names)
names_ascend [] = tt
names_ascend (n ∷ ns) = Ascends-put text_cmp (λ (m : List ℕ). m) nat_list_cmp_total n (all_names ns) (names_ascend ns)

ascending : (names : List (List ℕ)) → IsStrictlySortedBy text_cmp names → Ascends text_cmp (λ (n : List ℕ). n) names
unfolding IsStrictlySortedBy
ascending [] asc = tt
ascending (n ∷ ns) asc = (asc.0, ascending ns asc.1)

-- what a sort leaves of names, where each is then taken once
pub names_are : (names sorted : List (List ℕ)) → IsPermutation names sorted → IsSorted text_cmp sorted → dedup same_text sorted ≡ all_names names
names_are names sorted moved up =
    same_keys text_cmp nat_list_cmp_total exact_bytes (dedup same_text sorted) (all_names names)
    (ascending (dedup same_text sorted) (IsStrictlySortedBy-dedup nat_list_cmp_total texts_ties sorted up))
    (names_ascend names)
    (λ name.
    has_is name (dedup same_text sorted)
    ∙ any_dedup same_text (is_one name) (λ x y e. ap (is_one name) ((text_decides x y).0 e)) sorted
    ∙ sym (list_any-IsPermutation (is_one name) names sorted moved)
    ∙ sym (has_all name names))

pub tags_are : (services : List ServiceRow) → flat (λ s. s.tags) services ≡ all_tags services
tags_are [] = refl
tags_are (s ∷ services) = ap (λ l. s.tags ++ l) (tags_are services)
