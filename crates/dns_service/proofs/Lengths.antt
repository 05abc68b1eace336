-- A name goes on length by length.
use Rattle.std.proofs.Common.{◌≡◌, ℕ, zero, suc, ◌-◌, ◌==◌, ◌<◌, ◌≤◌, nat_lt, false, true, Option, List, [], ◌∷◌, length, take, drop, Some, None, refl, ap, sym, ◌∙◌, arith, length-drop}
use Rattle.std.proofs.lemmas.Bool.{cond-true, cond-false}
use Rattle.std.proofs.lemmas.Bool.Decides.{nat_tests}
use Rattle.dns_service.specs.Names.{labels_in}
use Rattle.dns_service.proofs.Points.{take-rest}

-- no length may follow
pub no_length : (found : List (List ℕ)) (bytes : List ℕ) → labels_in 0 found bytes ≡ None
unfolding labels_in
no_length found bytes = refl

-- no length follows
pub no_byte : (n : ℕ) (found : List (List ℕ)) → labels_in n found [] ≡ None
unfolding labels_in
no_byte zero found = refl
no_byte (suc n) found = refl

-- the name ends
pub name_end : (n : ℕ) (found : List (List ℕ)) (bytes : List ℕ) → 0 < n → labels_in n found (0 ∷ bytes) ≡ Some (found, bytes)
unfolding labels_in
name_end zero found bytes some = absurd (omega arith)
name_end (suc n) found bytes some = refl

-- a label follows
pub next_label : (n : ℕ) (found : List (List ℕ)) (l : ℕ) (bytes : List ℕ) → 0 < n → 0 < l → l ≤ 63 → l ≤ length bytes
    → labels_in n found (l ∷ bytes) ≡ labels_in (n - 1) (take l bytes ∷ found) (drop l bytes)
unfolding labels_in
next_label zero found l bytes some least most fits = absurd (omega arith)
next_label (suc n) found l bytes some least most fits =
    let e : suc n - 1 ≡ n = omega arith in
    let a : (l == 0) ≡ false = grind (arith, nat_tests) in
    let b : nat_lt 63 l ≡ false = grind (arith, nat_tests) in
    let d : nat_lt (length bytes) l ≡ false = grind (arith, nat_tests) in
    rw e (cond-false (l == 0) _ _ a ∙ (cond-false (nat_lt 63 l) _ _ b ∙ cond-false (nat_lt (length bytes) l) _ _ d))

-- a length is no label's
pub not_a_label : (n : ℕ) (found : List (List ℕ)) (l : ℕ) (bytes : List ℕ) → 63 < l → labels_in n found (l ∷ bytes) ≡ None
unfolding labels_in
not_a_label zero found l bytes much = refl
not_a_label (suc n) found l bytes much =
    let a : (l == 0) ≡ false = grind (arith, nat_tests) in
    let b : nat_lt 63 l ≡ true = grind (arith, nat_tests) in
    cond-false (l == 0) _ _ a ∙ cond-true (nat_lt 63 l) _ _ b

-- a label is cut off
pub cut_label : (n : ℕ) (found : List (List ℕ)) (l : ℕ) (bytes : List ℕ) → 0 < l → l ≤ 63 → length bytes < l → labels_in n found (l ∷ bytes) ≡ None
unfolding labels_in
cut_label zero found l bytes least most short = refl
cut_label (suc n) found l bytes least most short =
    let a : (l == 0) ≡ false = grind (arith, nat_tests) in
    let b : nat_lt 63 l ≡ false = grind (arith, nat_tests) in
    let d : nat_lt (length bytes) l ≡ true = grind (arith, nat_tests) in
    cond-false (l == 0) _ _ a ∙ (cond-false (nat_lt 63 l) _ _ b ∙ cond-true (nat_lt (length bytes) l) _ _ d)

no_bytes : (rest : List ℕ) → length rest ≡ 0 → rest ≡ []
no_bytes [] none = refl
no_bytes (b ∷ rest) none = absurd (omega arith)

-- ---- what is left of a name is read on

module _ (n : ℕ) (found : List (List ℕ)) (rest : List ℕ) (all : Option (List (List ℕ) × List ℕ)) (told : labels_in n found rest ≡ all) where
  pub ends_unread : n ≡ 0 → None ≡ all
  ends_unread none = sym (no_length found rest) ∙ (ap (λ k. labels_in k found rest) (sym none) ∙ told)

  pub ends_early : length rest ≡ 0 → None ≡ all
  ends_early none = sym (no_byte n found) ∙ (ap (λ bytes. labels_in n found bytes) (sym (no_bytes rest none)) ∙ told)

  module _ (l : ℕ) (more : List ℕ) (first : rest ≡ l ∷ more) where
    at_first : labels_in n found (l ∷ more) ≡ all
    at_first = ap (λ bytes. labels_in n found bytes) (sym first) ∙ told

    pub ends : (labels : List (List ℕ)) → 0 < n → l ≡ 0 → labels ≡ found → Some (labels, more) ≡ all
    ends labels some zero_is same =
        ap (λ ls. Some (ls, more)) same ∙ (sym (name_end n found more some) ∙ (ap (λ k. labels_in n found (k ∷ more)) (sym zero_is) ∙ at_first))

    pub is_long : 63 < l → None ≡ all
    is_long much = sym (not_a_label n found l more much) ∙ at_first

    pub is_cut : 0 < l → l ≤ 63 → length more < l → None ≡ all
    is_cut least most short = sym (cut_label n found l more least most short) ∙ at_first

    pub goes_on : (labels : List (List ℕ)) (label : List ℕ) → 0 < n → 0 < l → l ≤ 63 → l ≤ length more → label ≡ take l more → labels ≡ label ∷ found
        → labels_in (n - 1) labels (take (length more - l) (drop l more)) ≡ all
    goes_on labels label some least most fits label_is labels_are =
        ap (λ ls. labels_in (n - 1) ls (take (length more - l) (drop l more))) (labels_are ∙ ap (λ x. x ∷ found) label_is)
        ∙ (ap (λ bytes. labels_in (n - 1) (take l more ∷ found) bytes) (take-rest more l) ∙ (sym (next_label n found l more some least most fits) ∙ at_first))

-- what is behind a label is no longer
pub behind_within : (more : List ℕ) (l : ℕ) → length (take (length more - l) (drop l more)) ≤ length more
behind_within more l = rw (take-rest more l) (omega (arith, length-drop l more))
