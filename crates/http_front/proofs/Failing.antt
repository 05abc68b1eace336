-- Stores that failed.
use Rattle.std.proofs.Common.{◌≡◌, ◌⊎◌, inl, inr, ℕ, ◌<◌, ◌≤◌, List, [], ◌∷◌, ◌++◌, map, ap, ◌∙◌, subst, arith}
use Rattle.std.specs.Prelude.{All}
use Rattle.std.proofs.lemmas.List.{map-append}
use Rattle.std.proofs.lemmas.List.Elements.{All-tail}
use Rattle.outside.specs.Causes.{Rose}
use Rattle.cluster_interface.specs.Starting.{HasFailed}
use Rattle.http_front.specs.Stores.{HasOneFailed}

rose_later : (a b c : ℕ) → Rose a b → b ≤ c → Rose a c
rose_later a b c rose later = omega (arith, rose, later)

rose_after : (a b c : ℕ) → a ≤ b → Rose b c → Rose a c
rose_after a b c later rose = omega (arith, later, rose)

some_fault : (n m : ℕ) → n ≡ 0 → Rose n m → 0 < m
some_fault n m zero rose = omega (arith, zero, rose)

further : (m : ℕ) (ns : List ℕ) (P : Type 0) → HasOneFailed ns ⊎ P → HasOneFailed (m ∷ ns) ⊎ P
further m ns P (inl one) = inl (inr one)
further m ns P (inr last) = inr last

last_failed : (ns : List ℕ) (n : ℕ) → HasOneFailed (ns ++ n ∷ []) → HasOneFailed ns ⊎ (0 < n)
last_failed [] n (inl last) = inr last
last_failed [] n (inr none) = absurd none
last_failed (m ∷ ns) n (inl first) = inl (inl first)
last_failed (m ∷ ns) n (inr later) = further m ns (0 < n) (last_failed ns n later)

module _ {K : Type 0} (armed faults : K → ℕ) where
  abbrev IsUnused : K → Type 0
  IsUnused k = (armed k ≡ 0) × (faults k ≡ 0)

  -- the store that could not be read has counted it
  pub one_failed : (before now : List K) → All IsUnused before → HasFailed (map faults before) (map faults now) → HasOneFailed (map faults now)
  one_failed [] now unused failed = absurd failed
  one_failed (k ∷ ks) [] unused failed = absurd failed
  one_failed (k ∷ ks) (l ∷ ls) unused (inl here) = inl (some_fault (faults k) (faults l) (unused 0 k (omega arith)).1 here.0)
  one_failed (k ∷ ks) (l ∷ ls) unused (inr later) = inr (one_failed ks ls (All-tail IsUnused k ks unused) later.1)

-- a store of which one has failed, or a count that rose for it
module _ {K : Type 0} (faults : K → ℕ) where
  pub given_back : (olds news : List K) (k : K) (a b c : ℕ) → olds ≡ news ++ k ∷ [] → HasOneFailed (map faults olds) ⊎ Rose a b → a ≤ b → (0 < faults k → Rose b c) → b ≤ c → HasOneFailed (map faults news) ⊎ Rose a c
  given_back olds news k a b c e (inl one) low rose later =
      by_last (last_failed (map faults news) (faults k) (subst HasOneFailed (ap (map faults) e ∙ map-append faults news (k ∷ [])) one))
    where
      by_last : HasOneFailed (map faults news) ⊎ (0 < faults k) → HasOneFailed (map faults news) ⊎ Rose a c
      by_last (inl other) = inl other
      by_last (inr last) = inr (rose_after a b c low (rose last))
  given_back olds news k a b c e (inr risen) low rose later = inr (rose_later a b c risen later)

  pub all_given_back : (ks : List K) (a b : ℕ) → ks ≡ [] → HasOneFailed (map faults ks) ⊎ Rose a b → Rose a b
  all_given_back ks a b none (inl one) = absurd (subst HasOneFailed (ap (map faults) none) one)
  all_given_back ks a b none (inr risen) = risen
