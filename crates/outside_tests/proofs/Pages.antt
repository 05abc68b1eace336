-- Items that open and take no numbers.
use Rattle.std.proofs.Common.{ℕ, List, ◌≡◌, ◌++◌, [], ◌∷◌, None, refl, sym, subst}
use Rattle.turn_lock.specs.Lists.{Among, EachOnce, numbers}
use Rattle.turn_lock.specs.Passes.{MayEnd}

no_numbers : {I : Type 0} (xs : List I) → numbers (λ (_ : I). None) xs ≡ []
no_numbers [] = refl
no_numbers (x ∷ xs) = no_numbers xs

-- a list that goes on from what was seen may end a turn
pub may_end : {I : Type 0} (seen : List I) (mine : List ℕ) (xs : List I) → ((rest : List I) × (xs ≡ seen ++ rest)) → MayEnd (λ (_ : I). None) (λ (_ : I). None) seen mine xs
may_end seen mine xs more = (more.0, more.1, subst EachOnce (sym (no_numbers xs)) tt, λ n among. absurd (subst (Among n) (no_numbers more.0) among))
