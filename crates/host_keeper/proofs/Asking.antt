-- Servers that are asked one after the other, and answers that are handed on.
use Rattle.std.proofs.Common.{◌≡◌, ℕ, ◌+◌, ◌<◌, ◌≤◌, sym, subst, arith, ◌⊎◌, inl, inr, Result, Err, IfErr}
use Rattle.std.proofs.Math.Nat.{eq-or-lt_of_le}

-- what holds below a number, and of it, holds below the next one
module _ (P : ℕ → Type 0) where
  more_at : (n s : ℕ) → (s ≡ n) ⊎ (s < n) → (s < n → P s) → P n → P s
  more_at n s (inl e) below here = subst P (sym e) here
  more_at n s (inr b) below here = below b

  pub more : (n s : ℕ) → s < n + 1 → (s < n → P s) → P n → P s
  more n s b below here = let within : s ≤ n = omega (arith, b) in more_at n s (eq-or-lt_of_le within) below here

-- an error that is handed on is of the same kind
pub if_err : {A E : Type 0} (P : E → Type 0) (r : Result A E) (e : E) → r ≡ Err e → P e → IfErr r P
if_err P r e is p = subst (λ z. IfErr z P) (sym is) p
