-- What a vector and a counter have after bytes taken one by one.
use Rattle.std.proofs.Common.{◌≡◌, ℕ, ◌+◌, ◌-◌, ◌^◌, ◌≤◌, List, [], ◌∷◌, ◌++◌, length, sym, ◌∙◌, arith, append_assoc}
use Rattle.std.proofs.lemmas.List.{append-nil}
use Rattle.std.specs.List.{fold}
use Rattle.command_codec.specs.Counts.{capped}

pub all_kept : (bytes more : List ℕ) → fold (λ (s : List ℕ) b. s ++ b ∷ []) bytes more ≡ bytes ++ more
all_kept bytes [] = sym (append-nil bytes)
all_kept bytes (b ∷ more) = all_kept (bytes ++ b ∷ []) more ∙ append_assoc bytes (b ∷ []) more

pub all_counted : (n : ℕ) (more : List ℕ) → n ≤ 2 ^ 64 - 1 → fold (λ (c b : ℕ). capped (c + 1)) n more ≡ capped (n + length more)
all_counted n [] h = omega (arith, h)
all_counted n (b ∷ more) h = let ih = all_counted (capped (n + 1)) more (omega (arith, h)) in omega (arith, ih, h)
