-- A number taken byte after byte.
use Rattle.std.proofs.Common.{◌≡◌, ℕ, zero, suc, ◌+◌, ◌*◌, ◌/◌, ◌%◌, ◌^◌, ◌<◌, ◌≤◌, [], ◌∷◌, refl, sym, ap, ◌∙◌, arith}
use Rattle.std.proofs.Math.Nat.{pow-suc}
use Rattle.std.specs.List.{fold}
use Rattle.cat_model.specs.Spelling.{number_within}
use Rattle.cat_model.proofs.SpellingFields.{low_byte, high_byte, number_end}

-- what is seen after the bytes so far of a number, and what is left of it, which so many more bytes hold
pub record Going {S : Type 0} (after : S → ℕ → S) (first seen : S) (n rest : ℕ) : Type 0 where
  pub more : ℕ
  pub fits : rest < 128 ^ (suc more)
  pub so_far : fold after seen (number_within more rest) ≡ fold after first (number_within 9 n)

pub start : {S : Type 0} (after : S → ℕ → S) (first : S) (n : ℕ) → n < 2 ^ 64 → Going after first first n n
start after first n h = record { more = 9; fits = omega arith; so_far = refl }

less : (k rest : ℕ) → rest < 128 ^ (suc (suc k)) → rest / 128 < 128 ^ (suc k)
less k rest h = let e : 128 ^ (suc (suc k)) ≡ 128 ^ (suc k) * 128 = pow-suc 128 (suc k) in omega arith

one_more : {S : Type 0} (after : S → ℕ → S) (first seen : S) (k n rest : ℕ) → rest < 128 ^ (suc k) → fold after seen (number_within k rest) ≡ fold after first (number_within 9 n) → 128 ≤ rest → Going after first (after seen (128 + rest % 128)) n (rest / 128)
one_more after first seen zero n rest f e h = absurd (omega arith)
one_more after first seen (suc k) n rest f e h = record {
  more = k;
  fits = less k rest f;
  so_far = ap (λ bytes. fold after seen bytes) (sym (high_byte k rest h)) ∙ e;
}

pub goes_on : {S : Type 0} (after : S → ℕ → S) (first seen : S) (n rest : ℕ) → Going after first seen n rest → 128 ≤ rest → Going after first (after seen (128 + rest % 128)) n (rest / 128)
goes_on after first seen n rest g h = one_more after first seen g.more n rest g.fits g.so_far h

pub last : (k rest : ℕ) → rest < 128 → number_within k rest ≡ rest ∷ []
last zero rest h = number_end rest
last (suc k) rest h = low_byte k rest h

pub ends : {S : Type 0} (after : S → ℕ → S) (first seen : S) (n rest : ℕ) → Going after first seen n rest → rest < 128 → after seen rest ≡ fold after first (number_within 9 n)
ends after first seen n rest g h = ap (λ bytes. fold after seen bytes) (sym (last g.more rest h)) ∙ g.so_far
