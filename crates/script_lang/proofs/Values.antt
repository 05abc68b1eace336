-- The value of digits.
use Rattle.std.proofs.Common.{◌≡◌, ℕ, zero, suc, ◌^◌, ◌<◌, ◌≤◌, Bool, true, false, ◌&&◌, List, [], ◌∷◌, length, get_or, Result, Ok, Err, IfSome, IfNone, refl, ap, ◌∙◌, arith}
use Rattle.std.specs.Result.{OkIff, result_ok}
use Rattle.std.specs.List.{list_all}
use Rattle.std.specs.Str.{all_ascii_digits, IsUtf8}
use Rattle.std.specs.Char.{is_ascii_digit}
use Rattle.std.specs.Str.Parse.{digits_value, ParsesUnsigned}
use Rattle.script_lang.specs.declared.numbers.Bounds.{Bounds}
use Rattle.script_lang.specs.Numbers.{is_within}
use Rattle.std.proofs.lemmas.Bool.Decides.{nat_tests}
use Rattle.std.proofs.lemmas.Str.{IsUtf8-from_ascii}
use Rattle.std.proofs.lemmas.Str.Parse.{IsNumeralModel, numerals_by_value, tells_all_ascii_digits, parse_digits}

all_digits : (ds : List ℕ) → all_ascii_digits ds ≡ list_all is_ascii_digit ds
all_digits [] = refl
all_digits (d ∷ ds) = ap (λ b. is_ascii_digit d && b) (all_digits ds)

own : IsNumeralModel (λ ds. all_ascii_digits ds ≡ true) (digits_value 10)
own = numerals_by_value (λ ds. all_ascii_digits ds ≡ true) tells_all_ascii_digits

and_parts : (a b : Bool) → (a && b) ≡ true → (a ≡ true) × (b ≡ true)
and_parts true b e = (refl, e)
and_parts false b e = absurd cc

digit_is_ascii : (b : ℕ) → is_ascii_digit b ≡ true → b < 128
digit_is_ascii b e = grind (arith, nat_tests)

digit_at : (ds : List ℕ) (i : ℕ) → all_ascii_digits ds ≡ true → get_or ds i 0 < 128
digit_at [] i e = omega arith
digit_at (b ∷ bs) zero e = digit_is_ascii b (and_parts (is_ascii_digit b) (all_ascii_digits bs) e).0
digit_at (b ∷ bs) (suc i) e = digit_at bs i (and_parts (is_ascii_digit b) (all_ascii_digits bs) e).1

-- digits are text
pub IsUtf8-digits : (ds : List ℕ) → list_all is_ascii_digit ds ≡ true → IsUtf8 ds
IsUtf8-digits ds e = IsUtf8-from_ascii ds (λ i. digit_at ds i (all_digits ds ∙ e))

not_below : (v most : ℕ) → (v < most → ⊥) → most ≤ v
not_below v most h = omega (arith, h)

value_kept : {E : Type 0} (r : Result ℕ E) (some : Type 0) (v most : ℕ) → some → OkIff r (some × (v < most)) v → IfSome (result_ok r) (λ n. n ≡ v) × IfNone (result_ok r) (most ≤ v)
value_kept (Ok n) some v most s h = (h.1, tt)
value_kept (Err e) some v most s h = (tt, not_below v most (λ below. h (s, below)))

-- what parsing digits gives
pub parsed : {E : Type 0} (ds : List ℕ) (r : Result ℕ E) → ParsesUnsigned 64 10 ds r → list_all is_ascii_digit ds ≡ true → 0 < length ds → IfSome (result_ok r) (λ n. n ≡ digits_value 10 ds) × IfNone (result_ok r) (2 ^ 64 ≤ digits_value 10 ds)
parsed ds r h e some = value_kept r (0 < length ds) (digits_value 10 ds) (2 ^ 64) some (parse_digits own 64 ds r h (all_digits ds ∙ e))

-- a value past 64 bits is out of bounds of 64 bits
pub past_bounds : (bounds : Bounds) (v : ℕ) → bounds.most < 2 ^ 64 → 2 ^ 64 ≤ v → is_within bounds v ≡ false
past_bounds bounds v most past = grind (arith, nat_tests)
