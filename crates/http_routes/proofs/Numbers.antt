-- The value of digits.
use Rattle.std.proofs.Common.{◌≡◌, ℕ, ◌^◌, ◌<◌, Bool, true, false, ◌&&◌, nat_le, nat_lt, cond, List, [], ◌∷◌, length, None, Some, Result, Ok, Err, refl, sym, ap, ◌∙◌, arith}
use Rattle.std.specs.Result.{OkIff, result_ok}
use Rattle.std.specs.List.{list_all}
use Rattle.std.specs.Str.{all_ascii_digits}
use Rattle.std.specs.Char.{is_ascii_digit}
use Rattle.std.specs.Str.Parse.{digits_value, ParsesUnsigned}
use Rattle.std.proofs.lemmas.Bool.{and_parts, cond-true, cond-false}
use Rattle.std.proofs.lemmas.Bool.Decides.{nat_tests}
use Rattle.std.proofs.lemmas.Str.Parse.{IsNumeralModel, numerals_by_value, tells_all_ascii_digits, parse_digits}
use Rattle.http_routes.specs.Params.{is_digits, number_named}

all_digits : (ds : List ℕ) → all_ascii_digits ds ≡ list_all is_ascii_digit ds
all_digits [] = refl
all_digits (d ∷ ds) = ap (λ b. is_ascii_digit d && b) (all_digits ds)

own : IsNumeralModel (λ ds. all_ascii_digits ds ≡ true) (digits_value 10)
own = numerals_by_value (λ ds. all_ascii_digits ds ≡ true) tells_all_ascii_digits

filled : (n m : ℕ) → (nat_lt 0 n && nat_le n m) ≡ true → 0 < n
filled n m e = grind (arith, nat_tests)

below : (v most : ℕ) → v < most → nat_lt v most ≡ true
below v most h = grind (arith, nat_tests)

past : (v most : ℕ) → (v < most → ⊥) → nat_lt v most ≡ false
past v most h = grind (arith, nat_tests, h)

kept : {E : Type 0} (r : Result ℕ E) (some : Type 0) (v most : ℕ) → some → OkIff r (some × (v < most)) v → result_ok r ≡ cond (nat_lt v most) (Some v) None
kept (Ok n) some v most s h = ap Some h.1 ∙ sym (cond-true _ (Some v) None (below v most h.0.1))
kept (Err e) some v most s h = sym (cond-false _ (Some v) None (past v most (λ less. h (s, less))))

digits_named : (b c : Bool) (v : ℕ) → b ≡ true → cond c (Some v) None ≡ cond (b && c) (Some v) None
digits_named true c v e = refl
digits_named false c v e = absurd cc

pub number_is : {E : Type 0} (ds : List ℕ) (r : Result ℕ E) → ParsesUnsigned 64 10 ds r → is_digits ds ≡ true → result_ok r ≡ number_named ds
unfolding number_named
number_is ds r h e =
    let parts = and_parts (nat_lt 0 (length ds) && nat_le (length ds) 20) (list_all is_ascii_digit ds) e in
    kept r (0 < length ds) (digits_value 10 ds) (2 ^ 64) (filled (length ds) 20 parts.0) (parse_digits own 64 ds r h (all_digits ds ∙ parts.1))
    ∙ digits_named (is_digits ds) (nat_lt (digits_value 10 ds) (2 ^ 64)) (digits_value 10 ds) e
