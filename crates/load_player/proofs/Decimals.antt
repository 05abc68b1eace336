-- What the decimal text of a number is made of.
use Rattle.std.proofs.Common.{◌≡◌, ℕ, zero, suc, ◌+◌, ◌<◌, ◌≤◌, ◌^◌, ◌%◌, ◌/◌, Bool, true, false, not, nat_eq, nat_lt, ◌&&◌, ◌||◌, cond, List, [], ◌∷◌, ◌++◌, length, length-append, slice_index, Ok, Err, refl, ap, ◌∙◌, arith}
use Rattle.std.specs.Char.{is_ascii_digit}
use Rattle.std.specs.Fmt.{decimal}
use Rattle.std.specs.List.{list_all}
use Rattle.std.proofs.lemmas.Bool.Decides.{nat_tests}
use Rattle.std.proofs.lemmas.Fmt.{decimal_by_steps, decimal_digit, decimal_is_IsNumeral, decimal_nonempty}
use Rattle.std.proofs.lemmas.List.Folds.{list_all-append}
use Rattle.script_lang.specs.declared.bad_line.BadLine.TheVariants.{BadNumber}
use Rattle.script_lang.specs.declared.numbers.Bounds.{Bounds}
use Rattle.script_lang.specs.Numbers.{is_number, is_within, number_in}

pub and_true : (a b : Bool) → a ≡ true → b ≡ true → (a && b) ≡ true
and_true a b e f = ap (λ t. t && b) e ∙ f

pub all_append : (p : ℕ → Bool) (a b : List ℕ) → list_all p a ≡ true → list_all p b ≡ true → list_all p (a ++ b) ≡ true
all_append p a b e f = list_all-append p a b ∙ and_true (list_all p a) (list_all p b) e f

one_passes : (p : ℕ → Bool) (b : ℕ) → p b ≡ true → list_all p (b ∷ []) ≡ true
one_passes p b e = and_true (p b) true e refl

last_digit : (m : ℕ) → m % 10 < 10
last_digit m = omega arith

-- each digit passes where all ten do
pub decimal_all : (p : ℕ → Bool) → ((d : ℕ) → d < 10 → p (48 + d) ≡ true) → (n : ℕ) → n < 2 ^ 64 → list_all p (decimal n) ≡ true
decimal_all p digit =
    decimal_by_steps (λ m ds. list_all p ds ≡ true)
    (λ m small. one_passes p (48 + m) (digit m small))
    (λ m ds some so_far. all_append p ds ((48 + m % 10) ∷ []) so_far (one_passes p (48 + m % 10) (digit (m % 10) (last_digit m))))

digit_digit : (d : ℕ) → d < 10 → is_ascii_digit (48 + d) ≡ true
digit_digit d small = grind (arith, nat_tests)

-- no zero stands in front
first_digit : (m : ℕ) → m < 10 → 0 < m → nat_eq (48 + m) 48 ≡ false
first_digit m small some = grind (arith, nat_tests)

first_kept : (ds : List ℕ) (d : ℕ) → 0 < length ds → slice_index (ds ++ d ∷ []) 0 ≡ slice_index ds 0
first_kept [] d some = absurd (omega (arith, some))
first_kept (x ∷ ds) d some = refl

more_than_none : (ds : List ℕ) (d : ℕ) → 0 < length (ds ++ d ∷ [])
more_than_none ds d = omega (arith, length-append ds (d ∷ []))

not_small : (m : ℕ) → 10 ≤ m → 0 < m / 10
not_small m some = omega (arith, some)

-- the text has a digit, and no zero in front of another one
leads : (n : ℕ) → n < 2 ^ 64 → (0 < length (decimal n)) × (0 < n → nat_eq (slice_index (decimal n) 0) 48 ≡ false)
leads =
    decimal_by_steps (λ m ds. (0 < length ds) × (0 < m → nat_eq (slice_index ds 0) 48 ≡ false))
    (λ m small. (omega arith, first_digit m small))
    (λ m ds some so_far. (more_than_none ds (48 + m % 10), λ positive. ap (λ x. nat_eq x 48) (first_kept ds (48 + m % 10) so_far.0) ∙ so_far.1 (not_small m some)))

some_length : (n : ℕ) → 0 < n → nat_lt 0 n ≡ true
some_length n some = grind (arith, nat_tests)

pub is_some_text : (n : ℕ) → n < 2 ^ 64 → nat_lt 0 (length (decimal n)) ≡ true
is_some_text n small = some_length (length (decimal n)) (decimal_nonempty n small)

or_true : (a b : Bool) → b ≡ false → (a || not b) ≡ true
or_true true b e = refl
or_true false b e = ap not e

number_text : (n : ℕ) → n < 2 ^ 64 → is_number (decimal n) ≡ true
number_text zero small = ap is_number (decimal_digit 0 (omega arith))
number_text (suc n) small =
    let ds = decimal (suc n) in
    and_true (nat_lt 0 (length ds) && (nat_eq (length ds) 1 || not (nat_eq (slice_index ds 0) 48))) (list_all is_ascii_digit ds)
    (and_true (nat_lt 0 (length ds)) (nat_eq (length ds) 1 || not (nat_eq (slice_index ds 0) 48)) (is_some_text (suc n) small)
    (or_true (nat_eq (length ds) 1) (nat_eq (slice_index ds 0) 48) ((leads (suc n) small).1 (omega arith))))
    (decimal_all is_ascii_digit digit_digit (suc n) small)

-- a number is read back from its text
pub number_read : (bounds : Bounds) (n : ℕ) → n < 2 ^ 64 → is_within bounds n ≡ true → number_in bounds (decimal n) ≡ Ok n
number_read bounds n small within =
    let value = (decimal_is_IsNumeral n small).1 in
    ap (λ v. cond (is_number (decimal n) && is_within bounds v) (Ok v) (Err BadNumber)) value
    ∙ ap (λ t. cond t (Ok n) (Err BadNumber)) (and_true (is_number (decimal n)) (is_within bounds n) (number_text n small) within)
