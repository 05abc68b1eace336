-- Durations as Consul and Go write them, without fractions: numbers with units, such as 1m30s, in milliseconds.
use Rattle.std.specs.Prelude.{ℕ, ◌+◌, ◌-◌, ◌*◌, ◌^◌, ◌==◌, ◌&&◌, Bool, nat_le, nat_lt, if◌then◌else◌, List, [], ◌∷◌, length, Option, None, Some, option_and_then, codes, bytes_eq}
use Rattle.std.specs.Char.{is_ascii_digit}

-- the digits of a number, and the milliseconds of its unit
pub record Part : Type 0 where
  pub digits : List ℕ
  pub unit : ℕ

-- each digit counts by its place
abbrev pub number_of : List ℕ → ℕ
number_of [] = 0
number_of (c ∷ cs) = (c - 48) * 10 ^ length cs + number_of cs

abbrev pub sum_of : List Part → ℕ
sum_of [] = 0
sum_of (p ∷ ps) = number_of p.digits * p.unit + sum_of ps

-- ---- A duration is read from its end: a unit begins a part, and up to ten digits before it are its number.

-- the unit of a letter: hours, minutes, seconds
abbrev pub unit_of : ℕ → Option ℕ
unit_of c = if c == 104 then Some 3600000 else (if c == 109 then Some 60000 else (if c == 115 then Some 1000 else None))

abbrev pub with_digit : ℕ → List Part → Option (List Part)
with_digit c [] = None
with_digit c (p ∷ ps) = if nat_lt (length p.digits) 10 then Some (record { digits = c ∷ p.digits; unit = p.unit } ∷ ps) else None

-- the part has no number so far
abbrev pub lacks_number : Part → Bool
lacks_number p = length p.digits == 0

abbrev pub begun : List Part → ℕ → Option (List Part)
begun ps unit = Some (record { digits = []; unit = unit } ∷ ps)

-- an m right before an s makes its seconds milliseconds
abbrev pub with_unit : ℕ → List Part → Option (List Part)
with_unit c [] = option_and_then (begun []) (unit_of c)
with_unit c (p ∷ ps) =
    if lacks_number p
    then (if c == 109 && p.unit == 1000 then begun ps 1 else None)
    else option_and_then (begun (p ∷ ps)) (unit_of c)

abbrev pub with_byte : ℕ → List Part → Option (List Part)
with_byte c ps = if is_ascii_digit c then with_digit c ps else with_unit c ps

abbrev pub parts_of : List ℕ → Option (List Part)
parts_of [] = Some []
parts_of (c ∷ cs) = option_and_then (with_byte c) (parts_of cs)

-- ---- one part or more, of 2^53 milliseconds in all at most; or 0 alone

abbrev pub total : List Part → Option ℕ
total [] = None
total (p ∷ ps) = if lacks_number p then None else (if nat_le (sum_of (p ∷ ps)) (2 ^ 53) then Some (sum_of (p ∷ ps)) else None)

unfoldable pub duration_of : List ℕ → Option ℕ
duration_of text = if bytes_eq text (codes "0") then Some 0 else option_and_then total (parts_of text)
