-- What is kept of the parts of a duration while it is read.
use Rattle.std.specs.Prelude.{ℕ, ◌+◌, ◌-◌, ◌*◌, ◌^◌, ◌==◌, ◌&&◌, ◌≤◌, nat_le, nat_lt, if◌then◌else◌, List, [], ◌∷◌, length, Option, None, Some, option_and_then}
use Rattle.std.specs.Char.{is_ascii_digit}
use Rattle.json_bodies.specs.declared.durations.Tail.{Tail}
use Rattle.json_bodies.specs.Durations.{Part, number_of, sum_of, unit_of}

-- a sum, or a number above every duration
abbrev pub capped : ℕ → ℕ
capped n = if nat_le n (2 ^ 53) then n else 2 ^ 53 + 1

abbrev pub tail_of : List Part → Option Tail
tail_of [] = None
tail_of (p ∷ ps) = Some (record { count = length p.digits; number = number_of p.digits; unit = p.unit; sum = capped (sum_of ps) })

abbrev pub whole_sum : Tail → ℕ
whole_sum t = capped (t.number * t.unit + t.sum)

abbrev pub tail_with_digit : ℕ → Option Tail → Option Tail
tail_with_digit c None = None
tail_with_digit c (Some t) =
    if nat_lt t.count 10 then Some (record { count = t.count + 1; number = (c - 48) * 10 ^ t.count + t.number; unit = t.unit; sum = t.sum }) else None

abbrev pub tail_begun : ℕ → ℕ → Option Tail
tail_begun sum unit = Some (record { count = 0; number = 0; unit = unit; sum = sum })

abbrev pub tail_with_unit : ℕ → Option Tail → Option Tail
tail_with_unit c None = option_and_then (tail_begun 0) (unit_of c)
tail_with_unit c (Some t) =
    if t.count == 0
    then (if c == 109 && t.unit == 1000 then tail_begun t.sum 1 else None)
    else option_and_then (tail_begun (whole_sum t)) (unit_of c)

abbrev pub tail_with_byte : ℕ → Option Tail → Option Tail
tail_with_byte c t = if is_ascii_digit c then tail_with_digit c t else tail_with_unit c t

abbrev pub tail_total : Option Tail → Option ℕ
tail_total None = None
tail_total (Some t) = if t.count == 0 then None else (if nat_le (whole_sum t) (2 ^ 53) then Some (whole_sum t) else None)

-- small enough for numbers of 64 bits
pub record IsSmall (t : Tail) : Type 0 where
  pub count : t.count ≤ 10
  pub number : t.number ≤ t.count * 9000000000
  pub unit : t.unit ≤ 3600000
  pub sum : t.sum ≤ 2 ^ 53 + 1
