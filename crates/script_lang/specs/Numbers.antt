-- The numbers of a line.
use Rattle.std.specs.Prelude.{ℕ, ◌==◌, nat_lt, nat_le, Bool, not, ◌&&◌, ◌||◌, if◌then◌else◌, List, [], ◌∷◌, length, slice_index, Result, Ok, Err}
use Rattle.std.specs.Char.{is_ascii_digit}
use Rattle.std.specs.List.{list_all}
use Rattle.std.specs.Str.Parse.{digits_value}
use Rattle.script_lang.specs.declared.bad_line.BadLine.{BadLine}
use Rattle.script_lang.specs.declared.bad_line.BadLine.TheVariants.{UnknownLine, BadNumber}
use Rattle.script_lang.specs.declared.numbers.Bounds.{Bounds}
use Rattle.script_lang.specs.Answers.{◌>>=◌}

-- one decimal digit or more, with no zero in front of another one
abbrev pub is_number : List ℕ → Bool
is_number word =
    nat_lt 0 (length word) && (length word == 1 || not (slice_index word 0 == 48)) && list_all is_ascii_digit word

-- within the bounds, both of them counted
abbrev pub is_within : Bounds → ℕ → Bool
is_within bounds n = nat_le bounds.least n && nat_le n bounds.most

-- the word as a number within the bounds
abbrev pub number_in : Bounds → List ℕ → Result ℕ BadLine
number_in bounds word =
    if is_number word && is_within bounds (digits_value 10 word) then Ok (digits_value 10 word) else Err BadNumber

-- The numbers of a line that has just so many words after its first, none of them empty.
abbrev pub is_filled : List ℕ → Bool
is_filled word = nat_lt 0 (length word)

abbrev pub one_number : Bounds → List (List ℕ) → Result ℕ BadLine
one_number bounds (a ∷ []) = if is_filled a then number_in bounds a else Err UnknownLine
one_number bounds words = Err UnknownLine

abbrev pub two_numbers : Bounds → Bounds → List (List ℕ) → Result (ℕ × ℕ) BadLine
two_numbers first second (a ∷ b ∷ []) =
    if is_filled a && is_filled b then (do
      m ← number_in first a
      n ← number_in second b
      Ok (m, n))
    else Err UnknownLine
two_numbers first second words = Err UnknownLine
