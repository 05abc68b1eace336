-- The parameters of a query: pairs of names and values as web forms write them (URL Standard, section 5). The first of
-- a name counts.
use Rattle.std.specs.Prelude.{ℕ, ◌^◌, ◌&&◌, not, nat_le, nat_lt, Bool, false, if◌then◌else◌, List, [], ◌∷◌, length, map, filter, Option, None, Some, is_some, unwrap_or, option_and_then, Result, Ok, codes, bytes_eq}
use Rattle.std.specs.Char.{is_ascii_digit}
use Rattle.std.specs.List.{list_all}
use Rattle.std.specs.Str.Parse.{digits_value}
use Rattle.std.specs.Str.Lossy.{utf8_lossy}
use Rattle.form_urlencoded.specs.Form.{raw_pairs, decode}
use Rattle.json_bodies.specs.Ids.{id_parsed}
use Rattle.http_routes.specs.declared.error.Parameter.{Parameter}
use Rattle.http_routes.specs.declared.error.RouteError.{RouteError}
use Rattle.http_routes.specs.declared.params.Pair.{Pair}
use Rattle.http_routes.specs.Errors.{name_of, or_refuse}

-- each name and value decoded, with U+FFFD for what is no UTF-8
abbrev pub decoded_text : List ℕ → List ℕ
decoded_text bytes = utf8_lossy (decode bytes)

abbrev pub pair_of : List ℕ × List ℕ → Pair
pair_of (name, value) = record { name = decoded_text name; value = decoded_text value }

abbrev pub pairs_of : List ℕ → List Pair
pairs_of query = map pair_of (raw_pairs query)

abbrev pub is_named : List ℕ → Pair → Bool
is_named name pair = bytes_eq pair.name name

-- the first value of a name
abbrev pub first_of : List ℕ → List Pair → Option (List ℕ)
first_of name [] = None
first_of name (pair ∷ pairs) = if is_named name pair then Some pair.value else first_of name pairs

-- all values of a name
abbrev pub all_of : List ℕ → List Pair → List (List ℕ)
all_of name pairs = map (λ (pair : Pair). pair.value) (filter (is_named name) pairs)

-- the name is there
abbrev pub is_there : List ℕ → List Pair → Bool
is_there name pairs = is_some (first_of name pairs)

-- A flag is on where its name is there and its value is not `false` or `0`.
abbrev pub is_on_value : Option (List ℕ) → Bool
is_on_value None = false
is_on_value (Some value) = not (bytes_eq value (codes "false")) && not (bytes_eq value (codes "0"))

abbrev pub is_on : List ℕ → List Pair → Bool
is_on name pairs = is_on_value (first_of name pairs)

-- a text, empty where its name is not there
abbrev pub text_at : List ℕ → List Pair → List ℕ
text_at name pairs = unwrap_or (first_of name pairs) []

-- A number is 1 to 20 decimal digits, and below 2^64.
abbrev pub is_digits : List ℕ → Bool
is_digits text = nat_lt 0 (length text) && nat_le (length text) 20 && list_all is_ascii_digit text

unfoldable pub number_named : List ℕ → Option ℕ
number_named text = if is_digits text && nat_lt (digits_value 10 text) (2 ^ 64) then Some (digits_value 10 text) else None

abbrev pub of_option : {A : Type 0} → A → Parameter → (List ℕ → Option A) → Option (List ℕ) → Result A RouteError
of_option absent parameter is None = Ok absent
of_option absent parameter is (Some text) = or_refuse parameter (is text)

-- a number, 0 where its name is not there
unfoldable pub number_at : Parameter → List Pair → Result ℕ RouteError
number_at parameter pairs = of_option 0 parameter number_named (first_of (name_of parameter) pairs)

-- an identifier, in any form of a UUID
unfoldable pub id_at : Parameter → List Pair → Result ℕ RouteError
id_at parameter pairs = or_refuse parameter (option_and_then id_parsed (first_of (name_of parameter) pairs))
