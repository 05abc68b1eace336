-- What a head asks for, or why it is refused.
use Rattle.std.specs.Prelude.{ℕ, ◌+◌, ◌-◌, ◌*◌, ◌==◌, Bool, true, false, ◌&&◌, ◌||◌, not, nat_lt, nat_le, if◌then◌else◌, List, [], ◌∷◌, length, map, Result, Ok, Err, Option, Some, None, codes}
use Rattle.std.specs.List.{list_all, list_any, filter}
use Rattle.std.specs.Str.{str_eq_ignore_ascii_case}
use Rattle.std.specs.Char.{is_ascii_digit}
use Rattle.httparse.specs.Grammar.{RequestHead}
use Rattle.httparse.specs.Spans.{name_and_value}
use Rattle.http_wire.specs.declared.rejection.Rejection.{Rejection}
use Rattle.http_wire.specs.declared.rejection.Rejection.TheVariants as rejections

pub record Facts : Type 0 where
  pub method : List ℕ
  pub target : List ℕ
  pub length : ℕ
  pub expects : Bool
  pub close : Bool

-- the field has that name, in any case
abbrev pub is_named : List ℕ → List ℕ × List ℕ → Bool
is_named name field = str_eq_ignore_ascii_case field.0 name

abbrev pub values : List ℕ → List (List ℕ × List ℕ) → List (List ℕ)
values name fields = map (λ f. f.1) (filter (is_named name) fields)

-- a field of that name has that value, in any case
abbrev pub has_value : List ℕ → List ℕ → List (List ℕ × List ℕ) → Bool
has_value name value fields = list_any (λ v. str_eq_ignore_ascii_case v value) (values name fields)

-- the number that digits write behind those of n
abbrev pub value_after : ℕ → List ℕ → ℕ
value_after n [] = n
value_after n (b ∷ bs) = value_after (n * 10 + (b - 48)) bs

abbrev pub is_number : List ℕ → Bool
is_number v = (nat_le 1 (length v) && nat_le (length v) 20) && list_all is_ascii_digit v

-- the number that 1 to 20 digits write, below 2^64
abbrev pub below : ℕ → Option ℕ
below n = if nat_lt n 18446744073709551616 then Some n else None

unfoldable pub number_of : List ℕ → Option ℕ
number_of v = if is_number v then below (value_after 0 v) else None

abbrev pub agrees : Option ℕ → ℕ → Bool
agrees None n = true
agrees (Some m) n = m == n

abbrev pub joins : Option ℕ → Option ℕ → Option (Option ℕ)
joins found None = None
joins found (Some n) = if agrees found n then Some (Some n) else None

-- the one number that all values write, after one that was found before
abbrev pub joins_next : Option (Option ℕ) → Option ℕ → Option (Option ℕ)
joins_next None next = None
joins_next (Some found) next = joins found next

abbrev pub one_length : Option (Option ℕ) → List (List ℕ) → Option (Option ℕ)
one_length found [] = found
one_length found (v ∷ vs) = one_length (joins_next found (number_of v)) vs

unfoldable pub refuse : Bool → Rejection → Result Facts Rejection → Result Facts Rejection
refuse true e r = Err e
refuse false e r = r

abbrev pub is_visible : List ℕ → Bool
is_visible bytes = list_all (λ b. nat_le 33 b && nat_le b 126) bytes

abbrev pub size_of : Option ℕ → ℕ
size_of None = 0
size_of (Some n) = n

-- more than one Host, or none under 1.1
abbrev pub is_wrong_host : ℕ → ℕ → Bool
is_wrong_host minor hosts = nat_lt 1 hosts || (minor == 1 && hosts == 0)

abbrev pub with_length : List ℕ → List ℕ → ℕ → List (List ℕ × List ℕ) → Option (Option ℕ) → Result Facts Rejection
with_length method target minor fields None = Err rejections.ContentLength
with_length method target minor fields (Some found) =
    refuse (nat_lt 1048576 (size_of found)) rejections.TooLarge
    (refuse (not (is_visible method && is_visible target)) rejections.Head
    (refuse (is_wrong_host minor (length (values (codes "host") fields))) rejections.Host
    (Ok (record {
      method = method;
      target = target;
      length = size_of found;
      expects = nat_lt 0 (size_of found) && (minor == 1 && has_value (codes "expect") (codes "100-continue") fields);
      close = minor == 0 || has_value (codes "connection") (codes "close") fields;
    }))))

unfoldable pub judge_parts : List ℕ → List ℕ → ℕ → List (List ℕ × List ℕ) → Result Facts Rejection
judge_parts method target minor fields =
    refuse (nat_lt 64 (length fields)) rejections.HeadTooLarge
    (refuse (nat_lt 0 (length (values (codes "transfer-encoding") fields))) rejections.Unsupported
    (with_length method target minor fields (one_length (Some None) (values (codes "content-length") fields))))

unfoldable pub judge : RequestHead → Result Facts Rejection
judge h = judge_parts h.method h.target h.minor (map name_and_value h.fields)
