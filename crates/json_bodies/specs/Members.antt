-- The members of an object, by their names without ASCII case.
use Rattle.std.specs.Prelude.{ℕ, ◌==◌, Bool, false, not, if◌then◌else◌, List, [], ◌∷◌, ◌++◌, length, Option, None, Some, option_and_then, Result, Ok, ⊤, is_some}
use Rattle.std.specs.Str.{str_eq_ignore_ascii_case, is_utf8}
use Rattle.serde_json.specs.Data.{Data, null, boolean, number, string, array, object, Items, no_items, item, Members, no_members, member}
use Rattle.serde_json.specs.Find.{get, as_str, as_number, as_u64, as_bool, as_array, as_object}
use Rattle.serde_json.specs.Read.{read}
use Rattle.json_bodies.specs.declared.field.Field.{Field}
use Rattle.json_bodies.specs.declared.field.Field.TheVariants.{Body}
use Rattle.json_bodies.specs.declared.error.ReadError.{ReadError}
use Rattle.json_bodies.specs.Errors.{◌>>=◌, refuse, refuse_if, or_refuse}
use Rattle.json_bodies.specs.Fields.{name_of}

-- the JSON of a body
unfoldable pub json_of : List ℕ → Result Data ReadError
json_of body = if is_utf8 body then or_refuse Body (read body) else refuse Body

-- the body is an object
abbrev pub object_only : Data → Result ⊤ ReadError
object_only d = refuse_if (not (is_some (as_object d))) Body

-- the first member, in byte order, whose name differs only in the case of its letters
abbrev pub like : List ℕ → Members → Option Data
like name no_members = None
like name (member key d more) = if str_eq_ignore_ascii_case key name then Some d else like name more

abbrev pub like_in : List ℕ → Data → Option Data
like_in name d = option_and_then (like name) (as_object d)

abbrev pub or_else : Option Data → Option Data → Option Data
or_else None other = other
or_else (Some d) other = Some d

-- the member of just that name, or else one that is like it
abbrev pub found_at : List ℕ → Data → Option Data
found_at name d = or_else (get name d) (like_in name d)

-- null is absent
abbrev pub unless_null : Data → Option Data
unless_null null = None
unless_null (boolean b) = Some (boolean b)
unless_null (number n) = Some (number n)
unless_null (string s) = Some (string s)
unless_null (array ds) = Some (array ds)
unless_null (object ms) = Some (object ms)

abbrev pub data_at : Field → Data → Option Data
data_at field d = option_and_then unless_null (found_at (name_of field) d)

-- ---- values of members

abbrev pub of_option : {A : Type 0} → A → Field → (Data → Option A) → Option Data → Result A ReadError
of_option absent field is None = Ok absent
of_option absent field is (Some d) = or_refuse field (is d)

abbrev pub as_whole : Data → Option ℕ
as_whole d = option_and_then as_u64 (as_number d)

-- a text, empty where it is absent
unfoldable pub text_at : Field → Data → Result (List ℕ) ReadError
text_at field d = of_option [] field as_str (data_at field d)

-- a whole number of 64 bits, 0 where it is absent
unfoldable pub number_at : Field → Data → Result ℕ ReadError
number_at field d = of_option 0 field as_whole (data_at field d)

-- a truth value, false where it is absent
unfoldable pub flag_at : Field → Data → Result Bool ReadError
flag_at field d = of_option false field as_bool (data_at field d)

abbrev pub is_empty : List ℕ → Bool
is_empty text = length text == 0

-- a text that is not empty
unfoldable pub filled_text_at : Field → Data → Result (List ℕ) ReadError
filled_text_at field d = do
  text ← text_at field d
  filled ← refuse_if (is_empty text) field
  Ok text

-- another text in the place of an empty one
abbrev pub text_or : List ℕ → List ℕ → List ℕ
text_or text other = if is_empty text then other else text

-- ---- lists

-- each item read in turn
abbrev pub each : {A : Type 0} → (Data → Result A ReadError) → Items → Result (List A) ReadError
each step no_items = Ok []
each step (item d ds) = step d >>= λ x. each step ds >>= λ xs. Ok (x ∷ xs)

-- what was read, and then what is left
abbrev pub with_front : {A : Type 0} → List A → Result (List A) ReadError → Result (List A) ReadError
with_front front read = read >>= λ xs. Ok (front ++ xs)

-- the items of an array
abbrev pub each_of : {A : Type 0} → Field → (Data → Result A ReadError) → Option Items → Result (List A) ReadError
each_of field step None = refuse field
each_of field step (Some ds) = each step ds

-- a list, empty where it is absent
abbrev pub list_of : {A : Type 0} → Field → (Data → Result A ReadError) → Option Data → Result (List A) ReadError
list_of field step None = Ok []
list_of field step (Some d) = each_of field step (as_array d)

abbrev pub a_text : Field → Data → Result (List ℕ) ReadError
a_text field d = or_refuse field (as_str d)

-- a list of texts
unfoldable pub texts_at : Field → Data → Result (List (List ℕ)) ReadError
texts_at field d = list_of field (a_text field) (data_at field d)
