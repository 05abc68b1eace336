-- Which route a path has, and what stands in it for the name of its row (RFC 3986, section 3.3).
use Rattle.std.specs.Prelude.{ℕ, ◌-◌, ◌==◌, ◌&&◌, ◌||◌, not, nat_lt, nat_eq, if◌then◌else◌, List, [], ◌∷◌, length, take, drop, map, Option, None, Some, option_and_then, Bool}
use Rattle.std.specs.List.{list_any, starts_with, ends_with}
use Rattle.form_urlencoded.specs.Form.{split_once}
use Rattle.http_routes.specs.declared.table.Route.{Route}
use Rattle.http_routes.specs.declared.table.TheConstants.{TABLE}

-- a pattern of paths, and their route
abbrev pub Row : Type 0
Row = List ℕ × Route

abbrev pub table : List Row
table = map (λ row. (row.0.now, row.1)) TABLE

abbrev pub has : ℕ → List ℕ → Bool
has byte text = list_any (λ b. b == byte) text

-- What stands before `{` and behind `}`. A pattern without a name in braces is all front.
abbrev pub front_of : List ℕ → List ℕ
front_of pattern = (split_once 123 pattern).0

abbrev pub back_of : List ℕ → List ℕ
back_of pattern = (split_once 125 pattern).1

-- what follows the front
abbrev pub behind : List ℕ → List ℕ → Option (List ℕ)
behind front path = if starts_with nat_eq path front then Some (drop (length front) path) else None

-- what stands before the back
abbrev pub ahead_of : List ℕ → List ℕ → Option (List ℕ)
ahead_of back path = if ends_with nat_eq path back then Some (take (length path - length back) path) else None

-- For a name stands one byte or more, and without a `*` no slash among them.
abbrev pub may_stand : List ℕ → List ℕ → Bool
may_stand pattern part =
    if has 123 pattern
    then nat_lt 0 (length part) && (has 42 pattern || not (has 47 part))
    else nat_eq (length part) 0

abbrev pub if_stands : List ℕ → List ℕ → Option (List ℕ)
if_stands pattern part = if may_stand pattern part then Some part else None

-- what stands for the name of a pattern that the path fits, and nothing for one without a name
abbrev pub takes : List ℕ → List ℕ → Option (List ℕ)
takes pattern path =
    option_and_then (λ rest. option_and_then (if_stands pattern) (ahead_of (back_of pattern) rest)) (behind (front_of pattern) path)

abbrev pub or_later : Route → Option (List ℕ) → Option (Route × List ℕ) → Option (Route × List ℕ)
or_later route None later = later
or_later route (Some part) later = Some (route, part)

-- the first of the rows that the path fits
unfoldable pub found_in : List Row → List ℕ → Option (Route × List ℕ)
found_in [] path = None
found_in (row ∷ rows) path = or_later row.1 (takes row.0 path) (found_in rows path)

abbrev pub found : List ℕ → Option (Route × List ℕ)
found path = found_in table path
