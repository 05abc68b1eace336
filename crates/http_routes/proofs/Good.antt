-- What is tested of a table of paths: that a router reads each pattern as its front, its name and its back, that a name
-- fills its part of the path, and that no path is of two patterns.
use Rattle.std.proofs.Common.{ℕ, ◌==◌, ◌&&◌, ◌||◌, not, nat_lt, if◌then◌else◌, List, [], ◌∷◌, ◌++◌, length, Bool, true, false, Result, Ok, Err}
use Rattle.std.specs.Prelude.{bytes_eq}
use Rattle.std.specs.List.{list_all}
use Rattle.matchit.specs.Rows.{param_token, catch_all_token}
use Rattle.matchit.specs.Route.{Scan, parse_route}
use Rattle.matchit.specs.Seek.{slash}
use Rattle.matchit.specs.declared.error.InsertError.{InsertError}
use Rattle.http_routes.specs.Paths.{Row, front_of, back_of, has}
use Rattle.http_routes.specs.Routers.{Routed}
use Rattle.http_routes.proofs.Fits.{overlaps}

-- the tokens of a pattern
abbrev pub middle : List ℕ → List ℕ
middle pattern = if has 123 pattern then (if has 42 pattern then catch_all_token ∷ [] else param_token ∷ []) else []

abbrev pub tokens : List ℕ → List ℕ
tokens pattern = front_of pattern ++ (middle pattern ++ back_of pattern)

abbrev pub reads_as : List ℕ → Result Scan InsertError → Bool
reads_as wanted (Ok s) = bytes_eq s.pattern wanted
reads_as wanted (Err e) = false

abbrev pub are_read : List Row → Bool
are_read [] = true
are_read (row ∷ rows) = reads_as (tokens row.0) (parse_route row.0) && are_read rows

-- a byte of ASCII, other than `?`
abbrev pub is_plain : ℕ → Bool
is_plain b = nat_lt b 128 && not (b == 63)

abbrev pub ends : List ℕ → Bool
ends [] = true
ends (y ∷ t) = y == slash

abbrev pub is_whole : List ℕ → Bool
is_whole [] = true
is_whole (x ∷ t) = (not (x == param_token) || ends t) && (not (x == catch_all_token) || length t == 0) && is_whole t

abbrev pub is_apart : List ℕ → List Row → Bool
is_apart pattern [] = true
is_apart pattern (row ∷ rows) = not (overlaps (tokens pattern) (tokens row.0)) && is_apart pattern rows

abbrev pub is_row : List ℕ → Bool
is_row pattern = is_whole (tokens pattern) && list_all is_plain (front_of pattern) && list_all is_plain
    (back_of pattern)

abbrev pub are_good : List Row → Bool
are_good [] = true
are_good (row ∷ rows) = is_row row.0 && is_apart row.0 rows && are_good rows

abbrev pub are_whole : Routed → Bool
are_whole [] = true
are_whole ((t, r) ∷ rest) = is_whole t && are_whole rest
