-- The router that is made of the table of paths.
use Rattle.std.specs.Prelude.{ℕ, ◌&&◌, not, nat_lt, if◌then◌else◌, List, [], ◌∷◌, length, Bool, true, false, Result, Ok, Err, is_some, map}
use Rattle.std.specs.Borrow.{Bor}
use Rattle.matchit.specs.Rows.{RowsOf}
use Rattle.matchit.specs.Order.{placed}
use Rattle.matchit.specs.Route.{Scan, parse_route}
use Rattle.matchit.specs.Router.{RouteOf, route_from, nearest}
use Rattle.matchit.specs.declared.error.InsertError.{InsertError}
use Rattle.http_routes.specs.Paths.{Row, table, front_of, back_of}
use Rattle.http_routes.specs.declared.router.Entry.{Entry}
use Rattle.http_routes.specs.declared.table.Route.{Route}

abbrev pub Routed : Type 0
Routed = RowsOf (RouteOf Entry)

abbrev pub entry_of : Row → Entry
entry_of row = record { route = row.1; front = length (front_of row.0); back = length (back_of row.0) }

-- the rows of a slice
abbrev pub rows_of : List (Bor (List ℕ) × Route) → List Row
rows_of rows = map (λ row. (row.0.now, row.1)) rows

-- ---- the rows with one more route

abbrev pub with_scan : Result Scan InsertError → Entry → Routed → Routed
with_scan (Ok s) entry rows = placed (s.pattern, route_from s entry) rows
with_scan (Err e) entry rows = rows

abbrev pub with_route : List ℕ → Entry → Routed → Routed
with_route text entry rows = with_scan (parse_route text) entry rows

abbrev pub with_rows : List Row → Routed → Routed
with_rows [] routed = routed
with_rows (row ∷ rows) routed = with_rows rows (with_route row.0 (entry_of row) routed)

-- the text reads as a route, and none of the router is in its way
abbrev pub is_clear : Result Scan InsertError → Routed → Bool
is_clear (Ok s) routed = not (is_some (nearest s.pattern routed))
is_clear (Err e) routed = false

abbrev pub is_new : List ℕ → Routed → Bool
is_new text routed = is_clear (parse_route text) routed

abbrev pub are_new : List Row → Routed → Bool
are_new [] routed = true
are_new (row ∷ rows) routed = is_new row.0 routed && are_new rows (with_route row.0 (entry_of row) routed)

-- the router of the table
unfoldable pub the_router : Routed
the_router = with_rows table []

-- the byte of a text that stands for a byte of a path: `?` for one that is no ASCII
abbrev pub shown : ℕ → ℕ
shown b = if nat_lt b 128 then b else 63
