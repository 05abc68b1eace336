use Rattle.std.proofs.Common.{◌≡◌, true, drop}
use Rattle.http_routes.specs.Routers.{are_new, rows_of, with_rows}
use Rattle.http_routes.proofs.router.add_rows.Given as goal

abbrev pub invariant-rows : goal.invariant-rows
invariant-rows l =
    (with_rows (rows_of (drop l.row-index l.rows)) l.router ≡ with_rows (rows_of l.rows) l.initial.router)
    × (are_new (rows_of (drop l.row-index l.rows)) l.router ≡ true)
