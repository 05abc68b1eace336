-- The table of paths is good.
use Rattle.std.proofs.Common.{◌≡◌, true, [], refl}
use Rattle.matchit.proofs.OnLiterals.{matchit_on_literals}
use Rattle.http_routes.specs.Paths.{table}
use Rattle.http_routes.specs.Routers.{are_new, the_router, with_rows}
use Rattle.http_routes.proofs.Good.{are_good, are_read, are_whole}

pub table_new : are_new table [] ≡ true
unfolding matchit_on_literals
table_new = refl

pub table_read : are_read table ≡ true
unfolding matchit_on_literals
table_read = refl

pub table_good : are_good table ≡ true
table_good = refl

pub table_whole : are_whole the_router ≡ true
unfolding matchit_on_literals the_router
table_whole = refl

pub table_is : with_rows table [] ≡ the_router
unfolding the_router
table_is = refl
