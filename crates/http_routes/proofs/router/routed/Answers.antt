use Rattle.std.proofs.Common.{◌≡◌, true, sym, ap, ◌∙◌, subst}
use Rattle.http_routes.specs.Paths.{table}
use Rattle.http_routes.specs.Routers.{Routed, are_new, with_rows}
use Rattle.http_routes.proofs.Tables.{table_new, table_is}
use Rattle.http_routes.proofs.router.routed.Goals as goal

pub add_rows-requires : goal.add_rows-requires
add_rows-requires c = subst (λ (r : Routed). are_new table r ≡ true) (sym c.new-router.ensures) table_new

pub returns : goal.returns
returns c = c.in_ok-add_rows.ensures ∙ (ap (λ (r : Routed). with_rows table r) c.new-router.ensures ∙ table_is)
