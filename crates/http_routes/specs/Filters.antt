-- Filters: which routes read the parameter `filter`, and for what. Consul, HTTP API, "Filtering".
use Rattle.std.specs.Prelude.{ℕ, not, List, filter, Option, None, Some, option_and_then}
use Rattle.filter_expr.specs.Expressions.{Expression}
use Rattle.filter_expr.specs.Grammar.{filter_of}
use Rattle.filter_expr.specs.declared.selectors.Shape.{Shape}
use Rattle.filter_expr.specs.declared.selectors.Shape.TheVariants as shapes
use Rattle.http_routes.specs.declared.error.Parameter.TheVariants as p
use Rattle.http_routes.specs.declared.params.Pair.{Pair}
use Rattle.http_routes.specs.declared.table.Route.{Route}
use Rattle.http_routes.specs.declared.table.Route.TheVariants.{Kv, Txn, Catalog, Health, Session, Query, Agent}
use Rattle.http_routes.specs.declared.table.CatalogRoute.{CatalogRoute}
use Rattle.http_routes.specs.declared.table.CatalogRoute.TheVariants as c
use Rattle.http_routes.specs.declared.table.HealthRoute.{HealthRoute}
use Rattle.http_routes.specs.declared.table.HealthRoute.TheVariants as h
use Rattle.http_routes.specs.Errors.{name_of}
use Rattle.http_routes.specs.Params.{first_of, is_named, pairs_of}
use Rattle.http_routes.specs.Paths.{found}
use Rattle.http_routes.specs.Targets.{path_of, query_of}

-- the shape of the elements of a route's list, where the route reads filters of them
abbrev pub catalog_shape : CatalogRoute → Option Shape
catalog_shape c.Register = None
catalog_shape c.Deregister = None
catalog_shape c.Upgrade = None
catalog_shape c.Nodes = Some shapes.Node
catalog_shape c.Services = None
catalog_shape c.Service = Some shapes.CatalogService
catalog_shape c.Node = None

abbrev pub health_shape : HealthRoute → Shape
health_shape h.Node = shapes.Check
health_shape h.Checks = shapes.Check
health_shape h.Service = shapes.Health
health_shape h.State = shapes.Check

abbrev pub shape_of : Route → Option Shape
shape_of Kv = None
shape_of Txn = None
shape_of (Catalog route) = catalog_shape route
shape_of (Health route) = Some (health_shape route)
shape_of (Session route) = None
shape_of (Query route) = None
shape_of (Agent route) = None

-- the filter among the parameters, where it reads as one of elements of that shape
abbrev pub filter_in : Option Shape → List Pair → Option Expression
filter_in None pairs = None
filter_in (Some shape) pairs = option_and_then (filter_of shape) (first_of (name_of p.Filter) pairs)

-- A filter that was read is no parameter any more. One that is left is refused in its place among the tests, on every
-- route: it is no expression, or the route reads none.
abbrev pub left_by : Option Expression → List Pair → List Pair
left_by None pairs = pairs
left_by (Some expression) pairs = filter (λ pair. not (is_named (name_of p.Filter) pair)) pairs

abbrev pub pairs_left : Route → List Pair → List Pair
pairs_left route pairs = left_by (filter_in (shape_of route) pairs) pairs

-- the filter of a target: what its reply lists is shown through it
abbrev pub filter_on : Option (Route × List ℕ) → List Pair → Option Expression
filter_on None pairs = None
filter_on (Some (route, part)) pairs = filter_in (shape_of route) pairs

unfoldable pub filter_at : List ℕ → Option Expression
filter_at target = filter_on (found (path_of target)) (pairs_of (query_of target))
