use Rattle.std.proofs.Common.{◌≡◌, ◌++◌, length}
use Rattle.std.specs.List.{filter_map}
use Rattle.cat_model.specs.Catalog.{service_at}
use Rattle.catalog_table.specs.Touching.{name_in}
use Rattle.catalog_table.proofs.services.add_names_of.Given as goal

abbrev pub invariant-loop-id : goal.invariant-loop-id
invariant-loop-id l = l.names ++ filter_map (λ id. name_in (service_at (l.node, id) l.rows.now)) l.left ≡ l.fn.names ++ filter_map (λ id. name_in (service_at (l.node, id) l.rows.now)) l.ids

abbrev pub decreases-loop-id : goal.decreases-loop-id
decreases-loop-id l = length l.left
