use Rattle.std.proofs.Common.{◌≡◌, ◌++◌}
use Rattle.cat_model.specs.Catalog.{service_key}
use Rattle.row_table.proofs.Spans.{leading}
use Rattle.catalog_table.specs.Touching.{service_names}
use Rattle.catalog_table.proofs.Ranges.{on, onward}
use Rattle.catalog_table.proofs.services.add_names_on.Given as goal

abbrev pub invariant-loop-row : goal.invariant-loop-row
invariant-loop-row l = l.names ++ service_names (leading (on service_key l.node) l.row-iterator) ≡ l.fn.names ++ service_names (leading (on service_key l.node) (onward service_key l.node l.rows.now))
