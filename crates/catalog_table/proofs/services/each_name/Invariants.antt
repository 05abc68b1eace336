use Rattle.std.proofs.Common.{◌≡◌, ◌++◌}
use Rattle.catalog_table.specs.Touching.{service_names}
use Rattle.catalog_table.proofs.services.each_name.Given as goal

abbrev pub invariant-loop-row : goal.invariant-loop-row
invariant-loop-row l = l.names ++ service_names l.row-iterator ≡ service_names l.rows.now
