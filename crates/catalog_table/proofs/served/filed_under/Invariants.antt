use Rattle.std.proofs.Common.{◌≡◌, ◌++◌}
use Rattle.cat_model.specs.Catalog.{check_key}
use Rattle.cat_model.specs.Keys.{pair_cmp}
use Rattle.catalog_table.proofs.Indexes.{rows_left, rows_from}
use Rattle.catalog_table.proofs.served.filed_under.Given as goal

abbrev pub invariant-loop-entry : goal.invariant-loop-entry
invariant-loop-entry l = l.found.items ++ rows_left pair_cmp check_key (l.node, l.service) l.rows.now l.entry-iterator ≡ rows_from pair_cmp check_key (l.node, l.service) l.rows.now l.services.now
