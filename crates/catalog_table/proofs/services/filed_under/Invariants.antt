use Rattle.std.proofs.Common.{◌≡◌, ◌++◌}
use Rattle.cat_model.specs.Keys.{text_cmp}
use Rattle.cat_model.specs.Catalog.{service_key}
use Rattle.catalog_table.proofs.Indexes.{rows_left, rows_from}
use Rattle.catalog_table.proofs.services.filed_under.Given as goal

abbrev pub invariant-loop-entry : goal.invariant-loop-entry
invariant-loop-entry l = l.found.items ++ rows_left text_cmp service_key (l.name) l.rows.now l.entry-iterator ≡ rows_from text_cmp service_key (l.name) l.rows.now l.names.now
