use Rattle.std.proofs.Common.{◌≡◌, ◌++◌}
use Rattle.std.specs.Ordering.{nat_cmp}
use Rattle.cat_model.specs.Catalog.{check_key}
use Rattle.catalog_table.specs.Filings.{rank}
use Rattle.catalog_table.proofs.Indexes.{rows_left, rows_from}
use Rattle.catalog_table.proofs.stated.filed_under.Given as goal

abbrev pub invariant-loop-entry : goal.invariant-loop-entry
invariant-loop-entry l = l.found.items ++ rows_left nat_cmp check_key (rank l.status) l.rows.now l.entry-iterator ≡ rows_from nat_cmp check_key (rank l.status) l.rows.now l.statuses.now
