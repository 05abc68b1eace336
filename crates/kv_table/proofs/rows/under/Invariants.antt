use Rattle.std.proofs.Common.{◌≡◌, ◌++◌}
use Rattle.cat_model.specs.Catalog.{kv_key}
use Rattle.row_table.proofs.Spans.{leading}
use Rattle.kv_table.proofs.Prefixes.{under, onward}
use Rattle.kv_table.proofs.rows.under.Given as goal

abbrev pub invariant-loop-row : goal.invariant-loop-row
invariant-loop-row l = l.found.items ++ leading (under kv_key l.prefix) l.row-iterator ≡ leading (under kv_key l.prefix) (onward kv_key l.prefix l.rows.now)
