use Rattle.std.proofs.Common.{◌≡◌}
use Rattle.cat_model.specs.Catalog.{kv_key}
use Rattle.cat_model.specs.Keys.{has_prefix}
use Rattle.cat_model.specs.KvIndexes.{last_modify}
use Rattle.row_table.proofs.Spans.{leading}
use Rattle.kv_table.proofs.Prefixes.{under, onward}
use Rattle.kv_table.proofs.rows.modified_under.Given as goal

abbrev pub invariant-loop-row : goal.invariant-loop-row
invariant-loop-row l = last_modify (has_prefix l.prefix) l.last (leading (under kv_key l.prefix) l.row-iterator) ≡ last_modify (has_prefix l.prefix) l.least (leading (under kv_key l.prefix) (onward kv_key l.prefix l.rows.now))
