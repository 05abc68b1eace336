use Rattle.std.proofs.Common.{◌≡◌, ◌++◌, map}
use Rattle.cat_model.specs.Catalog.{kv_key}
use Rattle.row_table.proofs.Spans.{leading}
use Rattle.kv_table.proofs.Prefixes.{under, onward}
use Rattle.kv_table.proofs.rows.keys_under.Given as goal

abbrev pub invariant-loop-row : goal.invariant-loop-row
invariant-loop-row l = l.found.items ++ map kv_key (leading (under kv_key l.prefix) l.row-iterator) ≡ map kv_key (leading (under kv_key l.prefix) (onward kv_key l.prefix l.rows.now))
