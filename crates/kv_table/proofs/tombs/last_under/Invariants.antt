use Rattle.std.proofs.Common.{◌≡◌}
use Rattle.cat_model.specs.Keys.{has_prefix}
use Rattle.cat_model.specs.KvIndexes.{last_tomb}
use Rattle.row_table.proofs.Spans.{leading}
use Rattle.kv_table.proofs.Prefixes.{under, onward}
use Rattle.kv_table.proofs.TombLemmas.{tomb_key}
use Rattle.kv_table.proofs.tombs.last_under.Given as goal

abbrev pub invariant-loop-tomb : goal.invariant-loop-tomb
invariant-loop-tomb l = last_tomb (has_prefix l.prefix) l.last (leading (under tomb_key l.prefix) l.tomb-iterator) ≡ last_tomb (has_prefix l.prefix) l.floor (leading (under tomb_key l.prefix) (onward tomb_key l.prefix l.tombs.now))
