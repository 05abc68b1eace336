use Rattle.std.proofs.Common.{◌≡◌, map, take}
use Rattle.cat_model.specs.Queries.{cut_key}
use Rattle.catalog_query.proofs.keys.cut_each.Given as goal

abbrev pub invariant-loop-key : goal.invariant-loop-key
invariant-loop-key l = l.found.items ≡ map (cut_key l.prefix l.separator) (take l.key-index l.keys)
