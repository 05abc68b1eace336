-- Which channels are those of keys that are gone.
use Rattle.std.specs.Prelude.{Bool, false, not, is_some, List}
use Rattle.cat_model.specs.Catalog.{kv_at}
use Rattle.cat_model.specs.declared.query.Chan.{Chan}
use Rattle.cat_model.specs.declared.query.Chan.TheVariants.{Key}
use Rattle.cat_model.specs.declared.row.KvRow.{KvRow}

abbrev pub is_gone : List KvRow → Chan → Bool
is_gone rows (Key key) = not (is_some (kv_at key rows))
is_gone rows other = false
