-- The sessions that keys are filed under: those that hold them.
use Rattle.std.specs.Prelude.{ℕ, List, Option}
use Rattle.std.specs.Ordering.{nat_cmp}
use Rattle.cat_model.specs.Keys.{text_cmp}
use Rattle.cat_model.specs.Catalog.{kv_key}
use Rattle.cat_model.specs.declared.row.KvRow.{KvRow}
use Rattle.row_table.specs.Filing.{Files}

abbrev pub holder_of : KvRow → Option ℕ
holder_of r = r.session

abbrev pub FilesHolders : List KvRow → List (ℕ × List ℕ) → Type 0
FilesHolders = Files nat_cmp text_cmp kv_key holder_of
