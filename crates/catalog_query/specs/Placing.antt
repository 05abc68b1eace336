-- The instance of one service, from its node and the checks that count for it.
use Rattle.std.specs.Prelude.{Bool, ◌&&◌, ◌||◌, List, [], ◌∷◌, filter}
use Rattle.std.specs.List.{cons_option}
use Rattle.cat_model.specs.Keys.{same_text, is_empty}
use Rattle.cat_model.specs.Catalog.{Catalog, node_at}
use Rattle.cat_model.specs.Queries.{instances}
use Rattle.cat_model.specs.declared.row.CheckRow.{CheckRow}
use Rattle.cat_model.specs.declared.row.ServiceRow.{ServiceRow}
use Rattle.cat_model.specs.declared.query.Instance.{Instance}
use Rattle.catalog_query.specs.Rows.{rows_with}

abbrev pub counts_for : ServiceRow → CheckRow → Bool
counts_for s c = same_text c.node s.node && (is_empty c.service || same_text c.service s.id)

abbrev pub placed : Catalog → ServiceRow → List Instance
placed k s = instances (rows_with (s ∷ []) (cons_option (node_at s.node k.nodes) []) (filter (counts_for s) k.checks))
