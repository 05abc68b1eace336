-- An agent's services and checks in the order of their keys.
use Rattle.std.specs.Prelude.{List, [], ◌∷◌}
use Rattle.cat_model.specs.Catalog.{service_key}
use Rattle.cat_model.specs.Keys.{pair_cmp}
use Rattle.cat_model.specs.Tables.{Ascends, put}
use Rattle.cat_model.specs.declared.row.ServiceRow.{ServiceRow}
use Rattle.cluster_rules.specs.Agents.{Watched, watched_key}

abbrev pub ServicesAscend : List ServiceRow → Type 0
ServicesAscend = Ascends pair_cmp service_key

abbrev pub ChecksAscend : List Watched → Type 0
ChecksAscend = Ascends pair_cmp watched_key

-- the checks with each of these in the place of the one of its key, one after the other
abbrev pub all_put : List Watched → List Watched → List Watched
all_put [] checks = checks
all_put (w ∷ ws) checks = all_put ws (put pair_cmp watched_key w checks)
