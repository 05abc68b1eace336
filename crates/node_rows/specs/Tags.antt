-- Tags of services that are written anew.
use Rattle.std.specs.Prelude.{ℕ, zero, suc, List, [], ◌∷◌}
use Rattle.cat_model.specs.declared.row.ServiceRow.{ServiceRow}
use Rattle.node_rows.specs.declared.tags.Retag.{Retag}

-- the services with these tags at this place
abbrev pub tagged_at : ℕ → List (List ℕ) → List ServiceRow → List ServiceRow
tagged_at at tags [] = []
tagged_at zero tags (s ∷ services) = record s { tags = tags } ∷ services
tagged_at (suc at) tags (s ∷ services) = s ∷ tagged_at at tags services

-- the services with these tags too, one after the other
abbrev pub all_tagged : List Retag → List ServiceRow → List ServiceRow
all_tagged [] services = services
all_tagged (t ∷ ts) services = all_tagged ts (tagged_at t.at t.tags services)
