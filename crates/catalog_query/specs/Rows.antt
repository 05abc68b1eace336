-- The rows that are joined, as a catalog of these alone.
use Rattle.std.specs.Prelude.{ℕ, if◌then◌else◌, List, [], ◌∷◌, Option, Some, None}
use Rattle.cat_model.specs.Catalog.{Catalog, empty_catalog, service_key}
use Rattle.cat_model.specs.Queries.{is_of, check_view}
use Rattle.cat_model.specs.declared.row.NodeRow.{NodeRow}
use Rattle.cat_model.specs.declared.row.ServiceRow.{ServiceRow}
use Rattle.cat_model.specs.declared.row.CheckRow.{CheckRow}
use Rattle.cat_model.specs.declared.query.CheckView.{CheckView}
use Rattle.cat_model.specs.declared.query.Instance.{Instance}

abbrev pub rows_with : List ServiceRow → List NodeRow → List CheckRow → Catalog
rows_with services nodes checks = record empty_catalog { services = services; nodes = nodes; checks = checks }

-- an instance stands by its node's name and then by its service's ID
abbrev pub instance_key : Instance → List ℕ × List ℕ
instance_key x = service_key x.service

-- the check with the name of its service, where it counts for the instance
abbrev pub view_if : List ServiceRow → ServiceRow → CheckRow → Option CheckView
view_if services s c = if is_of (s ∷ []) c then Some (check_view services c) else None
