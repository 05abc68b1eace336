-- The parts of a plan over rows in order, by what each side has of the other.
use Rattle.std.specs.Prelude.{ℕ, Bool, not, ◌&&◌, ◌||◌, if◌then◌else◌, List, [], ◌∷◌, ◌++◌, Option, Some, None, filter, map, nat_eq}
use Rattle.std.specs.List.{filter_map, list_any}
use Rattle.cat_model.specs.Keys.{pair_cmp, same_text, same_texts}
use Rattle.cat_model.specs.Tables.{same_found}
use Rattle.cat_model.specs.Same.{alike_services, alike_checks, same_bool}
use Rattle.cat_model.specs.Catalog.{check_at, check_key, service_key}
use Rattle.cat_model.specs.Syncs.{goes_along, is_serf, lacks_check, lacks_node, listed, registers_checks, registers_service, serf_id, tags_or}
use Rattle.cat_model.specs.declared.row.NodeRow.{NodeRow}
use Rattle.cat_model.specs.declared.row.ServiceRow.{ServiceRow}
use Rattle.cat_model.specs.declared.row.CheckRow.{CheckRow}
use Rattle.cat_model.specs.declared.command.Command.{Command}
use Rattle.cat_model.specs.declared.command.Command.TheVariants.{Deregister}
use Rattle.node_rows.specs.Sides.{all_paired, strays}

-- the service with the tags that it takes over
abbrev pub retagged : Option ServiceRow → ServiceRow → ServiceRow
retagged there s = if s.tag_override then record s { tags = tags_or s.tags there } else s

-- the catalog's service and the agent's are equal, with the tags that this one takes over
abbrev pub are_alike : ServiceRow → ServiceRow → Bool
are_alike t s =
    same_text t.node s.node && same_text t.id s.id && same_text t.name s.name && same_texts t.tags (retagged (Some t) s).tags
    && same_text t.address s.address && nat_eq t.port s.port && same_bool t.tag_override s.tag_override

-- the catalog's service is missing or different
abbrev pub is_uneven_service : ServiceRow × Option ServiceRow → Bool
is_uneven_service p = not (same_found alike_services p.1 (Some (retagged p.1 p.0)))

abbrev pub is_uneven_check : CheckRow × Option CheckRow → Bool
is_uneven_check p = not (same_found alike_checks p.1 (Some p.0))

-- the registration of a service, and of a check that is not the node's own, where it is wanted
abbrev pub service_command : NodeRow → ServiceRow × Option ServiceRow → Option Command
service_command n p = if is_uneven_service p then Some (registers_service n (retagged p.1 p.0)) else None

abbrev pub check_command : NodeRow → CheckRow × Option CheckRow → Option Command
check_command n p = if not (is_serf p.0) && is_uneven_check p then Some (registers_checks n (p.0 ∷ [])) else None

abbrev pub removes_service : NodeRow → ServiceRow → Command
removes_service n s = Deregister n.node s.id []

abbrev pub removes_check : NodeRow → CheckRow → Command
removes_check n c = Deregister n.node [] c.id

-- the parts, of own rows and those there
abbrev pub new_services : NodeRow → List ServiceRow → List ServiceRow → List Command
new_services n own there = filter_map (service_command n) (all_paired pair_cmp service_key own there)

abbrev pub old_services : NodeRow → List ServiceRow → List ServiceRow → List Command
old_services n own there = map (removes_service n) (strays pair_cmp service_key own there)

abbrev pub new_checks : NodeRow → List CheckRow → List CheckRow → List Command
new_checks n own there = filter_map (check_command n) (all_paired pair_cmp check_key own there)

-- the removal of a check, unless it goes with its service
abbrev pub old_check : NodeRow → List ServiceRow → List ServiceRow → CheckRow → Option Command
old_check n services services_there c = if goes_along services services_there c then None else Some (removes_check n c)

abbrev pub old_checks : NodeRow → List ServiceRow → List ServiceRow → List CheckRow → List CheckRow → List Command
old_checks n services services_there own there = filter_map (old_check n services services_there) (strays pair_cmp check_key own there)

abbrev pub own_plan : NodeRow → Option NodeRow → List CheckRow → List CheckRow → List Command
own_plan n there checks checks_there =
    let serf = listed (check_at (n.node, serf_id) checks) in
    if lacks_node there n || list_any (lacks_check checks_there) serf then registers_checks n serf ∷ [] else []

abbrev pub row_plan : NodeRow → Option NodeRow → List ServiceRow → List CheckRow → List ServiceRow → List CheckRow → List Command
row_plan n there services checks services_there checks_there =
    own_plan n there checks checks_there ++ new_services n services services_there ++ new_checks n checks checks_there
    ++ old_services n services services_there ++ old_checks n services services_there checks checks_there

-- an agent without a node row plans nothing
abbrev pub all_plan : Option NodeRow → Option NodeRow → List ServiceRow → List CheckRow → List ServiceRow → List CheckRow → List Command
all_plan None there services checks services_there checks_there = []
all_plan (Some n) there services checks services_there checks_there = row_plan n there services checks services_there checks_there

-- other tags, where there are some
abbrev pub new_tagged : Option (List (List ℕ)) → ServiceRow → ServiceRow
new_tagged None s = s
new_tagged (Some tags) s = record s { tags = tags }
