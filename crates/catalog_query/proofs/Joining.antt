-- The instances of a catalog, and their order.
use Rattle.std.proofs.Common.{◌≡◌, Option, Some, None, refl, sym, subst}
use Rattle.std.specs.List.{filter_map}
use Rattle.cat_model.specs.Keys.{pair_cmp}
use Rattle.cat_model.specs.Tables.{Ascends}
use Rattle.cat_model.specs.Catalog.{Catalog, node_at, service_key}
use Rattle.cat_model.specs.Queries.{instance_of, instances}
use Rattle.cat_model.specs.declared.row.NodeRow.{NodeRow}
use Rattle.cat_model.specs.declared.row.ServiceRow.{ServiceRow}
use Rattle.cat_model.specs.declared.query.Instance.{Instance}
use Rattle.catalog_query.specs.Rows.{instance_key}
use Rattle.cat_model.proofs.Elements.{Ascends-filter_map}

-- the instance of a service on its node, where that is there
abbrev pub placed : Catalog → ServiceRow → Option NodeRow → Option Instance
placed k s None = None
placed k s (Some n) = Some (instance_of k s n)

abbrev pub placed_at : Catalog → ServiceRow → Option Instance
placed_at k s = placed k s (node_at s.node k.nodes)

pub instances_are : (k : Catalog) → instances k ≡ filter_map (placed_at k) k.services
instances_are k = refl

keeps_key : (k : Catalog) (s : ServiceRow) (o : Option NodeRow) (x : Instance) → placed k s o ≡ Some x → instance_key x ≡ service_key s
keeps_key k s None x e = cc
keeps_key k s (Some n) x e = cc

pub instances_ascend : (k : Catalog) → Ascends pair_cmp service_key k.services → Ascends pair_cmp instance_key (instances k)
instances_ascend k asc = subst (Ascends pair_cmp instance_key) (sym (instances_are k)) (Ascends-filter_map pair_cmp service_key instance_key (placed_at k) (λ s x e. keeps_key k s (node_at s.node k.nodes) x e) k.services asc)
