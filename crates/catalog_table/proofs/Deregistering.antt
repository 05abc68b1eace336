-- What is left where a service, a check or a node is taken out row by row.
use Rattle.std.proofs.Common.{◌≡◌, ℕ, List, not, ◌&&◌, sym, ◌∙◌, ap, filter}
use Rattle.std.specs.Ordering.{is_eq}
use Rattle.cat_model.specs.Keys.{text_cmp, pair_cmp, same_text}
use Rattle.cat_model.specs.Catalog.{node_key, service_key, check_key}
use Rattle.cat_model.specs.Tables.{without, Ascends}
use Rattle.cat_model.specs.declared.row.NodeRow.{NodeRow}
use Rattle.cat_model.specs.declared.row.ServiceRow.{ServiceRow}
use Rattle.cat_model.specs.declared.row.CheckRow.{CheckRow}
use Rattle.cat_model.proofs.Pairs.{pair_cmp_total}
use Rattle.row_table.proofs.FiledUnder.{same_test}
use Rattle.row_table.proofs.Places.{text_place}
use Rattle.catalog_table.specs.Filings.{Pair}
use Rattle.catalog_table.specs.Rows.{Rows, InOrder}
use Rattle.catalog_table.specs.Steps.{take_service, take_check, take_node}
use Rattle.catalog_table.specs.Takes.{without_each}
use Rattle.catalog_table.proofs.Ranges.{pair_place}
use Rattle.catalog_table.proofs.Taking.{taken}

pair_gone : {R : Type 0} (key : R → Pair) (node id : List ℕ) (rows : List R) → without (λ r. is_eq (pair_cmp (node, id) (key r))) rows ≡ without (λ r. same_text (key r).0 node && same_text (key r).1 id) rows
pair_gone key node id rows = same_test (λ r. not (is_eq (pair_cmp (node, id) (key r)))) (λ r. not (same_text (key r).0 node && same_text (key r).1 id)) rows (λ r. ap not (sym (pair_place node id (key r))))

node_gone : (node : List ℕ) (rows : List NodeRow) → without (λ r. is_eq (text_cmp node (node_key r))) rows ≡ without (λ r. same_text r.node node) rows
node_gone node rows = same_test (λ r. not (is_eq (text_cmp node (node_key r)))) (λ r. not (same_text r.node node)) rows (λ r. ap not (sym (text_place r.node node)))

of_node : {R : Type 0} (key : R → Pair) (node : List ℕ) (rows : List R) → Ascends pair_cmp key rows → without_each pair_cmp key (filter (λ r. same_text (key r).0 node) rows) rows ≡ without (λ r. same_text (key r).0 node) rows
of_node key node rows asc = taken pair_cmp key pair_cmp_total (λ r. same_text (key r).0 node) rows asc

module _ (node : List ℕ) (r : Rows) where
  pub check_taken : (id : List ℕ) (checks : List CheckRow) → checks ≡ without (λ c. is_eq (pair_cmp (node, id) (check_key c))) r.checks → record r { checks = checks } ≡ take_check node id r
  check_taken id checks made = ap (λ l. record r { checks = l }) (made ∙ pair_gone check_key node id r.checks)

  module _ (order : InOrder r) where
    pub service_taken : (id : List ℕ) (gone : List CheckRow) (services : List ServiceRow) (checks : List CheckRow) → gone ≡ filter (λ c. same_text c.node node && same_text c.service id) r.checks
        → services ≡ without (λ s. is_eq (pair_cmp (node, id) (service_key s))) r.services → checks ≡ without_each pair_cmp check_key gone r.checks → record r { services = services; checks = checks } ≡ take_service node id r
    service_taken id gone services checks those made_services made_checks =
        let others : services ≡ without (λ s. same_text s.node node && same_text s.id id) r.services = made_services ∙ pair_gone service_key node id r.services in
        let left : checks ≡ without (λ c. same_text c.node node && same_text c.service id) r.checks =
        made_checks ∙ ap (λ l. without_each pair_cmp check_key l r.checks) those ∙ taken pair_cmp check_key pair_cmp_total (λ c. same_text c.node node && same_text c.service id) r.checks order.checks in
        λ i. record r { services = others i; checks = left i }

    pub node_taken : (gone_services : List ServiceRow) (gone_checks : List CheckRow) (nodes : List NodeRow) (services : List ServiceRow) (checks : List CheckRow) → gone_services ≡ filter (λ s. same_text s.node node) r.services → gone_checks ≡ filter (λ c. same_text c.node node) r.checks
        → nodes ≡ without (λ n. is_eq (text_cmp node (node_key n))) r.nodes → services ≡ without_each pair_cmp service_key gone_services r.services → checks ≡ without_each pair_cmp check_key gone_checks r.checks
        → record { nodes = nodes; services = services; checks = checks } ≡ take_node node r
    node_taken gone_services gone_checks nodes services checks are_services are_checks made_nodes made_services made_checks =
        let rest : nodes ≡ without (λ n. same_text n.node node) r.nodes = made_nodes ∙ node_gone node r.nodes in
        let those : services ≡ without (λ s. same_text s.node node) r.services =
        made_services ∙ ap (λ l. without_each pair_cmp service_key l r.services) are_services ∙ of_node service_key node r.services order.services in
        let left : checks ≡ without (λ c. same_text c.node node) r.checks =
        made_checks ∙ ap (λ l. without_each pair_cmp check_key l r.checks) are_checks ∙ of_node check_key node r.checks order.checks in
        λ i. record { nodes = rest i; services = those i; checks = left i }
