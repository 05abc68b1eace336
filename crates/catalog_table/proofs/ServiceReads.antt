-- What a read of a service name takes of one node's rows and of the others'.
use Rattle.std.proofs.Common.{◌≡◌, ℕ, Bool, true, false, not, List, refl, sym, ◌∙◌, ap, filter}
use Rattle.std.specs.List.{list_any}
use Rattle.std.specs.Bool.{Decides}
use Rattle.std.specs.Cmp.Lexicographic.{pointwise, pointwise_decides}
use Rattle.std.proofs.lemmas.Bool.{and_parts}
use Rattle.std.proofs.lemmas.Bool.Decides.{same_from_decides}
use Rattle.std.proofs.lemmas.Cmp.{nat_list_cmp_total}
use Rattle.std.proofs.lemmas.Map.Lookups.{exact_bytes}
use Rattle.std.proofs.lemmas.Map.Views.{any-filter_same}
use Rattle.cat_model.specs.Keys.{text_cmp, pair_cmp, same_text}
use Rattle.cat_model.specs.Tables.{Ascends}
use Rattle.cat_model.specs.Same.{same_node, same_service, same_check}
use Rattle.cat_model.specs.Catalog.{empty_catalog, node_key, service_key, check_key}
use Rattle.cat_model.specs.Queries.{service_rows, is_of}
use Rattle.cat_model.specs.declared.row.NodeRow.{NodeRow}
use Rattle.cat_model.specs.declared.row.ServiceRow.{ServiceRow}
use Rattle.cat_model.specs.declared.row.CheckRow.{CheckRow}
use Rattle.cat_model.proofs.TableLemmas.{Ascends-filter}
use Rattle.cat_model.proofs.SameLemmas.{text_decides, node_decides, service_decides, check_decides, catalog_decides}
use Rattle.cat_model.proofs.Pairs.{pair_cmp_total, exact_pair}
use Rattle.catalog_table.specs.Rows.{Rows, rows_of, catalog_of, InOrder, part, is_node, on_node, off_node}
use Rattle.catalog_table.specs.Changes.{reads_differ}
use Rattle.catalog_table.proofs.Parts.{filter_both, filter_no, filter_none, equal_by_parts}

-- the read of a part is the part of the read
pub reads_part : (test : List ℕ → Bool) (name : List ℕ) (r : Rows) → service_rows name (catalog_of (part test r)) ≡ catalog_of (part test (rows_of (service_rows name (catalog_of r))))
reads_part test name r = λ i. catalog_of (record { nodes = nodes i; services = services i; checks = checks i })
  where
    named : ServiceRow → Bool
    named s = same_text s.name name

    on : ServiceRow → Bool
    on s = test s.node

    all : List ServiceRow
    all = filter named r.services

    services : filter named (filter on r.services) ≡ filter on all
    services = filter_both named on on (λ x e. refl) r.services

    at_node : NodeRow → ServiceRow → Bool
    at_node n s = same_text s.node n.node

    some_node : (n : NodeRow) → test n.node ≡ true → list_any (at_node n) all ≡ list_any (at_node n) (filter on all)
    some_node n e = sym (any-filter_same (at_node n) on true (λ s h. ap test ((text_decides s.node n.node).0 h) ∙ e) all)

    nodes : filter (λ n. list_any (at_node n) (filter named (filter on r.services))) (filter (λ (n : NodeRow). test n.node) r.nodes) ≡ filter (λ (n : NodeRow). test n.node) (filter (λ n. list_any (at_node n) all) r.nodes)
    nodes =
        ap (λ l. filter (λ n. list_any (at_node n) l) (filter (λ (n : NodeRow). test n.node) r.nodes)) services
        ∙ sym (filter_both (λ (n : NodeRow). test n.node) (λ n. list_any (at_node n) all) (λ n. list_any (at_node n) (filter on all)) some_node r.nodes)

    some_check : (c : CheckRow) → test c.node ≡ true → is_of all c ≡ is_of (filter on all) c
    some_check c e = sym (any-filter_same _ on true (λ s h. ap test ((text_decides s.node c.node).0 (and_parts _ _ h).0) ∙ e) all)

    checks : filter (is_of (filter named (filter on r.services))) (filter (λ (c : CheckRow). test c.node) r.checks) ≡ filter (λ (c : CheckRow). test c.node) (filter (is_of all) r.checks)
    checks =
        ap (λ l. filter (is_of l) (filter (λ (c : CheckRow). test c.node) r.checks)) services
        ∙ sym (filter_both (λ (c : CheckRow). test c.node) (is_of all) (is_of (filter on all)) some_check r.checks)

-- a name that no service has reads nothing
pub reads_nothing : (name : List ℕ) (r : Rows) → list_any (λ (s : ServiceRow). same_text s.name name) r.services ≡ false → service_rows name (catalog_of r) ≡ empty_catalog
reads_nothing name r h =
    let none = filter_no (λ (s : ServiceRow). same_text s.name name) r.services h in
    ap (λ l. record empty_catalog { nodes = filter (λ (n : NodeRow). list_any (λ (s : ServiceRow). same_text s.node n.node) l) r.nodes; services = l; checks = filter (is_of l) r.checks }) none
    ∙ λ i. record empty_catalog { nodes = filter_none r.nodes i; checks = filter_none r.checks i }

pub decides_iff : {P Q : Type 0} (b : Bool) → Decides b P → (P → Q) → (Q → P) → Decides b Q
decides_iff b d f g = (λ e. f (d.0 e), λ q. d.1 (g q))

module _ (node : List ℕ) where
  -- rows are equal where those of the node are, and those of the others
  pub nodes_by_parts : (xs ys : List NodeRow) → Ascends text_cmp node_key xs → Ascends text_cmp node_key ys → filter (λ (x : NodeRow). is_node node x.node) xs ≡ filter (λ (x : NodeRow). is_node node x.node) ys → filter (λ (x : NodeRow). not (is_node node x.node)) xs ≡ filter (λ (x : NodeRow). not (is_node node x.node)) ys → xs ≡ ys
  nodes_by_parts = equal_by_parts text_cmp node_key nat_list_cmp_total exact_bytes (is_node node) same_node node_decides

  pub services_by_parts : (xs ys : List ServiceRow) → Ascends pair_cmp service_key xs → Ascends pair_cmp service_key ys → filter (λ (x : ServiceRow). is_node node x.node) xs ≡ filter (λ (x : ServiceRow). is_node node x.node) ys → filter (λ (x : ServiceRow). not (is_node node x.node)) xs ≡ filter (λ (x : ServiceRow). not (is_node node x.node)) ys → xs ≡ ys
  services_by_parts = equal_by_parts pair_cmp service_key pair_cmp_total exact_pair (λ k. is_node node k.0) same_service service_decides

  pub checks_by_parts : (xs ys : List CheckRow) → Ascends pair_cmp check_key xs → Ascends pair_cmp check_key ys → filter (λ (x : CheckRow). is_node node x.node) xs ≡ filter (λ (x : CheckRow). is_node node x.node) ys → filter (λ (x : CheckRow). not (is_node node x.node)) xs ≡ filter (λ (x : CheckRow). not (is_node node x.node)) ys → xs ≡ ys
  checks_by_parts = equal_by_parts pair_cmp check_key pair_cmp_total exact_pair (λ k. is_node node k.0) same_check check_decides

  by_parts : (a b : Rows) → InOrder a → InOrder b → on_node node a ≡ on_node node b → off_node node a ≡ off_node node b → a ≡ b
  by_parts a b oa ob here there =
      λ i. record {
        nodes = nodes_by_parts a.nodes b.nodes oa.nodes ob.nodes (ap (λ r. r.nodes) here) (ap (λ r. r.nodes) there) i;
        services = services_by_parts a.services b.services oa.services ob.services (ap (λ r. r.services) here) (ap (λ r. r.services) there) i;
        checks = checks_by_parts a.checks b.checks oa.checks ob.checks (ap (λ r. r.checks) here) (ap (λ r. r.checks) there) i;
      }

  reads_in_order : (name : List ℕ) (r : Rows) → InOrder r → InOrder (rows_of (service_rows name (catalog_of r)))
  reads_in_order name r o = record {
    nodes = Ascends-filter text_cmp node_key nat_list_cmp_total _ r.nodes o.nodes;
    services = Ascends-filter pair_cmp service_key pair_cmp_total _ r.services o.services;
    checks = Ascends-filter pair_cmp check_key pair_cmp_total _ r.checks o.checks;
  }

  module _ (old new : Rows) (old_order : InOrder old) (new_order : InOrder new) (others : off_node node old ≡ off_node node new) where
    -- the reads of a name differ exactly where the node's part of them does
    pub differ_by_part : (name : List ℕ) → reads_differ (on_node node old) (on_node node new) name ≡ reads_differ old new name
    differ_by_part name =
        ap not
        (same_from_decides _ _
        (decides_iff _ (catalog_decides (service_rows name (catalog_of (on_node node old))) (service_rows name (catalog_of (on_node node new)))) whole small)
        (catalog_decides (service_rows name (catalog_of old)) (service_rows name (catalog_of new))))
      where
        a : Rows
        a = rows_of (service_rows name (catalog_of old))

        b : Rows
        b = rows_of (service_rows name (catalog_of new))

        small : service_rows name (catalog_of old) ≡ service_rows name (catalog_of new) → service_rows name (catalog_of (on_node node old)) ≡ service_rows name (catalog_of (on_node node new))
        small e = reads_part (is_node node) name old ∙ ap (λ k. catalog_of (on_node node (rows_of k))) e ∙ sym (reads_part (is_node node) name new)

        whole : service_rows name (catalog_of (on_node node old)) ≡ service_rows name (catalog_of (on_node node new)) → service_rows name (catalog_of old) ≡ service_rows name (catalog_of new)
        whole e =
            ap catalog_of
            (by_parts a b (reads_in_order name old old_order) (reads_in_order name new new_order)
            (ap rows_of (sym (reads_part (is_node node) name old) ∙ e ∙ reads_part (is_node node) name new))
            (ap rows_of (sym (reads_part (λ n. not (is_node node n)) name old) ∙ ap (λ r. service_rows name (catalog_of r)) others ∙ reads_part (λ n. not (is_node node n)) name new)))

    pub same_nodes_by_part : pointwise same_node (on_node node old).nodes (on_node node new).nodes ≡ pointwise same_node old.nodes new.nodes
    same_nodes_by_part =
        same_from_decides _ _
        (decides_iff _ (pointwise_decides node_decides (on_node node old).nodes (on_node node new).nodes)
        (λ e. nodes_by_parts old.nodes new.nodes old_order.nodes new_order.nodes e (ap (λ r. r.nodes) others)) (ap (filter (λ (x : NodeRow). is_node node x.node))))
        (pointwise_decides node_decides old.nodes new.nodes)

    pub same_services_by_part : pointwise same_service (on_node node old).services (on_node node new).services ≡ pointwise same_service old.services new.services
    same_services_by_part =
        same_from_decides _ _
        (decides_iff _ (pointwise_decides service_decides (on_node node old).services (on_node node new).services)
        (λ e. services_by_parts old.services new.services old_order.services new_order.services e (ap (λ r. r.services) others)) (ap (filter (λ (x : ServiceRow). is_node node x.node))))
        (pointwise_decides service_decides old.services new.services)

    pub same_checks_by_part : pointwise same_check (on_node node old).checks (on_node node new).checks ≡ pointwise same_check old.checks new.checks
    same_checks_by_part =
        same_from_decides _ _
        (decides_iff _ (pointwise_decides check_decides (on_node node old).checks (on_node node new).checks)
        (λ e. checks_by_parts old.checks new.checks old_order.checks new_order.checks e (ap (λ r. r.checks) others)) (ap (filter (λ (x : CheckRow). is_node node x.node))))
        (pointwise_decides check_decides old.checks new.checks)
