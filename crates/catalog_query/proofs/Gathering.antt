-- The instances of a service, each from the rows of its own node.
use Rattle.std.proofs.Common.{◌≡◌, ◌∙◌, Bool, true, false, cond, ◌&&◌, ◌||◌, List, [], ◌∷◌, Option, Some, None, ℕ, refl, sym, ap, filter, map}
use Rattle.std.specs.Prelude.{find}
use Rattle.std.specs.List.{AllByRecursion, list_any, filter_map, cons_option}
use Rattle.std.specs.Ordering.{is_eq}
use Rattle.std.proofs.lemmas.Bool.{false≢true, and_parts}
use Rattle.std.proofs.lemmas.Bool.Decides.{same_from_decides}
use Rattle.std.proofs.lemmas.Cmp.{nat_list_cmp_total, tied_itself}
use Rattle.std.proofs.lemmas.Map.Lookups.{exact_bytes}
use Rattle.cat_model.specs.Keys.{text_cmp, pair_cmp, same_text, is_empty}
use Rattle.cat_model.specs.Catalog.{Catalog, node_at, service_at, node_key}
use Rattle.cat_model.specs.Queries.{is_of, instance_rows, service_rows, name_of, check_view, instance_of, instances}
use Rattle.cat_model.specs.declared.row.NodeRow.{NodeRow}
use Rattle.cat_model.specs.declared.row.ServiceRow.{ServiceRow}
use Rattle.cat_model.specs.declared.row.CheckRow.{CheckRow}
use Rattle.cat_model.specs.declared.query.CheckView.{CheckView}
use Rattle.cat_model.specs.declared.query.Instance.{Instance}
use Rattle.cat_model.proofs.Pairs.{pair_cmp_total}
use Rattle.cat_model.proofs.SameLemmas.{text_decides}
use Rattle.cat_model.proofs.TableLemmas.{All-filter_test, row_at-filter}
use Rattle.catalog_query.specs.Rows.{rows_with}
use Rattle.catalog_query.proofs.Joining as joining
use Rattle.cat_model.specs.Lists.{flat}
use Rattle.catalog_query.specs.Placing.{counts_for, placed}
use Rattle.catalog_query.proofs.Filtering.{filter_weaker, map_alike, each_found, both_hold, flat_is}

abbrev shown_as : CheckRow → List ℕ → CheckView
shown_as c name = record { row = c; service_name = name }

abbrev counts : ServiceRow → CheckRow → Bool
counts s c = same_text s.node c.node && (is_empty c.service || same_text s.id c.service)

or_false : (b : Bool) → (b || false) ≡ b
or_false true = refl
or_false false = refl

-- what a look-up finds passes its test, so in the list of it alone it is found again
found_again : {R : Type 0} (test : R → Bool) (xs : List R) → find test (cons_option (find test xs) []) ≡ find test xs
found_again test [] = refl
found_again {R = R} test (x ∷ xs) = go (test x) refl (found_again test xs)
  where
    go : (b : Bool) → test x ≡ b → find test (cons_option (find test xs) []) ≡ find test xs → find test (cons_option (cond b (Some x) (find test xs)) []) ≡ cond b (Some x) (find test xs)
    go true e ih = ap (λ b. cond b (Some x) None) e
    go false e ih = ih

-- all of these services have this name, so has what is found among them
find_named : (test : ServiceRow → Bool) (name : List ℕ) (xs : List ServiceRow) → AllByRecursion (λ s. same_text s.name name ≡ true) xs → list_any test xs ≡ true → name_of (find test xs) ≡ name
find_named test name [] all e = absurd (false≢true e)
find_named test name (x ∷ xs) all e = go (test x) refl (find_named test name xs all.1)
  where
    go : (b : Bool) → test x ≡ b → (list_any test xs ≡ true → name_of (find test xs) ≡ name) → name_of (cond b (Some x) (find test xs)) ≡ name
    go true t ih = (text_decides x.name name).0 all.0
    go false t ih = ih (ap (λ b. b || list_any test xs) (sym t) ∙ e)

module _ (k : Catalog) (name : List ℕ) where
  abbrev services : List ServiceRow
  services = filter (λ s. same_text s.name name) k.services

  abbrev rows : Catalog
  rows = instance_rows services k

  abbrev all_named : AllByRecursion (λ s. same_text s.name name ≡ true) services
  all_named = All-filter_test (λ s. same_text s.name name) k.services

  module _ (s : ServiceRow) (found : (p : ServiceRow → Bool) → p s ≡ true → list_any p services ≡ true) (named : same_text s.name name ≡ true) where
    abbrev own_nodes : List NodeRow
    own_nodes = cons_option (node_at s.node k.nodes) []

    abbrev own_checks : List CheckRow
    own_checks = filter (counts_for s) k.checks

    abbrev own : Catalog
    own = rows_with (s ∷ []) own_nodes own_checks

    same_node : node_at s.node own_nodes ≡ node_at s.node rows.nodes
    same_node =
        found_again (λ (r : NodeRow). is_eq (text_cmp s.node r.node)) k.nodes
        ∙ sym (row_at-filter text_cmp node_key nat_list_cmp_total exact_bytes (λ n. list_any (λ t. same_text t.node n) services) s.node (found (λ t. same_text t.node s.node) ((text_decides s.node s.node).1 refl)) k.nodes)

    counted : (c : CheckRow) → is_of (s ∷ []) c ≡ true → counts s c ≡ true
    counted c e = sym (or_false (counts s c)) ∙ e

    turned : (a b : List ℕ) → same_text a b ≡ same_text b a
    turned a b = same_from_decides _ _ (text_decides a b) (λ e. sym ((text_decides b a).0 e), λ e. (text_decides b a).1 (sym e))

    own_check : (c : CheckRow) → is_of (s ∷ []) c ≡ true → counts_for s c ≡ true
    own_check c e = (λ i. turned c.node s.node i && (is_empty c.service || turned c.service s.id i)) ∙ counted c e

    among : (c : CheckRow) → is_of (s ∷ []) c ≡ true → is_of services c ≡ true
    among c e = found (λ t. counts t c) (counted c e)

    tie : (c : CheckRow) → same_text s.node c.node ≡ true → same_text s.id c.service ≡ true → is_eq (pair_cmp (c.node, c.service) (s.node, s.id)) ≡ true
    tie c n i =
        ap (λ (k : List ℕ × List ℕ). is_eq (pair_cmp (c.node, c.service) k)) (λ j. ((text_decides s.node c.node).0 n j, (text_decides s.id c.service).0 i j))
        ∙ ap is_eq (tied_itself pair_cmp_total (c.node, c.service))

    -- the name of the service that the check is of
    same_names : (c : CheckRow) → is_of (s ∷ []) c ≡ true → check_view (s ∷ []) c ≡ check_view services c
    same_names c e = go (is_empty c.service) refl
      where
        go : (b : Bool) → is_empty c.service ≡ b
            → shown_as c (cond b [] (name_of (service_at (c.node, c.service) (s ∷ [])))) ≡ shown_as c (cond b [] (name_of (service_at (c.node, c.service) services)))
        go true t = refl
        go false t =
            let parts = and_parts _ _ (counted c e) in
            let id : same_text s.id c.service ≡ true = ap (λ b. b || same_text s.id c.service) (sym t) ∙ parts.1 in
            let here : is_eq (pair_cmp (c.node, c.service) (s.node, s.id)) ≡ true = tie c parts.0 id in
            let by_one : name_of (service_at (c.node, c.service) (s ∷ [])) ≡ s.name = ap (λ b. name_of (cond b (Some s) None)) here in
            let by_all : name_of (service_at (c.node, c.service) services) ≡ name = find_named (λ t. is_eq (pair_cmp (c.node, c.service) (t.node, t.id))) name services all_named (found (λ t. is_eq (pair_cmp (c.node, c.service) (t.node, t.id))) here) in
            ap (shown_as c) (by_one ∙ (text_decides s.name name).0 named ∙ sym by_all)

    same_checks : map (check_view (s ∷ [])) (filter (is_of (s ∷ [])) own_checks) ≡ map (check_view services) (filter (is_of (s ∷ [])) rows.checks)
    same_checks =
        ap (map (check_view (s ∷ []))) (filter_weaker (is_of (s ∷ [])) (counts_for s) own_check k.checks)
        ∙ map_alike (is_of (s ∷ [])) (check_view (s ∷ [])) (check_view services) same_names k.checks
        ∙ ap (map (check_view services)) (sym (filter_weaker (is_of (s ∷ [])) (is_of services) among k.checks))

    abbrev made_of : NodeRow → List CheckView → Instance
    made_of n checks = record { node = n; service = s; checks = checks }

    same_placed : (o : Option NodeRow) → joining.placed own s o ≡ joining.placed rows s o
    same_placed None = refl
    same_placed (Some n) = ap (λ checks. Some (made_of n checks)) same_checks

    is_placed : placed k s ≡ cons_option (joining.placed_at rows s) []
    is_placed = ap (λ o. cons_option o []) (ap (joining.placed own s) same_node ∙ same_placed (node_at s.node rows.nodes))

  pub gathered_instances : flat (placed k) services ≡ instances (service_rows name k)
  gathered_instances =
      flat_is (placed k) (joining.placed_at rows) services
      (both_hold (λ s. (p : ServiceRow → Bool) → p s ≡ true → list_any p services ≡ true) (λ s. same_text s.name name ≡ true) (λ s. placed k s ≡ cons_option (joining.placed_at rows s) []) (λ s found named. is_placed s found named) services
      (each_found (λ s. (p : ServiceRow → Bool) → p s ≡ true → list_any p services ≡ true) services (λ s found. found)) all_named)
      ∙ sym (joining.instances_are rows)
