-- What a change of one node's rows fires of the nodes.
use Rattle.std.proofs.Common.{◌≡◌, ℕ, Bool, true, false, not, cond, ◌&&◌, ◌||◌, List, [], ◌∷◌, refl, sym, ◌∙◌, ap, subst, Some, is_some, filter, find}
use Rattle.std.specs.List.{AllByRecursion, list_any}
use Rattle.std.specs.Ordering.{is_eq}
use Rattle.std.specs.Cmp.Lexicographic.{pointwise}
use Rattle.std.proofs.lemmas.Bool.{false≢true}
use Rattle.std.proofs.lemmas.Bool.Decides.{same_from_decides}
use Rattle.std.proofs.lemmas.Cmp.{nat_list_cmp_total, tied_itself}
use Rattle.std.proofs.lemmas.Map.Lookups.{exact_bytes}
use Rattle.std.proofs.lemmas.Map.Views.{any-filter_same}
use Rattle.cat_model.specs.Keys.{text_cmp, same_text}
use Rattle.cat_model.specs.Same.{same_node, same_service, same_check}
use Rattle.cat_model.specs.Catalog.{empty_catalog, same_catalog, node_key}
use Rattle.cat_model.specs.Queries.{node_rows, checks_of}
use Rattle.cat_model.specs.Indexes.{has_node}
use Rattle.cat_model.specs.declared.row.NodeRow.{NodeRow}
use Rattle.cat_model.specs.declared.row.ServiceRow.{ServiceRow}
use Rattle.cat_model.specs.declared.row.CheckRow.{CheckRow}
use Rattle.cat_model.proofs.SameLemmas.{text_decides, check_decides, catalog_decides}
use Rattle.cat_model.proofs.TableLemmas.{eq_is, All-weaker}
use Rattle.catalog_table.specs.Rows.{Rows, catalog_of, InOrder, is_node, on_node, off_node}
use Rattle.catalog_table.specs.Changes.{Tells}
use Rattle.catalog_table.specs.declared.changed.Changed.{Changed}
use Rattle.catalog_table.proofs.Parts.{filter_weaker}
use Rattle.catalog_table.proofs.ServiceReads.{same_nodes_by_part, same_services_by_part, same_checks_by_part}
use Rattle.catalog_store.specs.Registering.{is_there}

-- a node that is found is there
eq_text : (a b : List ℕ) → is_eq (text_cmp a b) ≡ same_text b a
eq_text a b = same_from_decides _ _ (λ e. exact_bytes a b (eq_is text_cmp node_key nat_list_cmp_total _ e), λ e. subst (λ x. is_eq (text_cmp a x) ≡ true) e (ap is_eq (tied_itself nat_list_cmp_total a))) (λ e. sym ((text_decides b a).0 e), λ e. (text_decides b a).1 (sym e))

pub there_is : (node : List ℕ) (rows : Rows) → is_there node rows ≡ has_node node (catalog_of rows)
there_is node rows = go rows.nodes
  where
    go : (nodes : List NodeRow) → is_some (find (λ r. is_eq (text_cmp node r.node)) nodes) ≡ list_any (λ r. same_text r.node node) nodes
    go [] = refl
    go (r ∷ nodes) = ap (λ b. is_some (cond b (Some r) (find (λ s. is_eq (text_cmp node s.node)) nodes))) (eq_text node r.node) ∙ step (same_text r.node node) (go nodes)
      where
        step : (b : Bool) → is_some (find (λ s. is_eq (text_cmp node s.node)) nodes) ≡ list_any (λ s. same_text s.node node) nodes → is_some (cond b (Some r) (find (λ s. is_eq (text_cmp node s.node)) nodes)) ≡ (b || list_any (λ s. same_text s.node node) nodes)
        step true h = refl
        step false h = h

pub all_there : (rows : List NodeRow) → AllByRecursion (λ r. list_any (λ t. same_text t.node r.node) rows ≡ true) rows
all_there [] = tt
all_there (x ∷ rows) = (first (same_text x.node x.node) ((text_decides x.node x.node).1 refl), All-weaker (λ r. list_any (λ t. same_text t.node r.node) rows ≡ true) (λ r. list_any (λ t. same_text t.node r.node) (x ∷ rows) ≡ true) (λ (r : NodeRow) e. behind (same_text x.node r.node) (list_any (λ t. same_text t.node r.node) rows) e) rows (all_there rows))
  where
    first : (b : Bool) → b ≡ true → (b || list_any (λ t. same_text t.node x.node) rows) ≡ true
    first true e = refl
    first false e = absurd (false≢true e)

    behind : (b d : Bool) → d ≡ true → (b || d) ≡ true
    behind true d e = refl
    behind false d e = e

module _ (node : List ℕ) (old new : Rows) (old_order : InOrder old) (new_order : InOrder new) (others : off_node node old ≡ off_node node new) where
  -- rows of another node are none of this one
  apart : (m name : List ℕ) → same_text node m ≡ false → same_text name m ≡ true → not (same_text name node) ≡ true
  apart m name other is = go (same_text name node) refl
    where
      go : (b : Bool) → same_text name node ≡ b → not b ≡ true
      go true e = absurd (false≢true (sym other ∙ (text_decides node m).1 (sym ((text_decides name node).0 e) ∙ (text_decides name m).0 is)))
      go false e = refl

  same_host_nodes : (m : List ℕ) → same_text node m ≡ false → filter (λ r. same_text r.node m) old.nodes ≡ filter (λ r. same_text r.node m) new.nodes
  same_host_nodes m other =
      sym (filter_weaker (λ (r : NodeRow). same_text r.node m) (λ r. not (is_node node r.node)) (λ r e. apart m r.node other e) old.nodes)
      ∙ ap (λ (r : Rows). filter (λ x. same_text x.node m) r.nodes) others
      ∙ filter_weaker (λ (r : NodeRow). same_text r.node m) (λ r. not (is_node node r.node)) (λ r e. apart m r.node other e) new.nodes

  same_host_services : (m : List ℕ) → same_text node m ≡ false → filter (λ r. same_text r.node m) old.services ≡ filter (λ r. same_text r.node m) new.services
  same_host_services m other =
      sym (filter_weaker (λ (r : ServiceRow). same_text r.node m) (λ r. not (is_node node r.node)) (λ r e. apart m r.node other e) old.services)
      ∙ ap (λ (r : Rows). filter (λ x. same_text x.node m) r.services) others
      ∙ filter_weaker (λ (r : ServiceRow). same_text r.node m) (λ r. not (is_node node r.node)) (λ r e. apart m r.node other e) new.services

  pub same_host_checks : (m : List ℕ) → same_text node m ≡ false → filter (λ r. same_text r.node m) old.checks ≡ filter (λ r. same_text r.node m) new.checks
  same_host_checks m other =
      sym (filter_weaker (λ (r : CheckRow). same_text r.node m) (λ r. not (is_node node r.node)) (λ r e. apart m r.node other e) old.checks)
      ∙ ap (λ (r : Rows). filter (λ x. same_text x.node m) r.checks) others
      ∙ filter_weaker (λ (r : CheckRow). same_text r.node m) (λ r. not (is_node node r.node)) (λ r e. apart m r.node other e) new.checks

  pub same_has : (m : List ℕ) → same_text node m ≡ false → has_node m (catalog_of old) ≡ has_node m (catalog_of new)
  same_has m other =
      sym (any-filter_same (λ (r : NodeRow). same_text r.node m) (λ r. not (is_node node r.node)) true (λ r e. apart m r.node other e) old.nodes)
      ∙ ap (λ (r : Rows). list_any (λ x. same_text x.node m) r.nodes) others
      ∙ any-filter_same (λ (r : NodeRow). same_text r.node m) (λ r. not (is_node node r.node)) true (λ r e. apart m r.node other e) new.nodes

  module _ (t : Changed) (tells : Tells old new t) where
    pub host_fires : (m : List ℕ) → not (same_catalog (node_rows m (catalog_of old)) (node_rows m (catalog_of new))) ≡ (same_text node m && (t.nodes || t.services))
    unfolding same_catalog
    host_fires m = go (same_text node m) refl
      where
        two : (a b : Bool) → not (((((a && b) && true) && true) && true) && true) ≡ (not a || not b)
        two true true = refl
        two true false = refl
        two false b = refl

        own : not (same_catalog (node_rows node (catalog_of old)) (node_rows node (catalog_of new))) ≡ (t.nodes || t.services)
        own =
            two (pointwise same_node (on_node node old).nodes (on_node node new).nodes) (pointwise same_service (on_node node old).services (on_node node new).services)
            ∙ (λ j. not (same_nodes_by_part node old new old_order new_order others j) || not (same_services_by_part node old new old_order new_order others j))
            ∙ (λ j. sym tells.nodes j || sym tells.services j)

        go : (b : Bool) → same_text node m ≡ b → not (same_catalog (node_rows m (catalog_of old)) (node_rows m (catalog_of new))) ≡ (b && (t.nodes || t.services))
        go true e = subst (λ x. not (same_catalog (node_rows x (catalog_of old)) (node_rows x (catalog_of new))) ≡ (t.nodes || t.services)) ((text_decides node m).0 e) own
        go false e = ap not ((catalog_decides (node_rows m (catalog_of old)) (node_rows m (catalog_of new))).1 (λ j. record empty_catalog { nodes = same_host_nodes m e j; services = same_host_services m e j }))

    pub check_fires : (m : List ℕ) → not (pointwise same_check (checks_of m (catalog_of old)) (checks_of m (catalog_of new))) ≡ (same_text node m && t.checks)
    check_fires m = go (same_text node m) refl
      where
        same_self : (xs : List CheckRow) → pointwise same_check xs xs ≡ true
        same_self [] = refl
        same_self (x ∷ xs) = ap (λ b. b && pointwise same_check xs xs) ((check_decides x x).1 refl) ∙ same_self xs

        go : (b : Bool) → same_text node m ≡ b → not (pointwise same_check (checks_of m (catalog_of old)) (checks_of m (catalog_of new))) ≡ (b && t.checks)
        go true e =
            subst (λ x. not (pointwise same_check (checks_of x (catalog_of old)) (checks_of x (catalog_of new))) ≡ t.checks) ((text_decides node m).0 e)
            (ap not (same_checks_by_part node old new old_order new_order others) ∙ sym tells.checks)
        go false e = ap not (ap (λ l. pointwise same_check (checks_of m (catalog_of old)) l) (sym (same_host_checks m e)) ∙ same_self (checks_of m (catalog_of old)))

    pub goes_is : list_any (λ r. not (has_node r.node (catalog_of new))) old.nodes ≡ (has_node node (catalog_of old) && not (has_node node (catalog_of new)))
    goes_is = go old.nodes (all_there old.nodes)
      where
        gone : Bool
        gone = not (has_node node (catalog_of new))

        twice : (a g : Bool) → (g || (a && g)) ≡ g
        twice a true = refl
        twice true false = refl
        twice false false = refl

        go : (rows : List NodeRow) → AllByRecursion (λ r. has_node r.node (catalog_of old) ≡ true) rows → list_any (λ r. not (has_node r.node (catalog_of new))) rows ≡ (list_any (λ r. same_text r.node node) rows && gone)
        go [] h = refl
        go (r ∷ rows) h = step (same_text r.node node) refl (go rows h.1)
          where
            step : (b : Bool) → same_text r.node node ≡ b → list_any (λ s. not (has_node s.node (catalog_of new))) rows ≡ (list_any (λ s. same_text s.node node) rows && gone) → (not (has_node r.node (catalog_of new)) || list_any (λ s. not (has_node s.node (catalog_of new))) rows) ≡ ((b || list_any (λ s. same_text s.node node) rows) && gone)
            step true e ih = (λ j. not (has_node ((text_decides r.node node).0 e j) (catalog_of new)) || ih j) ∙ twice (list_any (λ s. same_text s.node node) rows) gone
            step false e ih =
                let turned : same_text node r.node ≡ false = same_from_decides _ _ (text_decides node r.node) (λ f. sym ((text_decides r.node node).0 f), λ f. (text_decides r.node node).1 (sym f)) ∙ e in
                (λ j. not ((sym (same_has r.node turned) ∙ h.0) j) || list_any (λ s. not (has_node s.node (catalog_of new))) rows) ∙ ih
