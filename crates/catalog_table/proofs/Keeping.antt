-- A Register or a Deregister changes rows of one node alone, and leaves the order of the keys.
use Rattle.std.proofs.Common.{◌≡◌, ℕ, Bool, true, false, not, cond, List, [], ◌∷◌, refl, sym, ◌∙◌, ap, Option, Some, None, filter, ◌&&◌}
use Rattle.std.specs.Cmp.{IsTotalOrder}
use Rattle.std.specs.declared.cmp.Ordering.{Ordering}
use Rattle.std.proofs.lemmas.Bool.{false≢true, and_parts}
use Rattle.std.proofs.lemmas.Cmp.{nat_list_cmp_total}
use Rattle.std.proofs.lemmas.Map.Lookups.{CmpEqualImpliesEq, exact_bytes}
use Rattle.cat_model.specs.Keys.{text_cmp, pair_cmp, same_text, is_empty}
use Rattle.cat_model.specs.Tables.{put, without, Ascends}
use Rattle.cat_model.specs.Same.{alike_nodes, alike_services, alike_checks}
use Rattle.cat_model.specs.Catalog.{node_at, service_at, check_at, node_key, service_key, check_key}
use Rattle.cat_model.specs.Machine.{put_node, put_service, put_given, put_check, put_checks, deregister, deregister_service, deregister_check, deregister_node}
use Rattle.cat_model.specs.declared.row.NodeRow.{NodeRow}
use Rattle.cat_model.specs.declared.row.ServiceRow.{ServiceRow}
use Rattle.cat_model.specs.declared.row.CheckRow.{CheckRow}
use Rattle.cat_model.specs.declared.command.NewService.{NewService}
use Rattle.cat_model.specs.declared.command.NewCheck.{NewCheck}
use Rattle.cat_model.proofs.TableLemmas.{Ascends-put, Ascends-filter}
use Rattle.cat_model.proofs.SameLemmas.{text_decides}
use Rattle.cat_model.proofs.Pairs.{pair_cmp_total, exact_pair}
use Rattle.catalog_table.specs.Rows.{Rows, rows_of, catalog_of, InOrder, is_node, off_node}
use Rattle.catalog_table.specs.Steps.{put_rows, take_service, take_check, take_node}
use Rattle.catalog_table.proofs.Parts.{others_put, filter_weaker}

-- the new list is in order, and has the other part of the old one
pub record Keeps {K R : Type 0} (cmp : K → K → Ordering) (key : R → K) (on : K → Bool) (old new : List R) : Type 0 where
  pub order : Ascends cmp key new
  pub others : filter (λ r. not (on (key r))) new ≡ filter (λ r. not (on (key r))) old

module _ {K R : Type 0} (cmp : K → K → Ordering) (key : R → K) (total : IsTotalOrder cmp) (exact : CmpEqualImpliesEq cmp) (on : K → Bool) where
  keeps_put : (new : R) → on (key new) ≡ true → (rows : List R) → Ascends cmp key rows → Keeps cmp key on rows (put cmp key new rows)
  keeps_put new here rows asc = record { order = Ascends-put cmp key total new rows asc; others = others_put cmp key total exact on new here rows asc }

  keeps_same : (rows : List R) → Ascends cmp key rows → Keeps cmp key on rows rows
  keeps_same rows asc = record { order = asc; others = refl }

  keeps_either : (b : Bool) (rows xs ys : List R) → Keeps cmp key on rows xs → Keeps cmp key on rows ys → Keeps cmp key on rows (cond b xs ys)
  keeps_either true rows xs ys h g = h
  keeps_either false rows xs ys h g = g

  keeps_both : (xs ys zs : List R) → Keeps cmp key on xs ys → Keeps cmp key on ys zs → Keeps cmp key on xs zs
  keeps_both xs ys zs h g = record { order = g.order; others = g.others ∙ h.others }

  keeps_without : (test : R → Bool) → ((r : R) → test r ≡ true → on (key r) ≡ true) → (rows : List R) → Ascends cmp key rows → Keeps cmp key on rows (without test rows)
  keeps_without test h rows asc =
      record {
        order = Ascends-filter cmp key total (λ r. not (test r)) rows asc;
        others = filter_weaker (λ r. not (on (key r))) (λ r. not (test r)) (λ r e. other r (test r) refl e) rows;
      }
    where
      other : (r : R) (b : Bool) → test r ≡ b → not (on (key r)) ≡ true → not b ≡ true
      other r true t e = absurd (false≢true (ap not (sym (h r t)) ∙ e))
      other r false t e = refl

module _ (i : ℕ) (node : List ℕ) where
  own : same_text node node ≡ true
  own = (text_decides node node).1 refl

  abbrev on_pair : List ℕ × List ℕ → Bool
  on_pair k = is_node node k.0

  node_kept : (address : List ℕ) (rows : List NodeRow) → Ascends text_cmp node_key rows → Keeps text_cmp node_key (is_node node) rows (put_node i node address rows)
  node_kept address rows h = go (node_at node rows)
    where
      fresh : ℕ → NodeRow
      fresh create = record { node = node; address = address; create = create; modify = i }

      kept : (create : ℕ) → Keeps text_cmp node_key (is_node node) rows (put text_cmp node_key (fresh create) rows)
      kept create = keeps_put text_cmp node_key nat_list_cmp_total exact_bytes (is_node node) (fresh create) own rows h

      go : (o : Option NodeRow) → Keeps text_cmp node_key (is_node node) rows (elim o as (λ _. List NodeRow) [ None ↦ put text_cmp node_key (fresh i) rows | Some old ↦ cond (alike_nodes old (fresh i)) rows (put text_cmp node_key (fresh old.create) rows) ])
      go None = kept i
      go (Some old) = keeps_either text_cmp node_key nat_list_cmp_total exact_bytes (is_node node) (alike_nodes old (fresh i)) rows rows (put text_cmp node_key (fresh old.create) rows) (keeps_same text_cmp node_key nat_list_cmp_total exact_bytes (is_node node) rows h) (kept old.create)

  service_kept : (s : NewService) (rows : List ServiceRow) → Ascends pair_cmp service_key rows → Keeps pair_cmp service_key on_pair rows (put_service i node s rows)
  service_kept s rows h = go (service_at (node, s.id) rows)
    where
      fresh : ℕ → ServiceRow
      fresh create = record { node = node; id = s.id; name = s.name; tags = s.tags; address = s.address; port = s.port; tag_override = s.tag_override; create = create; modify = i }

      kept : (create : ℕ) → Keeps pair_cmp service_key on_pair rows (put pair_cmp service_key (fresh create) rows)
      kept create = keeps_put pair_cmp service_key pair_cmp_total exact_pair on_pair (fresh create) own rows h

      go : (o : Option ServiceRow) → Keeps pair_cmp service_key on_pair rows (elim o as (λ _. List ServiceRow) [ None ↦ put pair_cmp service_key (fresh i) rows | Some old ↦ cond (alike_services old (fresh i)) rows (put pair_cmp service_key (fresh old.create) rows) ])
      go None = kept i
      go (Some old) = keeps_either pair_cmp service_key pair_cmp_total exact_pair on_pair (alike_services old (fresh i)) rows rows (put pair_cmp service_key (fresh old.create) rows) (keeps_same pair_cmp service_key pair_cmp_total exact_pair on_pair rows h) (kept old.create)

  given_kept : (o : Option NewService) (rows : List ServiceRow) → Ascends pair_cmp service_key rows → Keeps pair_cmp service_key on_pair rows (put_given i node o rows)
  given_kept None rows h = keeps_same pair_cmp service_key pair_cmp_total exact_pair on_pair rows h
  given_kept (Some s) rows h = service_kept s rows h

  pub check_kept : (c : NewCheck) (rows : List CheckRow) → Ascends pair_cmp check_key rows → Keeps pair_cmp check_key on_pair rows (put_check i node c rows)
  check_kept c rows h = go (check_at (node, c.id) rows)
    where
      fresh : ℕ → CheckRow
      fresh create = record { node = node; id = c.id; name = c.name; status = c.status; notes = c.notes; output = c.output; service = c.service; create = create; modify = i }

      kept : (create : ℕ) → Keeps pair_cmp check_key on_pair rows (put pair_cmp check_key (fresh create) rows)
      kept create = keeps_put pair_cmp check_key pair_cmp_total exact_pair on_pair (fresh create) own rows h

      go : (o : Option CheckRow) → Keeps pair_cmp check_key on_pair rows (elim o as (λ _. List CheckRow) [ None ↦ put pair_cmp check_key (fresh i) rows | Some old ↦ cond (alike_checks old (fresh i)) rows (put pair_cmp check_key (fresh old.create) rows) ])
      go None = kept i
      go (Some old) = keeps_either pair_cmp check_key pair_cmp_total exact_pair on_pair (alike_checks old (fresh i)) rows rows (put pair_cmp check_key (fresh old.create) rows) (keeps_same pair_cmp check_key pair_cmp_total exact_pair on_pair rows h) (kept old.create)

  checks_kept : (cs : List NewCheck) (rows : List CheckRow) → Ascends pair_cmp check_key rows → Keeps pair_cmp check_key on_pair rows (put_checks i node cs rows)
  checks_kept [] rows h = keeps_same pair_cmp check_key pair_cmp_total exact_pair on_pair rows h
  checks_kept (c ∷ cs) rows h =
      let first = check_kept c rows h in
      keeps_both pair_cmp check_key pair_cmp_total exact_pair on_pair rows (put_check i node c rows) (put_checks i node cs (put_check i node c rows)) first (checks_kept cs (put_check i node c rows) first.order)

-- the new rows are in order, and have the other nodes' rows of the old ones
pub record KeepsOthers (node : List ℕ) (old new : Rows) : Type 0 where
  pub order : InOrder new
  pub others : off_node node old ≡ off_node node new

-- of each list
keeps_others : (node : List ℕ) (old new : Rows) → Keeps text_cmp node_key (is_node node) old.nodes new.nodes → Keeps pair_cmp service_key (λ k. is_node node k.0) old.services new.services → Keeps pair_cmp check_key (λ k. is_node node k.0) old.checks new.checks → KeepsOthers node old new
keeps_others node old new n s c =
    record {
      order = record { nodes = n.order; services = s.order; checks = c.order };
      others = λ i. record { nodes = sym n.others i; services = sym s.others i; checks = sym c.others i };
    }

pub put_keeps : (i : ℕ) (node address : List ℕ) (service : Option NewService) (checks : List NewCheck) (r : Rows) → InOrder r → KeepsOthers node r (put_rows i node address service checks r)
put_keeps i node address service checks r o =
    keeps_others node r (put_rows i node address service checks r) (node_kept i node address r.nodes o.nodes) (given_kept i node service r.services o.services) (checks_kept i node checks r.checks o.checks)

module _ (node : List ℕ) (r : Rows) (o : InOrder r) where
  service_keeps : (id : List ℕ) → KeepsOthers node r (take_service node id r)
  service_keeps id =
      keeps_others node r (take_service node id r) (keeps_same text_cmp node_key nat_list_cmp_total exact_bytes (is_node node) r.nodes o.nodes)
      (keeps_without pair_cmp service_key pair_cmp_total exact_pair (λ k. is_node node k.0) (λ s. same_text s.node node && same_text s.id id) (λ s e. (and_parts _ _ e).0) r.services o.services)
      (keeps_without pair_cmp check_key pair_cmp_total exact_pair (λ k. is_node node k.0) (λ c. same_text c.node node && same_text c.service id) (λ c e. (and_parts _ _ e).0) r.checks o.checks)

  check_keeps : (id : List ℕ) → KeepsOthers node r (take_check node id r)
  check_keeps id =
      keeps_others node r (take_check node id r) (keeps_same text_cmp node_key nat_list_cmp_total exact_bytes (is_node node) r.nodes o.nodes)
      (keeps_same pair_cmp service_key pair_cmp_total exact_pair (λ k. is_node node k.0) r.services o.services)
      (keeps_without pair_cmp check_key pair_cmp_total exact_pair (λ k. is_node node k.0) (λ c. same_text c.node node && same_text c.id id) (λ c e. (and_parts _ _ e).0) r.checks o.checks)

  node_keeps : KeepsOthers node r (take_node node r)
  node_keeps =
      keeps_others node r (take_node node r)
      (keeps_without text_cmp node_key nat_list_cmp_total exact_bytes (is_node node) (λ n. same_text n.node node) (λ n e. e) r.nodes o.nodes)
      (keeps_without pair_cmp service_key pair_cmp_total exact_pair (λ k. is_node node k.0) (λ s. same_text s.node node) (λ s e. e) r.services o.services)
      (keeps_without pair_cmp check_key pair_cmp_total exact_pair (λ k. is_node node k.0) (λ c. same_text c.node node) (λ c e. e) r.checks o.checks)

  pub deregister_keeps : (service check : List ℕ) → KeepsOthers node r (rows_of (deregister node service check (catalog_of r)))
  unfolding deregister
  deregister_keeps service check = go (not (is_empty service)) (not (is_empty check))
    where
      go : (b d : Bool) → KeepsOthers node r (rows_of (cond b (deregister_service node service (catalog_of r)) (cond d (deregister_check node check (catalog_of r)) (deregister_node node (catalog_of r)))))
      go true d = service_keeps service
      go false true = check_keeps check
      go false false = node_keeps

-- and leaves no other list
pub deregister_whole : (node service check : List ℕ) (r : Rows) → deregister node service check (catalog_of r) ≡ catalog_of (rows_of (deregister node service check (catalog_of r)))
unfolding deregister
deregister_whole node service check r = go (not (is_empty service)) (not (is_empty check))
  where
    go : (b d : Bool) → cond b (deregister_service node service (catalog_of r)) (cond d (deregister_check node check (catalog_of r)) (deregister_node node (catalog_of r)))
        ≡ catalog_of (rows_of (cond b (deregister_service node service (catalog_of r)) (cond d (deregister_check node check (catalog_of r)) (deregister_node node (catalog_of r)))))
    go true d = refl
    go false true = refl
    go false false = refl
