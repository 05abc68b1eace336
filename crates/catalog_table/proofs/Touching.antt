-- What a registration and its undoing touch.
use Rattle.std.proofs.Common.{◌≡◌, ℕ, Bool, true, false, not, cond, List, [], ◌∷◌, refl, sym, ◌∙◌, ap, Option, Some, None, is_some, filter, ◌&&◌, ◌||◌, nat_eq}
use Rattle.std.specs.List.{list_any, cons_option}
use Rattle.std.specs.Ordering.{is_eq}
use Rattle.std.proofs.lemmas.Bool.{true≢false, false≢true}
use Rattle.std.proofs.lemmas.Cmp.{nat_list_cmp_total}
use Rattle.std.proofs.lemmas.List.Folds.{list_any-append}
use Rattle.std.proofs.lemmas.Map.Lookups.{exact_bytes}
use Rattle.cat_model.specs.Keys.{text_cmp, pair_cmp, same_text, is_empty}
use Rattle.cat_model.specs.Tables.{put, Ascends}
use Rattle.cat_model.specs.Same.{alike_nodes, alike_services, alike_checks, same_node, same_service, same_check}
use Rattle.cat_model.specs.Catalog.{node_at, service_at, check_at, node_key, service_key, check_key}
use Rattle.cat_model.specs.Machine.{put_node, put_service, put_given, put_check, put_checks, last_of_each, deregister, deregister_service, deregister_check, deregister_node}
use Rattle.cat_model.specs.declared.row.NodeRow.{NodeRow}
use Rattle.cat_model.specs.declared.row.ServiceRow.{ServiceRow}
use Rattle.cat_model.specs.declared.row.CheckRow.{CheckRow}
use Rattle.cat_model.specs.declared.command.NewService.{NewService}
use Rattle.cat_model.specs.declared.command.NewCheck.{NewCheck}
use Rattle.cat_model.proofs.SameLemmas.{text_decides, node_decides, service_decides, check_decides}
use Rattle.cat_model.proofs.Pairs.{pair_cmp_total, exact_pair}
use Rattle.cat_model.proofs.InOrder.{key_of_found}
use Rattle.row_table.proofs.FiledUnder.{same_test}
use Rattle.catalog_table.specs.Rows.{Rows, rows_of, catalog_of, InOrder}
use Rattle.catalog_table.specs.Edits.{has_row, Edits}
use Rattle.catalog_table.specs.Puts.{made_node, made_service, made_check, node_edits, service_edits, check_edits, given_edits, checks_edits, HaveIdsOnce}
use Rattle.catalog_table.specs.Steps.{put_rows, take_service, take_check, take_node}
use Rattle.catalog_table.specs.Touching.{Touches, name_in, service_names, check_services, put_touches, service_touches, check_touches, node_touches, take_touches}
use Rattle.catalog_table.proofs.Edits.{or_right, edits_none, edits_without, edits_both, edits_come, edits_change}
use Rattle.catalog_table.proofs.Keeping.{KeepsOthers, put_keeps, check_kept, deregister_keeps}
use Rattle.catalog_table.proofs.Ranges.{one_row, one_node, pair_place}

or_parts : (a b : Bool) → (a || b) ≡ true → {X : Type 0} → (a ≡ true → X) → (b ≡ true → X) → X
or_parts true b h f g = f refl
or_parts false b h f g = g h

-- 1. Rows that are put.
module _ (i : ℕ) (node : List ℕ) where
  node_edited : (address : List ℕ) (rows : List NodeRow) → Ascends text_cmp node_key rows → Edits same_node rows (put_node i node address rows) (node_edits (node_at node rows) (made_node i node address))
  unfolding same_node
  node_edited address rows asc = go (node_at node rows) refl
    where
      fresh : ℕ → NodeRow
      fresh create = record { node = node; address = address; create = create; modify = i }

      over : (old : NodeRow) → node_at node rows ≡ Some old → (b : Bool) → alike_nodes old (fresh i) ≡ b → Edits same_node rows (cond b rows (put text_cmp node_key (fresh old.create) rows)) (cond b [] (old ∷ fresh old.create ∷ []))
      over old at true e = edits_none same_node node_decides rows
      over old at false e = edits_change text_cmp node_key nat_list_cmp_total exact_bytes same_node node_decides (fresh old.create) rows asc old at (ap (λ b. b && nat_eq old.create old.create && nat_eq old.modify i) e)

      go : (o : Option NodeRow) → node_at node rows ≡ o → Edits same_node rows (elim o as (λ _. List NodeRow) [ None ↦ put text_cmp node_key (fresh i) rows | Some old ↦ cond (alike_nodes old (fresh i)) rows (put text_cmp node_key (fresh old.create) rows) ]) (node_edits o (fresh i))
      go None at = edits_come text_cmp node_key nat_list_cmp_total exact_bytes same_node node_decides (fresh i) rows asc at
      go (Some old) at = over old at (alike_nodes old (fresh i)) refl

  service_edited : (s : NewService) (rows : List ServiceRow) → Ascends pair_cmp service_key rows → Edits same_service rows (put_service i node s rows) (service_edits (service_at (node, s.id) rows) (made_service i node s))
  unfolding same_service
  service_edited s rows asc = go (service_at (node, s.id) rows) refl
    where
      fresh : ℕ → ServiceRow
      fresh create = record { node = node; id = s.id; name = s.name; tags = s.tags; address = s.address; port = s.port; tag_override = s.tag_override; create = create; modify = i }

      over : (old : ServiceRow) → service_at (node, s.id) rows ≡ Some old → (b : Bool) → alike_services old (fresh i) ≡ b → Edits same_service rows (cond b rows (put pair_cmp service_key (fresh old.create) rows)) (cond b [] (old ∷ fresh old.create ∷ []))
      over old at true e = edits_none same_service service_decides rows
      over old at false e = edits_change pair_cmp service_key pair_cmp_total exact_pair same_service service_decides (fresh old.create) rows asc old at (ap (λ b. b && nat_eq old.create old.create && nat_eq old.modify i) e)

      go : (o : Option ServiceRow) → service_at (node, s.id) rows ≡ o → Edits same_service rows (elim o as (λ _. List ServiceRow) [ None ↦ put pair_cmp service_key (fresh i) rows | Some old ↦ cond (alike_services old (fresh i)) rows (put pair_cmp service_key (fresh old.create) rows) ]) (service_edits o (fresh i))
      go None at = edits_come pair_cmp service_key pair_cmp_total exact_pair same_service service_decides (fresh i) rows asc at
      go (Some old) at = over old at (alike_services old (fresh i)) refl

  given_edited : (o : Option NewService) (rows : List ServiceRow) → Ascends pair_cmp service_key rows → Edits same_service rows (put_given i node o rows) (given_edits i node o rows)
  given_edited None rows asc = edits_none same_service service_decides rows
  given_edited (Some s) rows asc = service_edited s rows asc

  check_edited : (c : NewCheck) (rows : List CheckRow) → Ascends pair_cmp check_key rows → Edits same_check rows (put_check i node c rows) (check_edits (check_at (node, c.id) rows) (made_check i node c))
  unfolding same_check
  check_edited c rows asc = go (check_at (node, c.id) rows) refl
    where
      fresh : ℕ → CheckRow
      fresh create = record { node = node; id = c.id; name = c.name; status = c.status; notes = c.notes; output = c.output; service = c.service; create = create; modify = i }

      over : (old : CheckRow) → check_at (node, c.id) rows ≡ Some old → (b : Bool) → alike_checks old (fresh i) ≡ b → Edits same_check rows (cond b rows (put pair_cmp check_key (fresh old.create) rows)) (cond b [] (old ∷ fresh old.create ∷ []))
      over old at true e = edits_none same_check check_decides rows
      over old at false e = edits_change pair_cmp check_key pair_cmp_total exact_pair same_check check_decides (fresh old.create) rows asc old at (ap (λ b. b && nat_eq old.create old.create && nat_eq old.modify i) e)

      go : (o : Option CheckRow) → check_at (node, c.id) rows ≡ o → Edits same_check rows (elim o as (λ _. List CheckRow) [ None ↦ put pair_cmp check_key (fresh i) rows | Some old ↦ cond (alike_checks old (fresh i)) rows (put pair_cmp check_key (fresh old.create) rows) ]) (check_edits o (fresh i))
      go None at = edits_come pair_cmp check_key pair_cmp_total exact_pair same_check check_decides (fresh i) rows asc at
      go (Some old) at = over old at (alike_checks old (fresh i)) refl

  -- the rows of one check have its ID, and those of several checks have theirs
  one_id : (c : NewCheck) (rows : List CheckRow) (r : CheckRow) → has_row same_check (check_edits (check_at (node, c.id) rows) (made_check i node c)) r ≡ true → r.id ≡ c.id
  one_id c rows r h = go (check_at (node, c.id) rows) refl h
    where
      fresh : ℕ → CheckRow
      fresh create = record { node = node; id = c.id; name = c.name; status = c.status; notes = c.notes; output = c.output; service = c.service; create = create; modify = i }

      is_fresh : (create : ℕ) → (same_check r (fresh create) || false) ≡ true → r.id ≡ c.id
      is_fresh create e = or_parts (same_check r (fresh create)) false e (λ s. ap (λ q. q.id) ((check_decides r (fresh create)).0 s)) (λ f. absurd (false≢true f))

      over : (old : CheckRow) → check_at (node, c.id) rows ≡ Some old → (b : Bool) → has_row same_check (cond b [] (old ∷ fresh old.create ∷ [])) r ≡ true → r.id ≡ c.id
      over old at true e = absurd (false≢true e)
      over old at false e =
          or_parts (same_check r old) (same_check r (fresh old.create) || false) e
          (λ s. ap (λ q. q.id) ((check_decides r old).0 s) ∙ ap (λ k. k.1) (sym (key_of_found pair_cmp check_key pair_cmp_total exact_pair (node, c.id) rows old at)))
          (is_fresh old.create)

      go : (o : Option CheckRow) → check_at (node, c.id) rows ≡ o → has_row same_check (check_edits o (fresh i)) r ≡ true → r.id ≡ c.id
      go None at e = is_fresh i e
      go (Some old) at e = over old at (alike_checks old (fresh i)) e

  some_id : (cs : List NewCheck) (rows : List CheckRow) (r : CheckRow) → has_row same_check (checks_edits i node cs rows) r ≡ true → list_any (λ d. same_text r.id d.id) cs ≡ true
  some_id [] rows r h = absurd (false≢true h)
  some_id (c ∷ cs) rows r h =
      or_parts _ _ (sym (list_any-append (same_check r) (check_edits (check_at (node, c.id) rows) (made_check i node c)) (checks_edits i node cs (put_check i node c rows))) ∙ h)
      (λ e. ap (λ b. b || list_any (λ (d : NewCheck). same_text r.id d.id) cs) ((text_decides r.id c.id).1 (one_id c rows r e)))
      (λ e. or_right (same_text r.id c.id) (some_id cs (put_check i node c rows) r e))

  checks_edited : (cs : List NewCheck) (rows : List CheckRow) → Ascends pair_cmp check_key rows → HaveIdsOnce cs → Edits same_check rows (put_checks i node cs rows) (checks_edits i node cs rows)
  checks_edited [] rows asc once = edits_none same_check check_decides rows
  checks_edited (c ∷ cs) rows asc once =
      edits_both same_check check_decides rows mid (put_checks i node cs mid) first rest (check_edited c rows asc) (checks_edited cs mid (check_kept i node c rows asc).order once.1) apart
    where
      mid : List CheckRow
      mid = put_check i node c rows

      first : List CheckRow
      first = check_edits (check_at (node, c.id) rows) (made_check i node c)

      rest : List CheckRow
      rest = checks_edits i node cs mid

      apart : (r : CheckRow) → has_row same_check first r ≡ true → has_row same_check rest r ≡ false
      apart r h = go (has_row same_check rest r) refl
        where
          go : (b : Bool) → has_row same_check rest r ≡ b → b ≡ false
          go false e = refl
          go true e = absurd (true≢false (sym (some_id cs mid r e) ∙ ap (λ id. list_any (λ (d : NewCheck). same_text id d.id) cs) (one_id c rows r h) ∙ once.0))

  pub put_touched : (address : List ℕ) (service : Option NewService) (checks : List NewCheck) (r : Rows) → InOrder r → HaveIdsOnce checks → Touches node r (put_rows i node address service checks r) (put_touches i node address service checks r)
  put_touched address service checks r order once =
      let keeps : KeepsOthers node r (put_rows i node address service checks r) = put_keeps i node address service checks r order in
      record {
        before = order;
        after = keeps.order;
        others = keeps.others;
        node_edits = node_edits (node_at node r.nodes) (made_node i node address);
        service_edits = given_edits i node service r.services;
        check_edits = checks_edits i node checks r.checks;
        nodes_edited = node_edited address r.nodes order.nodes;
        services_edited = given_edited service r.services order.services;
        checks_edited = checks_edited checks r.checks order.checks once;
        told = refl;
        names = refl;
        served = refl;
      }

-- of checks with one ID just the last one counts
fewer : (id : List ℕ) (ds : List NewCheck) → list_any (λ d. same_text id d.id) ds ≡ false → list_any (λ d. same_text id d.id) (last_of_each ds) ≡ false
fewer id [] h = refl
fewer id (d ∷ ds) h = left (same_text id d.id) refl h (fewer id ds)
  where
    chosen : (b c : Bool) → c ≡ false → list_any (λ (e : NewCheck). same_text id e.id) (last_of_each ds) ≡ false → cond b (list_any (λ (e : NewCheck). same_text id e.id) (last_of_each ds)) (c || list_any (λ (e : NewCheck). same_text id e.id) (last_of_each ds)) ≡ false
    chosen true c e g = g
    chosen false c e g = ap (λ b. b || list_any (λ (e : NewCheck). same_text id e.id) (last_of_each ds)) e ∙ g

    through : (b : Bool) → list_any (λ (e : NewCheck). same_text id e.id) (cond b (last_of_each ds) (d ∷ last_of_each ds)) ≡ cond b (list_any (λ (e : NewCheck). same_text id e.id) (last_of_each ds)) (same_text id d.id || list_any (λ (e : NewCheck). same_text id e.id) (last_of_each ds))
    through true = refl
    through false = refl

    left : (b : Bool) → same_text id d.id ≡ b → (b || list_any (λ (e : NewCheck). same_text id e.id) ds) ≡ false → (list_any (λ (e : NewCheck). same_text id e.id) ds ≡ false → list_any (λ (e : NewCheck). same_text id e.id) (last_of_each ds) ≡ false)
        → list_any (λ (e : NewCheck). same_text id e.id) (cond (list_any (λ (e : NewCheck). same_text d.id e.id) ds) (last_of_each ds) (d ∷ last_of_each ds)) ≡ false
    left true e g rest = absurd (true≢false g)
    left false e g rest = through (list_any (λ (e : NewCheck). same_text d.id e.id) ds) ∙ chosen (list_any (λ (e : NewCheck). same_text d.id e.id) ds) (same_text id d.id) e (rest g)

pub once_each : (cs : List NewCheck) → HaveIdsOnce (last_of_each cs)
once_each [] = tt
once_each (c ∷ cs) = go (list_any (λ d. same_text c.id d.id) cs) refl (once_each cs)
  where
    go : (b : Bool) → list_any (λ (d : NewCheck). same_text c.id d.id) cs ≡ b → HaveIdsOnce (last_of_each cs) → HaveIdsOnce (cond b (last_of_each cs) (c ∷ last_of_each cs))
    go true e rest = rest
    go false e rest = (fewer c.id cs e, rest)

-- 2. Rows that are taken out.
module _ (node : List ℕ) (r : Rows) (order : InOrder r) where
  one_service : (id : List ℕ) → filter (λ (s : ServiceRow). same_text s.node node && same_text s.id id) r.services ≡ cons_option (service_at (node, id) r.services) []
  one_service id =
      same_test (λ (s : ServiceRow). same_text s.node node && same_text s.id id) (λ s. is_eq (pair_cmp (node, id) (service_key s))) r.services (λ s. pair_place node id (service_key s))
      ∙ one_row pair_cmp service_key exact_pair (node, id) r.services order.services

  one_check : (id : List ℕ) → filter (λ (c : CheckRow). same_text c.node node && same_text c.id id) r.checks ≡ cons_option (check_at (node, id) r.checks) []
  one_check id =
      same_test (λ (c : CheckRow). same_text c.node node && same_text c.id id) (λ c. is_eq (pair_cmp (node, id) (check_key c))) r.checks (λ c. pair_place node id (check_key c))
      ∙ one_row pair_cmp check_key exact_pair (node, id) r.checks order.checks

  name_of_one : (o : Option ServiceRow) → cons_option (name_in o) [] ≡ service_names (cons_option o [])
  name_of_one None = refl
  name_of_one (Some s) = refl

  is_one : (o : Option NodeRow) → is_some o ≡ not (is_empty (cons_option o []))
  is_one None = refl
  is_one (Some n) = refl

  service_touched : (id : List ℕ) → KeepsOthers node r (take_service node id r) → Touches node r (take_service node id r) (service_touches node id r)
  service_touched id keeps =
      record {
        before = order;
        after = keeps.order;
        others = keeps.others;
        node_edits = [];
        service_edits = filter (λ (s : ServiceRow). same_text s.node node && same_text s.id id) r.services;
        check_edits = filter (λ (c : CheckRow). same_text c.node node && same_text c.service id) r.checks;
        nodes_edited = edits_none same_node node_decides r.nodes;
        services_edited = edits_without same_service service_decides (λ (s : ServiceRow). same_text s.node node && same_text s.id id) r.services;
        checks_edited = edits_without same_check check_decides (λ (c : CheckRow). same_text c.node node && same_text c.service id) r.checks;
        told = refl;
        names = name_of_one (service_at (node, id) r.services) ∙ ap service_names (sym (one_service id));
        served = refl;
      }

  check_touched : (id : List ℕ) → KeepsOthers node r (take_check node id r) → Touches node r (take_check node id r) (check_touches node id r)
  check_touched id keeps =
      record {
        before = order;
        after = keeps.order;
        others = keeps.others;
        node_edits = [];
        service_edits = [];
        check_edits = filter (λ (c : CheckRow). same_text c.node node && same_text c.id id) r.checks;
        nodes_edited = edits_none same_node node_decides r.nodes;
        services_edited = edits_none same_service service_decides r.services;
        checks_edited = edits_without same_check check_decides (λ (c : CheckRow). same_text c.node node && same_text c.id id) r.checks;
        told = refl;
        names = refl;
        served = ap check_services (sym (one_check id));
      }

  node_touched : KeepsOthers node r (take_node node r) → Touches node r (take_node node r) (node_touches node r)
  node_touched keeps =
      record {
        before = order;
        after = keeps.order;
        others = keeps.others;
        node_edits = filter (λ (n : NodeRow). same_text n.node node) r.nodes;
        service_edits = filter (λ (s : ServiceRow). same_text s.node node) r.services;
        check_edits = filter (λ (c : CheckRow). same_text c.node node) r.checks;
        nodes_edited = edits_without same_node node_decides (λ (n : NodeRow). same_text n.node node) r.nodes;
        services_edited = edits_without same_service service_decides (λ (s : ServiceRow). same_text s.node node) r.services;
        checks_edited = edits_without same_check check_decides (λ (c : CheckRow). same_text c.node node) r.checks;
        told = is_one (node_at node r.nodes) ∙ ap (λ l. not (is_empty l)) (one_node node r.nodes order.nodes);
        names = refl;
        served = refl;
      }

  pub take_touched : (service check : List ℕ) → Touches node r (rows_of (deregister node service check (catalog_of r))) (take_touches node service check r)
  unfolding deregister
  take_touched service check = go (not (is_empty service)) (not (is_empty check)) (deregister_keeps node r order service check)
    where
      go : (b d : Bool) → KeepsOthers node r (rows_of (cond b (deregister_service node service (catalog_of r)) (cond d (deregister_check node check (catalog_of r)) (deregister_node node (catalog_of r)))))
          → Touches node r (rows_of (cond b (deregister_service node service (catalog_of r)) (cond d (deregister_check node check (catalog_of r)) (deregister_node node (catalog_of r)))))
          (cond b (service_touches node service r) (cond d (check_touches node check r) (node_touches node r)))
      go true d keeps = service_touched service keeps
      go false true keeps = check_touched check keeps
      go false false keeps = node_touched keeps
