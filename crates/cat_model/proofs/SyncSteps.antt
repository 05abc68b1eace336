-- What the commands of a plan do to the rows of their node.
use Rattle.std.proofs.Common.{◌≡◌, ◌≢◌, ℕ, Bool, true, false, not, cond, ◌&&◌, ◌||◌, List, [], ◌∷◌, refl, sym, ◌∙◌, ap, subst, Option, Some, None}
use Rattle.std.specs.Ordering.{is_eq}
use Rattle.std.proofs.lemmas.Bool.{true≢false, and_from}
use Rattle.std.proofs.lemmas.Cmp.{nat_list_cmp_total, tied_itself}
use Rattle.std.proofs.lemmas.Map.Lookups.{exact_bytes}
use Rattle.cat_model.specs.Keys.{text_cmp, pair_cmp, same_text}
use Rattle.cat_model.specs.Tables.{put, without, same_found}
use Rattle.cat_model.specs.Same.{alike_nodes, alike_services, alike_checks}
use Rattle.cat_model.specs.Catalog.{Catalog, node_key, service_key, check_key, node_at, service_at, check_at}
use Rattle.cat_model.specs.Machine.{act, apply, end_sessions, register, deregister, deregister_service, deregister_check, unless, refusal_of, has_service, put_node, put_service, put_check}
use Rattle.cat_model.specs.Syncs.{new_service, new_check, registers_service, registers_checks}
use Rattle.cat_model.specs.declared.row.NodeRow.{NodeRow}
use Rattle.cat_model.specs.declared.row.ServiceRow.{ServiceRow}
use Rattle.cat_model.specs.declared.row.CheckRow.{CheckRow}
use Rattle.cat_model.specs.declared.applied.Refuse.TheVariants as refusals
use Rattle.cat_model.specs.declared.applied.Applied.TheVariants.{Yes}
use Rattle.cat_model.specs.declared.command.Command.{Command}
use Rattle.cat_model.specs.declared.command.Command.TheVariants.{Deregister}
use Rattle.cat_model.proofs.SameLemmas.{text_decides, texts_decides, bool_decides, status_decides}
use Rattle.std.proofs.lemmas.Bool.Decides.{Decides-eqb}
use Rattle.cat_model.proofs.Pairs.{pair_cmp_total, exact_pair}
use Rattle.cat_model.proofs.Lookups.{row_at-put}
use Rattle.cat_model.proofs.TableLemmas.{eq_is}

-- 1. A row that was registered is alike.
same_itself : (t : List ℕ) → same_text t t ≡ true
same_itself t = (text_decides t t).1 refl

own_service : (s : ServiceRow) → alike_services s s ≡ true
own_service s = and_from _ _ (and_from _ _ (and_from _ _ (and_from _ _ (and_from _ _ (and_from _ _ (same_itself s.node) (same_itself s.id)) (same_itself s.name)) ((texts_decides s.tags s.tags).1 refl)) (same_itself s.address)) ((Decides-eqb s.port s.port).1 refl)) ((bool_decides s.tag_override s.tag_override).1 refl)

own_check : (c : CheckRow) → alike_checks c c ≡ true
own_check c = and_from _ _ (and_from _ _ (and_from _ _ (and_from _ _ (and_from _ _ (and_from _ _ (same_itself c.node) (same_itself c.id)) (same_itself c.name)) ((status_decides c.status c.status).1 refl)) (same_itself c.notes)) (same_itself c.output)) (same_itself c.service)

-- keys of one node are equal where their IDs are
pub same_key : (node id : List ℕ) → is_eq (pair_cmp (node, id) (node, id)) ≡ true
same_key node id = ap is_eq (tied_itself pair_cmp_total (node, id))

pub other_key : (node x y : List ℕ) → same_text x y ≡ false → is_eq (pair_cmp (node, x) (node, y)) ≡ false
other_key node x y h = go (is_eq (pair_cmp (node, x) (node, y))) refl
  where
    go : (b : Bool) → is_eq (pair_cmp (node, x) (node, y)) ≡ b → b ≡ false
    go false e = refl
    go true e =
        let same : (node, x) ≡ (node, y) = exact_pair (node, x) (node, y) (eq_is pair_cmp (λ (p : List ℕ × List ℕ). p) pair_cmp_total _ e) in
        absurd (true≢false (sym ((text_decides x y).1 (ap (λ p. p.1) same)) ∙ h))

module _ (n : NodeRow) (i : ℕ) where
  pub node_fits : (rows : List NodeRow) → same_found alike_nodes (node_at n.node (put_node i n.node n.address rows)) (Some n) ≡ true
  node_fits rows = go (node_at n.node rows) refl
    where
      fresh : ℕ → NodeRow
      fresh create = record { node = n.node; address = n.address; create = create; modify = i }

      own : (create : ℕ) → same_found alike_nodes (node_at n.node (put text_cmp node_key (fresh create) rows)) (Some n) ≡ true
      own create =
          ap (λ o. same_found alike_nodes o (Some n)) (row_at-put text_cmp node_key nat_list_cmp_total exact_bytes n.node (fresh create) rows ∙ ap (λ o. cond (is_eq o) (Some (fresh create)) (node_at n.node rows)) (tied_itself nat_list_cmp_total n.node))
          ∙ and_from _ _ (same_itself n.node) (same_itself n.address)

      chosen : (old : NodeRow) → node_at n.node rows ≡ Some old → (b : Bool) → alike_nodes old (fresh i) ≡ b → same_found alike_nodes (node_at n.node (cond b rows (put text_cmp node_key (fresh old.create) rows))) (Some n) ≡ true
      chosen old there true e = ap (λ o. same_found alike_nodes o (Some n)) there ∙ e
      chosen old there false e = own old.create

      go : (o : Option NodeRow) → node_at n.node rows ≡ o → same_found alike_nodes (node_at n.node (elim o as (λ _. List NodeRow) [ None ↦ put text_cmp node_key (fresh i) rows | Some old ↦ cond (alike_nodes old (fresh i)) rows (put text_cmp node_key (fresh old.create) rows) ])) (Some n) ≡ true
      go None there = own i
      go (Some old) there = chosen old there (alike_nodes old (fresh i)) refl

  module _ (s : ServiceRow) (of_node : s.node ≡ n.node) (rows : List ServiceRow) where
    fresh_service : ℕ → ServiceRow
    fresh_service create = record { node = n.node; id = s.id; name = s.name; tags = s.tags; address = s.address; port = s.port; tag_override = s.tag_override; create = create; modify = i }

    own_fresh : (create : ℕ) → alike_services (fresh_service create) s ≡ true
    unfolding fresh_service
    own_fresh create = subst (λ x. alike_services (record (fresh_service create) { node = x }) s ≡ true) of_node (own_service s)

    put_own : (create : ℕ) → same_found alike_services (service_at (n.node, s.id) (put pair_cmp service_key (fresh_service create) rows)) (Some s) ≡ true
    unfolding fresh_service
    put_own create =
        ap (λ o. same_found alike_services o (Some s)) (row_at-put pair_cmp service_key pair_cmp_total exact_pair (n.node, s.id) (fresh_service create) rows ∙ ap (λ b. cond b (Some (fresh_service create)) (service_at (n.node, s.id) rows)) (same_key n.node s.id))
        ∙ own_fresh create

    put_other : (create : ℕ) (id : List ℕ) → same_text id s.id ≡ false → service_at (n.node, id) (put pair_cmp service_key (fresh_service create) rows) ≡ service_at (n.node, id) rows
    unfolding fresh_service
    put_other create id h = row_at-put pair_cmp service_key pair_cmp_total exact_pair (n.node, id) (fresh_service create) rows ∙ ap (λ b. cond b (Some (fresh_service create)) (service_at (n.node, id) rows)) (other_key n.node id s.id h)

    pub service_fits : same_found alike_services (service_at (n.node, s.id) (put_service i n.node (new_service s) rows)) (Some s) ≡ true
    unfolding fresh_service
    service_fits = go (service_at (n.node, s.id) rows) refl
      where
        chosen : (old : ServiceRow) → service_at (n.node, s.id) rows ≡ Some old → (b : Bool) → alike_services old (fresh_service i) ≡ b → same_found alike_services (service_at (n.node, s.id) (cond b rows (put pair_cmp service_key (fresh_service old.create) rows))) (Some s) ≡ true
        chosen old there true e = ap (λ o. same_found alike_services o (Some s)) there ∙ subst (λ x. alike_services old (record s { node = x }) ≡ true) (sym of_node) e
        chosen old there false e = put_own old.create

        go : (o : Option ServiceRow) → service_at (n.node, s.id) rows ≡ o → same_found alike_services (service_at (n.node, s.id) (elim o as (λ _. List ServiceRow) [ None ↦ put pair_cmp service_key (fresh_service i) rows | Some old ↦ cond (alike_services old (fresh_service i)) rows (put pair_cmp service_key (fresh_service old.create) rows) ])) (Some s) ≡ true
        go None there = put_own i
        go (Some old) there = chosen old there (alike_services old (fresh_service i)) refl

    pub service_other : (id : List ℕ) → same_text id s.id ≡ false → service_at (n.node, id) (put_service i n.node (new_service s) rows) ≡ service_at (n.node, id) rows
    unfolding fresh_service
    service_other id h = go (service_at (n.node, s.id) rows)
      where
        chosen : (old : ServiceRow) (b : Bool) → service_at (n.node, id) (cond b rows (put pair_cmp service_key (fresh_service old.create) rows)) ≡ service_at (n.node, id) rows
        chosen old true = refl
        chosen old false = put_other old.create id h

        go : (o : Option ServiceRow) → service_at (n.node, id) (elim o as (λ _. List ServiceRow) [ None ↦ put pair_cmp service_key (fresh_service i) rows | Some old ↦ cond (alike_services old (fresh_service i)) rows (put pair_cmp service_key (fresh_service old.create) rows) ]) ≡ service_at (n.node, id) rows
        go None = put_other i id h
        go (Some old) = chosen old (alike_services old (fresh_service i))

  module _ (c : CheckRow) (of_node : c.node ≡ n.node) (rows : List CheckRow) where
    fresh_check : ℕ → CheckRow
    fresh_check create = record { node = n.node; id = c.id; name = c.name; status = c.status; notes = c.notes; output = c.output; service = c.service; create = create; modify = i }

    put_own_check : (create : ℕ) → same_found alike_checks (check_at (n.node, c.id) (put pair_cmp check_key (fresh_check create) rows)) (Some c) ≡ true
    unfolding fresh_check
    put_own_check create =
        ap (λ o. same_found alike_checks o (Some c)) (row_at-put pair_cmp check_key pair_cmp_total exact_pair (n.node, c.id) (fresh_check create) rows ∙ ap (λ b. cond b (Some (fresh_check create)) (check_at (n.node, c.id) rows)) (same_key n.node c.id))
        ∙ subst (λ x. alike_checks (record (fresh_check create) { node = x }) c ≡ true) of_node (own_check c)

    put_other_check : (create : ℕ) (id : List ℕ) → same_text id c.id ≡ false → check_at (n.node, id) (put pair_cmp check_key (fresh_check create) rows) ≡ check_at (n.node, id) rows
    unfolding fresh_check
    put_other_check create id h = row_at-put pair_cmp check_key pair_cmp_total exact_pair (n.node, id) (fresh_check create) rows ∙ ap (λ b. cond b (Some (fresh_check create)) (check_at (n.node, id) rows)) (other_key n.node id c.id h)

    pub check_fits : same_found alike_checks (check_at (n.node, c.id) (put_check i n.node (new_check c) rows)) (Some c) ≡ true
    unfolding fresh_check
    check_fits = go (check_at (n.node, c.id) rows) refl
      where
        chosen : (old : CheckRow) → check_at (n.node, c.id) rows ≡ Some old → (b : Bool) → alike_checks old (fresh_check i) ≡ b → same_found alike_checks (check_at (n.node, c.id) (cond b rows (put pair_cmp check_key (fresh_check old.create) rows))) (Some c) ≡ true
        chosen old there true e = ap (λ o. same_found alike_checks o (Some c)) there ∙ subst (λ x. alike_checks old (record c { node = x }) ≡ true) (sym of_node) e
        chosen old there false e = put_own_check old.create

        go : (o : Option CheckRow) → check_at (n.node, c.id) rows ≡ o → same_found alike_checks (check_at (n.node, c.id) (elim o as (λ _. List CheckRow) [ None ↦ put pair_cmp check_key (fresh_check i) rows | Some old ↦ cond (alike_checks old (fresh_check i)) rows (put pair_cmp check_key (fresh_check old.create) rows) ])) (Some c) ≡ true
        go None there = put_own_check i
        go (Some old) there = chosen old there (alike_checks old (fresh_check i)) refl

    pub check_other : (id : List ℕ) → same_text id c.id ≡ false → check_at (n.node, id) (put_check i n.node (new_check c) rows) ≡ check_at (n.node, id) rows
    unfolding fresh_check
    check_other id h = go (check_at (n.node, c.id) rows)
      where
        chosen : (old : CheckRow) (b : Bool) → check_at (n.node, id) (cond b rows (put pair_cmp check_key (fresh_check old.create) rows)) ≡ check_at (n.node, id) rows
        chosen old true = refl
        chosen old false = put_other_check old.create id h

        go : (o : Option CheckRow) → check_at (n.node, id) (elim o as (λ _. List CheckRow) [ None ↦ put pair_cmp check_key (fresh_check i) rows | Some old ↦ cond (alike_checks old (fresh_check i)) rows (put pair_cmp check_key (fresh_check old.create) rows) ]) ≡ check_at (n.node, id) rows
        go None = put_other_check i id h
        go (Some old) = chosen old (alike_checks old (fresh_check i))

  -- 2. The commands.
  -- what a command leaves of nodes, services and checks
  pub record Leaves (command : Command) (k : Catalog) (nodes : List NodeRow) (services : List ServiceRow) (checks : List CheckRow) : Type 0 where
    pub in_nodes : (apply i command k).0.nodes ≡ nodes
    pub in_services : (apply i command k).0.services ≡ services
    pub in_checks : (apply i command k).0.checks ≡ checks

  leaves : (command : Command) (k done : Catalog) → (act i command k).0 ≡ done → Leaves command k done.nodes done.services done.checks
  unfolding apply end_sessions
  leaves command k done e = record { in_nodes = ap (λ l. l.nodes) e; in_services = ap (λ l. l.services) e; in_checks = ap (λ l. l.checks) e }

  pub service_leaves : (s : ServiceRow) (k : Catalog) → Leaves (registers_service n s) k (put_node i n.node n.address k.nodes) (put_service i n.node (new_service s) k.services) k.checks
  unfolding act register unless
  service_leaves s k = leaves (registers_service n s) k (record k { nodes = put_node i n.node n.address k.nodes; services = put_service i n.node (new_service s) k.services }) refl

  pub node_leaves : (k : Catalog) → Leaves (registers_checks n []) k (put_node i n.node n.address k.nodes) k.services k.checks
  unfolding act register unless
  node_leaves k = leaves (registers_checks n []) k (record k { nodes = put_node i n.node n.address k.nodes }) refl

  pub check_leaves : (c : CheckRow) (k : Catalog) → has_service n.node k.services (new_check c) ≡ true → Leaves (registers_checks n (c ∷ [])) k (put_node i n.node n.address k.nodes) k.services (put_check i n.node (new_check c) k.checks)
  unfolding act register unless
  check_leaves c k there = leaves (registers_checks n (c ∷ [])) k done (ap (λ b. (unless (refusal_of ((not b || false, refusals.MissingService) ∷ [])) k (done, Yes)).0) there)
    where
      done : Catalog
      done = record k { nodes = put_node i n.node n.address k.nodes; checks = put_check i n.node (new_check c) k.checks }

  pub no_service_leaves : (id : List ℕ) (k : Catalog) → id ≢ [] → Leaves (Deregister n.node id []) k k.nodes (without (λ r. same_text r.node n.node && same_text r.id id) k.services) (without (λ r. same_text r.node n.node && same_text r.service id) k.checks)
  unfolding act deregister
  no_service_leaves [] k h = absurd (h refl)
  no_service_leaves (x ∷ id) k h = leaves (Deregister n.node (x ∷ id) []) k (deregister_service n.node (x ∷ id) k) refl

  pub no_check_leaves : (id : List ℕ) (k : Catalog) → id ≢ [] → Leaves (Deregister n.node [] id) k k.nodes k.services (without (λ r. same_text r.node n.node && same_text r.id id) k.checks)
  unfolding act deregister
  no_check_leaves [] k h = absurd (h refl)
  no_check_leaves (x ∷ id) k h = leaves (Deregister n.node [] (x ∷ id)) k (deregister_check n.node (x ∷ id) k) refl
