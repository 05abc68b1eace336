-- The plan law: a plan is empty exactly where the catalog is synced.
use Rattle.std.proofs.Common.{◌≡◌, ℕ, Bool, true, false, not, cond, ◌&&◌, ◌||◌, List, [], ◌∷◌, ◌++◌, refl, sym, ◌∙◌, ap, subst, Option, Some, None, filter, is_some, map}
use Rattle.std.specs.List.{AllByRecursion, list_any}
use Rattle.std.proofs.lemmas.Bool.{true≢false, false≢true, and_parts}
use Rattle.std.specs.Ordering.{is_eq}
use Rattle.cat_model.specs.Keys.{pair_cmp, same_text, is_empty}
use Rattle.cat_model.specs.Tables.{same_found}
use Rattle.cat_model.specs.Same.{alike_nodes, alike_services, alike_checks}
use Rattle.cat_model.specs.Catalog.{Catalog, service_key, check_key, node_at, service_at, check_at}
use Rattle.cat_model.specs.Syncs.{registers_service, registers_checks, lacks_node, lacks_service, lacks_check, is_alien_service, is_alien_check, goes_along, is_serf, serf_id, listed, node_plan, services_in_order, checks_in_order, other_checks, plan, plan_of, HasRemote, Synced, IsOfNode, PlanLaw}
use Rattle.cat_model.specs.declared.row.NodeRow.{NodeRow}
use Rattle.cat_model.specs.declared.row.ServiceRow.{ServiceRow}
use Rattle.cat_model.specs.declared.row.CheckRow.{CheckRow}
use Rattle.cat_model.specs.declared.command.Command.{Command}
use Rattle.cat_model.specs.declared.command.Command.TheVariants.{Deregister}
use Rattle.cat_model.specs.declared.fired.Local.{Local}
use Rattle.cat_model.specs.declared.fired.Remote.{Remote}
use Rattle.cat_model.proofs.SameLemmas.{text_decides}
use Rattle.cat_model.proofs.TableLemmas.{All-filter, All-weaker, All-filter_test, row_at-filter}
use Rattle.cat_model.proofs.Pairs.{pair_cmp_total, exact_pair}
use Rattle.cat_model.proofs.InOrder.{row_at-in_order, key_of_found, found_in, found_passes, own_in_order, All-in_order}
use Rattle.cat_model.proofs.SyncStages.{service_of, check_of, local_service, local_check, remote_service, remote_check}

pub both_pass : {R : Type 0} (P Q : R → Type 0) (rows : List R) → AllByRecursion P rows → AllByRecursion Q rows → AllByRecursion (λ r. P r × Q r) rows
both_pass P Q [] h g = tt
both_pass P Q (r ∷ rows) h g = ((h.0, g.0), both_pass P Q rows h.1 g.1)

none_pass : {R : Type 0} (test : R → Bool) (rows : List R) → AllByRecursion (λ r. test r ≡ false) rows → filter test rows ≡ []
none_pass test [] h = refl
none_pass test (r ∷ rows) h = ap (λ b. cond b (r ∷ filter test rows) (filter test rows)) h.0 ∙ none_pass test rows h.1

pub not_true : (b : Bool) → not b ≡ false → b ≡ true
not_true true h = refl
not_true false h = absurd (true≢false h)

pub not_some : {A : Type 0} (o : Option A) → not (is_some o) ≡ true → o ≡ None
not_some None h = refl
not_some (Some x) h = absurd (false≢true h)

pub some_not : {A : Type 0} (o : Option A) → not (is_some o) ≡ false → o ≡ None → ⊥
some_not None h e = true≢false h
some_not (Some x) h e = true≢false (ap is_some e)

cons_none : {A : Type 0} (x : A) (xs : List A) → x ∷ xs ≡ [] → ⊥
cons_none x xs e = cc

append_none : {A : Type 0} (xs ys : List A) → xs ++ ys ≡ [] → (xs ≡ []) × (ys ≡ [])
append_none [] ys e = (refl, e)
append_none (x ∷ xs) ys e = absurd (cons_none x (xs ++ ys) e)

map_none : {A B : Type 0} (f : A → B) (xs : List A) → map f xs ≡ [] → xs ≡ []
map_none f [] e = refl
map_none f (x ∷ xs) e = absurd (cons_none (f x) (map f xs) e)

filter_none : {R : Type 0} (test : R → Bool) (rows : List R) → filter test rows ≡ [] → AllByRecursion (λ r. test r ≡ false) rows
filter_none test [] e = tt
filter_none test (r ∷ rows) e = go (test r) refl e (λ e'. filter_none test rows e')
  where
    go : (b : Bool) → test r ≡ b → cond b (r ∷ filter test rows) (filter test rows) ≡ [] → (filter test rows ≡ [] → AllByRecursion (λ s. test s ≡ false) rows) → (test r ≡ false) × AllByRecursion (λ s. test s ≡ false) rows
    go true t e' rest = absurd (cons_none r (filter test rows) e')
    go false t e' rest = (t, rest e')

or_first : (a b : Bool) → (a || b) ≡ false → a ≡ false
or_first false b h = refl
or_first true b h = h

or_last : (a b : Bool) → (a || b) ≡ false → b ≡ false
or_last false b h = h
or_last true b h = absurd (true≢false h)

module _ (n : NodeRow) (local : Local) (remote : Remote) (k : Catalog) (has : HasRemote n.node remote k) where
  pub service_is_remote : (id : List ℕ) → service_of n local remote k id ≡ remote_service n local remote id
  service_is_remote id = sym (ap (service_at (n.node, id)) has.services ∙ row_at-filter pair_cmp service_key pair_cmp_total exact_pair (λ (p : List ℕ × List ℕ). same_text p.0 n.node) (n.node, id) ((text_decides n.node n.node).1 refl) k.services)

  pub check_is_remote : (id : List ℕ) → check_of n local remote k id ≡ remote_check n local remote id
  check_is_remote id = sym (ap (check_at (n.node, id)) has.checks ∙ row_at-filter pair_cmp check_key pair_cmp_total exact_pair (λ (p : List ℕ × List ℕ). same_text p.0 n.node) (n.node, id) ((text_decides n.node n.node).1 refl) k.checks)

  pub service_nodes : AllByRecursion (λ s. s.node ≡ n.node) remote.services
  service_nodes = subst (AllByRecursion (λ s. s.node ≡ n.node)) (sym has.services) (All-weaker (λ s. same_text s.node n.node ≡ true) (λ s. s.node ≡ n.node) (λ s e. (text_decides s.node n.node).0 e) (filter (λ s. same_text s.node n.node) k.services) (All-filter_test (λ s. same_text s.node n.node) k.services))

  pub check_nodes : AllByRecursion (λ c. c.node ≡ n.node) remote.checks
  check_nodes = subst (AllByRecursion (λ c. c.node ≡ n.node)) (sym has.checks) (All-weaker (λ c. same_text c.node n.node ≡ true) (λ c. c.node ≡ n.node) (λ c e. (text_decides c.node n.node).0 e) (filter (λ c. same_text c.node n.node) k.checks) (All-filter_test (λ c. same_text c.node n.node) k.checks))

  -- 1. The rows of the lists that are put in order.
  module _ (mine : IsOfNode n local) where
    abbrev OwnService : ServiceRow → Type 0
    OwnService s = (s.node ≡ n.node) × (local_service n local remote s.id ≡ Some s)

    abbrev OwnCheck : CheckRow → Type 0
    OwnCheck c = (c.node ≡ n.node) × (local_check n local remote c.id ≡ Some c)

    services_own : AllByRecursion OwnService (services_in_order local.services)
    services_own = All-weaker (λ s. (s.node ≡ n.node) × (service_at (s.node, s.id) local.services ≡ Some s)) OwnService (λ s h. (h.0, subst (λ x. service_at (x, s.id) local.services ≡ Some s) h.0 h.1)) (services_in_order local.services)
        (both_pass (λ s. s.node ≡ n.node) (λ s. service_at (s.node, s.id) local.services ≡ Some s) (services_in_order local.services)
        (All-in_order pair_cmp service_key pair_cmp_total exact_pair (λ s. s.node ≡ n.node) local.services mine.services) (own_in_order pair_cmp service_key pair_cmp_total exact_pair local.services))

    checks_own : AllByRecursion OwnCheck (checks_in_order local.checks)
    checks_own = All-weaker (λ c. (c.node ≡ n.node) × (check_at (c.node, c.id) local.checks ≡ Some c)) OwnCheck (λ c h. (h.0, subst (λ x. check_at (x, c.id) local.checks ≡ Some c) h.0 h.1)) (checks_in_order local.checks)
        (both_pass (λ c. c.node ≡ n.node) (λ c. check_at (c.node, c.id) local.checks ≡ Some c) (checks_in_order local.checks)
        (All-in_order pair_cmp check_key pair_cmp_total exact_pair (λ c. c.node ≡ n.node) local.checks mine.checks) (own_in_order pair_cmp check_key pair_cmp_total exact_pair local.checks))

    its_key : (id : List ℕ) (c : CheckRow) → local_check n local remote id ≡ Some c → ◌≡◌ {A = List ℕ × List ℕ} (n.node, id) (check_key c)
    its_key id c e = key_of_found pair_cmp check_key pair_cmp_total exact_pair (n.node, id) local.checks c e

    -- 2. Where the catalog is synced the plan is empty.
    module _ (synced : Synced n local k) where
      true_not : (b : Bool) → b ≡ true → not b ≡ false
      true_not b e = ap not e

      node_none : node_plan n (listed (local_check n local remote serf_id)) remote ≡ []
      node_none = (λ j. cond (no_node j || list_any (lacks_check remote.checks) (listed (local_check n local remote serf_id))) (registers_checks n (listed (local_check n local remote serf_id)) ∷ []) []) ∙ go (local_check n local remote serf_id) refl
        where
          no_node : lacks_node remote.node n ≡ false
          no_node = ap not (ap (λ o. same_found alike_nodes o (Some n)) has.node ∙ synced.node)

          go : (o : Option CheckRow) → local_check n local remote serf_id ≡ o → cond (list_any (lacks_check remote.checks) (listed o)) (registers_checks n (listed o) ∷ []) [] ≡ []
          go None e = refl
          go (Some c) e = ap (λ b. cond (b || false) (registers_checks n (c ∷ []) ∷ []) []) (true_not (same_found alike_checks (check_at (c.node, c.id) remote.checks) (Some c)) agrees)
            where
              agrees : same_found alike_checks (check_at (check_key c) remote.checks) (Some c) ≡ true
              agrees = (λ j. same_found alike_checks ((ap (λ p. check_at p remote.checks) (sym (its_key serf_id c e)) ∙ sym (check_is_remote serf_id)) j) (sym e j)) ∙ synced.checks serf_id

      services_none : filter (lacks_service remote.services) (services_in_order local.services) ≡ []
      services_none = none_pass (lacks_service remote.services) (services_in_order local.services) (All-weaker OwnService (λ s. lacks_service remote.services s ≡ false)
          (λ s own. true_not _ ((λ j. same_found alike_services ((ap (λ x. service_at (x, s.id) remote.services) own.0 ∙ sym (service_is_remote s.id)) j) (sym own.1 j)) ∙ synced.services s.id)) (services_in_order local.services) services_own)

      checks_none : filter (lacks_check remote.checks) (other_checks local) ≡ []
      checks_none = none_pass (lacks_check remote.checks) (other_checks local) (All-weaker OwnCheck (λ c. lacks_check remote.checks c ≡ false)
          (λ c own. true_not _ ((λ j. same_found alike_checks ((ap (λ x. check_at (x, c.id) remote.checks) own.0 ∙ sym (check_is_remote c.id)) j) (sym own.1 j)) ∙ synced.checks c.id)) (other_checks local)
          (All-filter OwnCheck (λ c. not (is_serf c)) (checks_in_order local.checks) checks_own))

      is_local : {R : Type 0} (alike : R → R → Bool) (x : R) (o : Option R) → same_found alike (Some x) o ≡ true → not (is_some o) ≡ false
      is_local alike x None h = absurd (false≢true h)
      is_local alike x (Some y) h = refl

      own_remote_services : AllByRecursion (λ s. (s.node ≡ n.node) × (service_at (s.node, s.id) remote.services ≡ Some s)) (services_in_order remote.services)
      own_remote_services = both_pass (λ s. s.node ≡ n.node) (λ s. service_at (s.node, s.id) remote.services ≡ Some s) (services_in_order remote.services)
          (All-in_order pair_cmp service_key pair_cmp_total exact_pair (λ s. s.node ≡ n.node) remote.services service_nodes) (own_in_order pair_cmp service_key pair_cmp_total exact_pair remote.services)

      own_remote_checks : AllByRecursion (λ c. (c.node ≡ n.node) × (check_at (c.node, c.id) remote.checks ≡ Some c)) (checks_in_order remote.checks)
      own_remote_checks = both_pass (λ c. c.node ≡ n.node) (λ c. check_at (c.node, c.id) remote.checks ≡ Some c) (checks_in_order remote.checks)
          (All-in_order pair_cmp check_key pair_cmp_total exact_pair (λ c. c.node ≡ n.node) remote.checks check_nodes) (own_in_order pair_cmp check_key pair_cmp_total exact_pair remote.checks)

      gone_none : filter (is_alien_service local.services) (services_in_order remote.services) ≡ []
      gone_none = none_pass (is_alien_service local.services) (services_in_order remote.services) (All-weaker (λ s. (s.node ≡ n.node) × (service_at (s.node, s.id) remote.services ≡ Some s)) (λ s. is_alien_service local.services s ≡ false)
          (λ s own. is_local alike_services s (service_at (s.node, s.id) local.services) ((λ j. same_found alike_services ((sym own.1 ∙ ap (λ x. service_at (x, s.id) remote.services) own.0 ∙ sym (service_is_remote s.id)) j) (service_at (own.0 j, s.id) local.services)) ∙ synced.services s.id))
          (services_in_order remote.services) own_remote_services)

      alone_none : filter (λ c. is_alien_check local.checks c && not (goes_along local.services remote.services c)) (checks_in_order remote.checks) ≡ []
      alone_none = none_pass (λ c. is_alien_check local.checks c && not (goes_along local.services remote.services c)) (checks_in_order remote.checks) (All-weaker (λ c. (c.node ≡ n.node) × (check_at (c.node, c.id) remote.checks ≡ Some c)) (λ c. (is_alien_check local.checks c && not (goes_along local.services remote.services c)) ≡ false)
          (λ c own. ap (λ b. b && not (goes_along local.services remote.services c)) (is_local alike_checks c (check_at (c.node, c.id) local.checks) ((λ j. same_found alike_checks ((sym own.1 ∙ ap (λ x. check_at (x, c.id) remote.checks) own.0 ∙ sym (check_is_remote c.id)) j) (check_at (own.0 j, c.id) local.checks)) ∙ synced.checks c.id)))
          (checks_in_order remote.checks) own_remote_checks)

      nothing_planned : plan_of n local remote ≡ []
      unfolding plan_of
      nothing_planned = λ j. node_none j ++ map (registers_service n) (services_none j) ++ map (λ c. registers_checks n (c ∷ [])) (checks_none j) ++ map (λ s. Deregister n.node s.id []) (gone_none j) ++ map (λ c. Deregister n.node [] c.id) (alone_none j)

    -- 3. Where the plan is empty the catalog is synced.
    module _ (empty : plan_of n local remote ≡ []) where
      parts : (node_plan n (listed (local_check n local remote serf_id)) remote ≡ [])
          × (filter (lacks_service remote.services) (services_in_order local.services) ≡ [])
          × (filter (lacks_check remote.checks) (other_checks local) ≡ [])
          × (filter (is_alien_service local.services) (services_in_order remote.services) ≡ [])
          × (filter (λ c. is_alien_check local.checks c && not (goes_along local.services remote.services c)) (checks_in_order remote.checks) ≡ [])
      unfolding plan_of
      parts =
          let e4 = append_none _ _ empty in
          let e3 = append_none _ _ e4.0 in
          let e2 = append_none _ _ e3.0 in
          let e1 = append_none _ _ e2.0 in
          (e1.0, map_none _ _ e1.1, map_none _ _ e2.1, map_none _ _ e3.1, map_none _ _ e4.1)

      node_whole : (lacks_node remote.node n || list_any (lacks_check remote.checks) (listed (local_check n local remote serf_id))) ≡ false
      node_whole = go (lacks_node remote.node n || list_any (lacks_check remote.checks) (listed (local_check n local remote serf_id))) parts.0
        where
          go : (b : Bool) → cond b (registers_checks n (listed (local_check n local remote serf_id)) ∷ []) [] ≡ [] → b ≡ false
          go false e = refl
          go true e = absurd (cons_none _ _ e)

      node_same : same_found alike_nodes (node_at n.node k.nodes) (Some n) ≡ true
      node_same = ap (λ o. same_found alike_nodes o (Some n)) (sym has.node) ∙ not_true _ (or_first _ _ node_whole)

      no_alien : (id : List ℕ) (s : ServiceRow) → remote_service n local remote id ≡ Some s → local_service n local remote id ≡ None → ⊥
      no_alien id s e none = some_not (service_at (service_key s) local.services)
          (found_in (λ r. is_alien_service local.services r ≡ false) (λ r. is_eq (pair_cmp (n.node, id) (service_key r))) (services_in_order remote.services) (filter_none (is_alien_service local.services) (services_in_order remote.services) parts.3) s (row_at-in_order pair_cmp service_key pair_cmp_total exact_pair (n.node, id) remote.services ∙ e))
          (ap (λ p. service_at p local.services) (sym (key_of_found pair_cmp service_key pair_cmp_total exact_pair (n.node, id) remote.services s e)) ∙ none)

      services_same : (id : List ℕ) → same_found alike_services (service_of n local remote k id) (local_service n local remote id) ≡ true
      services_same id = ap (λ o. same_found alike_services o (local_service n local remote id)) (service_is_remote id) ∙ go (local_service n local remote id) refl (remote_service n local remote id) refl
        where
          go : (l : Option ServiceRow) → local_service n local remote id ≡ l → (r : Option ServiceRow) → remote_service n local remote id ≡ r → same_found alike_services (remote_service n local remote id) (local_service n local remote id) ≡ true
          go (Some s) e r f =
              let key : ◌≡◌ {A = List ℕ × List ℕ} (n.node, id) (service_key s) = key_of_found pair_cmp service_key pair_cmp_total exact_pair (n.node, id) local.services s e in
              (λ j. same_found alike_services (service_at (key j) remote.services) (e j))
              ∙ not_true _ (found_in (λ t. lacks_service remote.services t ≡ false) (λ t. is_eq (pair_cmp (n.node, id) (service_key t))) (services_in_order local.services) (filter_none (lacks_service remote.services) (services_in_order local.services) parts.1) s (row_at-in_order pair_cmp service_key pair_cmp_total exact_pair (n.node, id) local.services ∙ e))
          go None e None f = λ j. same_found alike_services (f j) (e j)
          go None e (Some s) f = absurd (no_alien id s f e)

      -- a local check is the agent's own or another one
      check_whole : (id : List ℕ) (c : CheckRow) → local_check n local remote id ≡ Some c → lacks_check remote.checks c ≡ false
      check_whole id c e = go (is_serf c) refl
        where
          go : (b : Bool) → is_serf c ≡ b → lacks_check remote.checks c ≡ false
          go true s =
              let its_id : c.id ≡ serf_id = (text_decides c.id serf_id).0 s in
              let serf : local_check n local remote serf_id ≡ Some c = ap (local_check n local remote) (sym its_id ∙ sym (ap (λ p. p.1) (its_key id c e))) ∙ e in
              or_first (lacks_check remote.checks c) false (sym (ap (λ o. list_any (lacks_check remote.checks) (listed o)) serf) ∙ or_last _ _ node_whole)
          go false s = found_passes (λ r. lacks_check remote.checks r ≡ false) (λ r. is_eq (pair_cmp (n.node, id) (check_key r))) (λ r. not (is_serf r)) (checks_in_order local.checks) (filter_none (lacks_check remote.checks) (other_checks local) parts.2) c
              (row_at-in_order pair_cmp check_key pair_cmp_total exact_pair (n.node, id) local.checks ∙ e) (ap not s)

      no_alien_check : (id : List ℕ) (c : CheckRow) → remote_check n local remote id ≡ Some c → local_check n local remote id ≡ None → ⊥
      no_alien_check id c f e = go (goes_along local.services remote.services c) refl
        where
          key : ◌≡◌ {A = List ℕ × List ℕ} (n.node, id) (check_key c)
          key = key_of_found pair_cmp check_key pair_cmp_total exact_pair (n.node, id) remote.checks c f

          its_node : n.node ≡ c.node
          its_node = ap (λ p. p.0) key

          planned_none : (is_alien_check local.checks c && not (goes_along local.services remote.services c)) ≡ false
          planned_none = found_in (λ r. (is_alien_check local.checks r && not (goes_along local.services remote.services r)) ≡ false) (λ r. is_eq (pair_cmp (n.node, id) (check_key r))) (checks_in_order remote.checks)
              (filter_none (λ r. is_alien_check local.checks r && not (goes_along local.services remote.services r)) (checks_in_order remote.checks) parts.4) c (row_at-in_order pair_cmp check_key pair_cmp_total exact_pair (n.node, id) remote.checks ∙ f)

          absent : check_at (check_key c) local.checks ≡ None
          absent = ap (λ p. check_at p local.checks) (sym key) ∙ e

          go : (b : Bool) → goes_along local.services remote.services c ≡ b → ⊥
          go false goes = true≢false (sym (λ j. not (is_some (absent j)) && not (goes j)) ∙ planned_none)
          go true goes = at (remote_service n local remote c.service) refl there
            where
              both : ((not (is_empty c.service) && not (is_some (service_at (c.node, c.service) local.services))) ≡ true) × (is_some (service_at (c.node, c.service) remote.services) ≡ true)
              both = and_parts (not (is_empty c.service) && not (is_some (service_at (c.node, c.service) local.services))) (is_some (service_at (c.node, c.service) remote.services)) goes

              there : is_some (remote_service n local remote c.service) ≡ true
              there = ap (λ x. is_some (service_at (x, c.service) remote.services)) its_node ∙ both.1

              none_local : local_service n local remote c.service ≡ None
              none_local = not_some (local_service n local remote c.service) (ap (λ x. not (is_some (service_at (x, c.service) local.services))) its_node ∙ (and_parts (not (is_empty c.service)) (not (is_some (service_at (c.node, c.service) local.services))) both.0).1)

              at : (r : Option ServiceRow) → remote_service n local remote c.service ≡ r → is_some r ≡ true → ⊥
              at None r h = false≢true h
              at (Some s) r h = no_alien c.service s r none_local

      checks_same : (id : List ℕ) → same_found alike_checks (check_of n local remote k id) (local_check n local remote id) ≡ true
      checks_same id = ap (λ o. same_found alike_checks o (local_check n local remote id)) (check_is_remote id) ∙ go (local_check n local remote id) refl (remote_check n local remote id) refl
        where
          go : (l : Option CheckRow) → local_check n local remote id ≡ l → (r : Option CheckRow) → remote_check n local remote id ≡ r → same_found alike_checks (remote_check n local remote id) (local_check n local remote id) ≡ true
          go (Some c) e r f = (λ j. same_found alike_checks (check_at (its_key id c e j) remote.checks) (e j)) ∙ not_true _ (check_whole id c e)
          go None e None f = λ j. same_found alike_checks (f j) (e j)
          go None e (Some c) f = absurd (no_alien_check id c f e)

      synced_already : Synced n local k
      synced_already = record { node = node_same; services = services_same; checks = checks_same }

-- the plan of a local with a node's row
pub planned : (n : NodeRow) (local : Local) (remote : Remote) → local.node ≡ Some n → plan local remote ≡ plan_of n local remote
planned n local remote of_node = λ j. elim (of_node j) as (λ _. List Command) [ None ↦ [] | Some m ↦ plan_of m local remote ]

-- the plan law
pub plan_law : (n : NodeRow) (local : Local) (remote : Remote) (k : Catalog) → local.node ≡ Some n → HasRemote n.node remote k → IsOfNode n local → PlanLaw n local remote k
plan_law n local remote k of_node has mine = record {
  only = λ e. synced_already n local remote k has mine (sym (planned n local remote of_node) ∙ e);
  where_synced = λ s. planned n local remote of_node ∙ nothing_planned n local remote k has mine s;
}
