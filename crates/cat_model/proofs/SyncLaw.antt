-- The sync law: the stages of a plan, one after the other.
use Rattle.std.proofs.Common.{◌≡◌, ◌≢◌, ℕ, ◌+◌, Bool, true, false, not, cond, ◌&&◌, ◌||◌, List, [], ◌∷◌, ◌++◌, refl, sym, ◌∙◌, ap, subst, Option, Some, None, filter, is_some, map, length, ◌⊎◌, inl, inr, arith}
use Rattle.std.specs.List.{AllByRecursion}
use Rattle.std.proofs.lemmas.Bool.{true≢false, false≢true, and_parts}
use Rattle.std.specs.Ordering.{is_eq}
use Rattle.cat_model.specs.Keys.{pair_cmp, is_empty}
use Rattle.cat_model.specs.Tables.{same_found}
use Rattle.cat_model.specs.Same.{alike_nodes, alike_services, alike_checks}
use Rattle.cat_model.specs.Catalog.{Catalog, InOrder, service_key, check_key, node_at, service_at, check_at}
use Rattle.cat_model.specs.Machine.{apply}
use Rattle.cat_model.specs.Syncs.{registers_service, registers_checks, all_applied, lacks_node, lacks_service, lacks_check, is_alien_service, is_alien_check, goes_along, is_serf, serf_id, listed, node_plan, services_in_order, checks_in_order, other_checks, plan, plan_of, HasRemote, Synced, IsSyncable}
use Rattle.cat_model.specs.declared.row.NodeRow.{NodeRow}
use Rattle.cat_model.specs.declared.row.ServiceRow.{ServiceRow}
use Rattle.cat_model.specs.declared.row.CheckRow.{CheckRow}
use Rattle.cat_model.specs.declared.command.Command.{Command}
use Rattle.cat_model.specs.declared.command.Command.TheVariants.{Deregister}
use Rattle.cat_model.specs.declared.fired.Local.{Local}
use Rattle.cat_model.specs.declared.fired.Remote.{Remote}
use Rattle.cat_model.proofs.SameLemmas.{text_decides}
use Rattle.cat_model.proofs.TableLemmas.{All-filter, All-weaker}
use Rattle.cat_model.proofs.Pairs.{pair_cmp_total, exact_pair}
use Rattle.cat_model.proofs.Order.{ChecksAscend}
use Rattle.cat_model.proofs.InOrder.{row_at-in_order, key_of_found, found_in, found_passes, own_in_order, All-in_order}
use Rattle.cat_model.proofs.PlanLaw.{both_pass, not_true, not_some, some_not, service_is_remote, check_is_remote, service_nodes, check_nodes, planned}
use Rattle.cat_model.proofs.SyncSteps.{node_fits, node_leaves}
use Rattle.cat_model.proofs.SyncStages.{service_of, check_of, local_service, local_check, remote_service, remote_check, GoodService, GoodCheck, Underway, Moves, stage, LocalService, service_step, LocalServicesGood, LocalCheck, check_step, check_step_where, LocalChecksGood, OfService, Gone, gone_moves, gone_good, gone_checks, alone_step, services_same, checks_same}

applied_append : (xs ys : List Command) (i : ℕ) (k : Catalog) → all_applied i (xs ++ ys) k ≡ all_applied (i + length xs) ys (all_applied i xs k)
unfolding all_applied
applied_append [] ys i k = ap (λ m. all_applied m ys k) (omega arith)
applied_append (x ∷ xs) ys i k = applied_append xs ys (i + 1) (apply i x k).0 ∙ ap (λ m. all_applied m ys (all_applied (i + 1) xs (apply i x k).0)) (omega arith)

module _ (n : NodeRow) (local : Local) (remote : Remote) (can : IsSyncable n local remote) where
  -- 1. The rows of the lists that are put in order.
  service_row_of : (s : ServiceRow) → s.node ≡ n.node → service_at (s.node, s.id) local.services ≡ Some s → local_service n local remote s.id ≡ Some s
  service_row_of s e own = subst (λ x. service_at (x, s.id) local.services ≡ Some s) e own

  services_own : AllByRecursion (LocalService n local remote) (services_in_order local.services)
  services_own = All-weaker (λ s. ((s.node ≡ n.node) × (s.id ≢ [])) × (service_at (s.node, s.id) local.services ≡ Some s)) (LocalService n local remote) (λ s h. (h.0.0, service_row_of s h.0.0 h.1)) (services_in_order local.services)
      (both_pass (λ s. (s.node ≡ n.node) × (s.id ≢ [])) (λ s. service_at (s.node, s.id) local.services ≡ Some s) (services_in_order local.services)
      (All-in_order pair_cmp service_key pair_cmp_total exact_pair (λ s. (s.node ≡ n.node) × (s.id ≢ [])) local.services can.services) (own_in_order pair_cmp service_key pair_cmp_total exact_pair local.services))

  checks_own : AllByRecursion (LocalCheck n local remote) (checks_in_order local.checks)
  checks_own = All-weaker (λ c. (((c.node ≡ n.node) × (c.id ≢ [])) × OfService n local remote c) × (check_at (c.node, c.id) local.checks ≡ Some c)) (LocalCheck n local remote) (λ c h. (h.0.0.0, subst (λ x. check_at (x, c.id) local.checks ≡ Some c) h.0.0.0 h.1, h.0.1)) (checks_in_order local.checks)
      (both_pass (λ c. ((c.node ≡ n.node) × (c.id ≢ [])) × OfService n local remote c) (λ c. check_at (c.node, c.id) local.checks ≡ Some c) (checks_in_order local.checks)
      (All-in_order pair_cmp check_key pair_cmp_total exact_pair (λ c. ((c.node ≡ n.node) × (c.id ≢ [])) × OfService n local remote c) local.checks (both_pass (λ c. (c.node ≡ n.node) × (c.id ≢ [])) (OfService n local remote) local.checks can.checks can.of_service))
      (own_in_order pair_cmp check_key pair_cmp_total exact_pair local.checks))

  -- what holds of each local row holds of the row of an ID
  local_service_has : (P : ServiceRow → Type 0) → AllByRecursion P (services_in_order local.services) → (id : List ℕ) (s : ServiceRow) → local_service n local remote id ≡ Some s → P s × (id ≡ s.id)
  local_service_has P h id s e = (
    found_in P (λ r. is_eq (pair_cmp (n.node, id) (service_key r))) (services_in_order local.services) h s (row_at-in_order pair_cmp service_key pair_cmp_total exact_pair (n.node, id) local.services ∙ e),
    ap (λ p. p.1) (key_of_found pair_cmp service_key pair_cmp_total exact_pair (n.node, id) local.services s e),
  )

  -- 2. Services.
  service_skip : (k : Catalog) (s : ServiceRow) → LocalService n local remote s → lacks_service remote.services s ≡ false → Underway n local remote k → GoodService n local remote k s.id
  service_skip k s own there u = go (u.services s.id)
    where
      agrees : same_found alike_services (remote_service n local remote s.id) (local_service n local remote s.id) ≡ true
      agrees = (λ j. same_found alike_services (service_at (sym own.0 j, s.id) remote.services) (own.1 j)) ∙ not_true _ there

      go : (service_of n local remote k s.id ≡ remote_service n local remote s.id) ⊎ GoodService n local remote k s.id → GoodService n local remote k s.id
      go (inl same) = record { service_agrees = ap (λ o. same_found alike_services o (local_service n local remote s.id)) same ∙ agrees }
      go (inr g) = g

  services_staged : (i : ℕ) (k : Catalog) → Underway n local remote k → (k' : Catalog) → k' ≡ all_applied i (map (registers_service n) (filter (lacks_service remote.services) (services_in_order local.services))) k
      → Moves n local remote k k' × LocalServicesGood n local remote k'
  services_staged i k u k' is = subst (λ l. Moves n local remote k l × LocalServicesGood n local remote l) (sym is) (staged.0, all_good)
    where
      done : Catalog
      done = all_applied i (map (registers_service n) (filter (lacks_service remote.services) (services_in_order local.services))) k

      staged : Moves n local remote k done × AllByRecursion (λ s. GoodService n local remote done s.id) (services_in_order local.services)
      staged = stage n local remote (LocalService n local remote) (λ l s. GoodService n local remote l s.id) (λ l. Unit {0}) (registers_service n) (lacks_service remote.services)
          (λ i' l s own lacks u' pre. service_step n local remote i' l s own u')
          service_skip
          (λ a b s g h. g.services_stay s.id h)
          (λ a b g h. tt)
          (services_in_order local.services) services_own i k u tt

      all_good : LocalServicesGood n local remote done
      all_good id there = go (local_service n local remote id) refl there
        where
          go : (o : Option ServiceRow) → local_service n local remote id ≡ o → is_some o ≡ true → GoodService n local remote done id
          go None e h = absurd (false≢true h)
          go (Some s) e h = let has = local_service_has (λ r. GoodService n local remote done r.id) staged.1 id s e in subst (GoodService n local remote done) (sym has.1) has.0

  -- 3. Checks.
  check_skip : (k : Catalog) (c : CheckRow) → LocalCheck n local remote c → lacks_check remote.checks c ≡ false → Underway n local remote k → GoodCheck n local remote k c.id
  check_skip k c own there u = go (u.checks c.id)
    where
      agrees : same_found alike_checks (remote_check n local remote c.id) (local_check n local remote c.id) ≡ true
      agrees = (λ j. same_found alike_checks (check_at (sym own.0 j, c.id) remote.checks) (own.1 j)) ∙ not_true _ there

      go : (check_of n local remote k c.id ≡ remote_check n local remote c.id) ⊎ GoodCheck n local remote k c.id → GoodCheck n local remote k c.id
      go (inl same) = record { check_agrees = ap (λ o. same_found alike_checks o (local_check n local remote c.id)) same ∙ agrees }
      go (inr g) = g

  checks_staged : (i : ℕ) (k : Catalog) → Underway n local remote k → LocalServicesGood n local remote k → ((c : CheckRow) → local_check n local remote serf_id ≡ Some c → GoodCheck n local remote k serf_id)
      → (k' : Catalog) → k' ≡ all_applied i (map (λ c. registers_checks n (c ∷ [])) (filter (lacks_check remote.checks) (other_checks local))) k
      → Moves n local remote k k' × LocalChecksGood n local remote k'
  checks_staged i k u services serf k' is = subst (λ l. Moves n local remote k l × LocalChecksGood n local remote l) (sym is) (staged.0, all_good)
    where
      done : Catalog
      done = all_applied i (map (λ c. registers_checks n (c ∷ [])) (filter (lacks_check remote.checks) (other_checks local))) k

      staged : Moves n local remote k done × AllByRecursion (λ c. GoodCheck n local remote done c.id) (other_checks local)
      staged = stage n local remote (LocalCheck n local remote) (λ l c. GoodCheck n local remote l c.id) (LocalServicesGood n local remote) (λ c. registers_checks n (c ∷ [])) (lacks_check remote.checks)
          (λ i' l c own lacks u' pre. check_step n local remote i' l c own u' pre)
          check_skip
          (λ a b c g h. g.checks_stay c.id h)
          (λ a b g h id there. g.services_stay id (h id there))
          (other_checks local) (All-filter (LocalCheck n local remote) (λ c. not (is_serf c)) (checks_in_order local.checks) checks_own) i k u services

      all_good : LocalChecksGood n local remote done
      all_good id there = go (local_check n local remote id) refl there
        where
          go : (o : Option CheckRow) → local_check n local remote id ≡ o → is_some o ≡ true → GoodCheck n local remote done id
          go None e h = absurd (false≢true h)
          go (Some c) e h = serf_or (is_serf c) refl
            where
              same_id : id ≡ c.id
              same_id = ap (λ p. p.1) (key_of_found pair_cmp check_key pair_cmp_total exact_pair (n.node, id) local.checks c e)

              serf_or : (b : Bool) → is_serf c ≡ b → GoodCheck n local remote done id
              serf_or true s =
                  let its : id ≡ serf_id = same_id ∙ (text_decides c.id serf_id).0 s in
                  subst (GoodCheck n local remote done) (sym its) (staged.0.grows.checks_stay serf_id (serf c (ap (local_check n local remote) (sym its) ∙ e)))
              serf_or false s =
                  subst (GoodCheck n local remote done) (sym same_id)
                  (found_passes (λ r. GoodCheck n local remote done r.id) (λ r. is_eq (pair_cmp (n.node, id) (check_key r))) (λ r. not (is_serf r)) (checks_in_order local.checks) staged.1 c
                  (row_at-in_order pair_cmp check_key pair_cmp_total exact_pair (n.node, id) local.checks ∙ e) (ap not s))

  -- 4. What is not local.
  module _ (service_nodes : AllByRecursion (λ s. s.node ≡ n.node) remote.services) (check_nodes : AllByRecursion (λ c. c.node ≡ n.node) remote.checks) where
    remote_services_own : AllByRecursion (λ s. (s.node ≡ n.node) × (s.id ≢ [])) (services_in_order remote.services)
    remote_services_own = All-in_order pair_cmp service_key pair_cmp_total exact_pair (λ s. (s.node ≡ n.node) × (s.id ≢ [])) remote.services (both_pass (λ s. s.node ≡ n.node) (λ s. s.id ≢ []) remote.services service_nodes can.remote_services)

    remote_checks_own : AllByRecursion (λ c. (c.node ≡ n.node) × (c.id ≢ [])) (checks_in_order remote.checks)
    remote_checks_own = All-in_order pair_cmp check_key pair_cmp_total exact_pair (λ c. (c.node ≡ n.node) × (c.id ≢ [])) remote.checks (both_pass (λ c. c.node ≡ n.node) (λ c. c.id ≢ []) remote.checks check_nodes can.remote_checks)

    gone_staged : (i : ℕ) (k : Catalog) → Underway n local remote k → LocalChecksGood n local remote k
        → (k' : Catalog) → k' ≡ all_applied i (map (λ s. Deregister n.node s.id []) (filter (is_alien_service local.services) (services_in_order remote.services))) k
        → Moves n local remote k k' × AllByRecursion (Gone n local remote k') (services_in_order remote.services)
    gone_staged i k u checks k' is = subst (λ l. Moves n local remote k l × AllByRecursion (Gone n local remote l) (services_in_order remote.services)) (sym is)
        (stage n local remote (λ s. (s.node ≡ n.node) × (s.id ≢ [])) (Gone n local remote) (LocalChecksGood n local remote) (λ s. Deregister n.node s.id []) (is_alien_service local.services)
        (λ i' l s own t u' pre. let none = alien s own.0 t in (
          gone_moves n local remote can.of_service i' l s.id own.1 none u' pre,
          record { service_gone = λ e. gone_good n local remote can.of_service i' l s.id own.1 none u'; checks_gone = λ e. gone_checks n local remote can.of_service i' l s.id own.1 none u' },
        ))
        (λ l s own t u'. record { service_gone = λ e. absurd (known s own.0 t e); checks_gone = λ e. absurd (known s own.0 t e) })
        (λ a b s g h. record { service_gone = λ e. g.services_stay s.id (h.service_gone e); checks_gone = λ e id c there of none. g.checks_stay id (h.checks_gone e id c there of none) })
        (λ a b g h id there. g.checks_stay id (h id there))
        (services_in_order remote.services) remote_services_own i k u checks)
      where
        alien : (s : ServiceRow) → s.node ≡ n.node → is_alien_service local.services s ≡ true → local_service n local remote s.id ≡ None
        alien s e t = not_some _ (subst (λ x. not (is_some (service_at (x, s.id) local.services)) ≡ true) e t)

        known : (s : ServiceRow) → s.node ≡ n.node → is_alien_service local.services s ≡ false → local_service n local remote s.id ≡ None → ⊥
        known s e t none = some_not _ (subst (λ x. not (is_some (service_at (x, s.id) local.services)) ≡ false) e t) none

    -- a check that is not local and does not go along with a service is gone
    abbrev Alone : Catalog → CheckRow → Type 0
    Alone k c = local_check n local remote c.id ≡ None → goes_along local.services remote.services c ≡ false → GoodCheck n local remote k c.id

    alone_staged : (i : ℕ) (k : Catalog) → Underway n local remote k
        → (k' : Catalog) → k' ≡ all_applied i (map (λ c. Deregister n.node [] c.id) (filter (λ c. is_alien_check local.checks c && not (goes_along local.services remote.services c)) (checks_in_order remote.checks))) k
        → Moves n local remote k k' × AllByRecursion (Alone k') (checks_in_order remote.checks)
    alone_staged i k u k' is = subst (λ l. Moves n local remote k l × AllByRecursion (Alone l) (checks_in_order remote.checks)) (sym is)
        (stage n local remote (λ c. (c.node ≡ n.node) × (c.id ≢ [])) Alone (λ l. Unit {0}) (λ c. Deregister n.node [] c.id) (λ c. is_alien_check local.checks c && not (goes_along local.services remote.services c))
        (λ i' l c own t u' pre. let s = alone_step n local remote i' l c.id own.1 (alien c own.0 (and_parts _ _ t).0) u' in (s.0, λ none goes. s.1))
        (λ l c own t u' none goes. absurd (true≢false (sym ((λ j. not (is_some (check_at (own.0 j, c.id) local.checks)) && not (goes j)) ∙ (λ j. not (is_some (none j)) && true)) ∙ t)))
        (λ a b c g h none goes. g.checks_stay c.id (h none goes))
        (λ a b g h. tt)
        (checks_in_order remote.checks) remote_checks_own i k u tt)
      where
        alien : (c : CheckRow) → c.node ≡ n.node → is_alien_check local.checks c ≡ true → local_check n local remote c.id ≡ None
        alien c e t = not_some _ (subst (λ x. not (is_some (check_at (x, c.id) local.checks)) ≡ true) e t)

  -- 5. The node and its own check.
  module _ (k : Catalog) (has : HasRemote n.node remote k) (in_order : InOrder k) where
    first_service : (id : List ℕ) → service_of n local remote k id ≡ remote_service n local remote id
    first_service = service_is_remote n local remote k has

    first_check : (id : List ℕ) → check_of n local remote k id ≡ remote_check n local remote id
    first_check = check_is_remote n local remote k has

    abbrev Begun : Catalog → Type 0
    Begun l = Underway n local remote l × ((c : CheckRow) → local_check n local remote serf_id ≡ Some c → GoodCheck n local remote l serf_id)

    -- nothing was to be done
    begun_same : same_found alike_nodes remote.node (Some n) ≡ true → ((c : CheckRow) → local_check n local remote serf_id ≡ Some c → GoodCheck n local remote k serf_id) → Begun k
    begun_same fits serf = (record { node = ap (λ o. same_found alike_nodes o (Some n)) (sym has.node) ∙ fits; services = λ id. inl (first_service id); checks = λ id. inl (first_check id); order = in_order.checks }, serf)

    or_first : (a b : Bool) → (a || b) ≡ false → a ≡ false
    or_first false b h = refl
    or_first true b h = h

    or_second : (a b : Bool) → (a || (b || false)) ≡ false → b ≡ false
    or_second a false h = refl
    or_second false true h = h
    or_second true true h = h

    -- the node without a check
    begun_node : (i : ℕ) → local_check n local remote serf_id ≡ None → Begun (apply i (registers_checks n []) k).0
    begun_node i none = (
      record {
        node = ap (λ rows. same_found alike_nodes (node_at n.node rows) (Some n)) (node_leaves n i k).in_nodes ∙ node_fits n i k.nodes;
        services = λ id. (services_same n local remote k (apply i (registers_checks n []) k).0 (node_leaves n i k).in_services id).1 (inl (first_service id));
        checks = λ id. (checks_same n local remote k (apply i (registers_checks n []) k).0 (node_leaves n i k).in_checks id).1 (inl (first_check id));
        order = subst ChecksAscend (sym (node_leaves n i k).in_checks) in_order.checks;
      },
      λ c e. absurd (no_check c (sym none ∙ e)),
    )
      where
        no_check : (c : CheckRow) → None ≡ Some c → ⊥
        no_check c e = cc

    module _ (c : CheckRow) (serf : local_check n local remote serf_id ≡ Some c) where
      its_key : ◌≡◌ {A = List ℕ × List ℕ} (n.node, serf_id) (check_key c)
      its_key = key_of_found pair_cmp check_key pair_cmp_total exact_pair (n.node, serf_id) local.checks c serf

      its_id : serf_id ≡ c.id
      its_id = ap (λ p. p.1) its_key

      own_node's : c.service ≡ []
      own_node's = found_in (λ r. is_serf r ≡ true → r.service ≡ []) (λ r. is_eq (pair_cmp (n.node, serf_id) (check_key r))) local.checks can.serf c serf ((text_decides c.id serf_id).1 (sym its_id))

      begun_check : (i : ℕ) → Begun (apply i (registers_checks n (c ∷ [])) k).0
      begun_check i =
          let s = check_step_where n local remote i k c (sym (ap (λ p. p.0) its_key)) (ap (local_check n local remote) (sym its_id) ∙ serf)
          (ap (λ x. is_empty x || is_some (service_at (n.node, x) k.services)) own_node's) (λ id. inl (first_service id)) (λ id. inl (first_check id)) in_order.checks in
          (s.0.underway, λ d e. subst (GoodCheck n local remote (apply i (registers_checks n (c ∷ [])) k).0) (sym its_id) s.1)

      serf_same : lacks_check remote.checks c ≡ false → GoodCheck n local remote k serf_id
      serf_same there = record { check_agrees = (λ j. same_found alike_checks ((first_check serf_id ∙ ap (λ p. check_at p remote.checks) its_key) j) (serf j)) ∙ not_true _ there }

    begun : (i : ℕ) (k' : Catalog) → k' ≡ all_applied i (node_plan n (listed (local_check n local remote serf_id)) remote) k → Begun k'
    unfolding all_applied
    begun i k' is = subst Begun (sym is) (go (local_check n local remote serf_id) refl)
      where
        without_check : local_check n local remote serf_id ≡ None → (b : Bool) → (lacks_node remote.node n || false) ≡ b → Begun (all_applied i (cond b (registers_checks n [] ∷ []) []) k)
        without_check none true e = begun_node i none
        without_check none false e = begun_same (not_true _ (or_first (lacks_node remote.node n) false e)) (λ c e'. let clash : None ≡ Some c = sym none ∙ e' in cc)

        with_check : (c : CheckRow) → local_check n local remote serf_id ≡ Some c → (b : Bool) → (lacks_node remote.node n || (lacks_check remote.checks c || false)) ≡ b → Begun (all_applied i (cond b (registers_checks n (c ∷ []) ∷ []) []) k)
        with_check c serf true e = begun_check c serf i
        with_check c serf false e = begun_same (not_true _ (or_first (lacks_node remote.node n) (lacks_check remote.checks c || false) e)) (λ d e'. serf_same c serf (or_second (lacks_node remote.node n) (lacks_check remote.checks c) e))

        go : (o : Option CheckRow) → local_check n local remote serf_id ≡ o → Begun (all_applied i (node_plan n (listed o) remote) k)
        go None e = without_check e (lacks_node remote.node n || false) refl
        go (Some c) e = with_check c e (lacks_node remote.node n || (lacks_check remote.checks c || false)) refl

    -- 6. The whole plan.
    module _ (i : ℕ) where
      node_part : List Command
      node_part = node_plan n (listed (local_check n local remote serf_id)) remote

      services_part : List Command
      services_part = map (registers_service n) (filter (lacks_service remote.services) (services_in_order local.services))

      checks_part : List Command
      checks_part = map (λ c. registers_checks n (c ∷ [])) (filter (lacks_check remote.checks) (other_checks local))

      gone_part : List Command
      gone_part = map (λ s. Deregister n.node s.id []) (filter (is_alien_service local.services) (services_in_order remote.services))

      alone_part : List Command
      alone_part = map (λ c. Deregister n.node [] c.id) (filter (λ c. is_alien_check local.checks c && not (goes_along local.services remote.services c)) (checks_in_order remote.checks))

      -- the catalogs between the parts
      k1 : Catalog
      k1 = all_applied i node_part k

      i1 : ℕ
      i1 = i + length node_part

      k2 : Catalog
      k2 = all_applied i1 services_part k1

      i2 : ℕ
      i2 = i + length (node_part ++ services_part)

      k3 : Catalog
      k3 = all_applied i2 checks_part k2

      i3 : ℕ
      i3 = i + length (node_part ++ services_part ++ checks_part)

      k4 : Catalog
      k4 = all_applied i3 gone_part k3

      i4 : ℕ
      i4 = i + length (node_part ++ services_part ++ checks_part ++ gone_part)

      k5 : Catalog
      k5 = all_applied i4 alone_part k4

      at_end : all_applied i (plan_of n local remote) k ≡ k5
      unfolding plan_of node_part services_part checks_part gone_part alone_part k1 i1 k2 i2 k3 i3 k4 i4 k5
      at_end =
          applied_append (node_part ++ services_part ++ checks_part ++ gone_part) alone_part i k
          ∙ ap (all_applied i4 alone_part) (applied_append (node_part ++ services_part ++ checks_part) gone_part i k
          ∙ ap (all_applied i3 gone_part) (applied_append (node_part ++ services_part) checks_part i k
          ∙ ap (all_applied i2 checks_part) (applied_append node_part services_part i k)))

      first : Begun k1
      unfolding k1 node_part
      first = begun i k1 refl

      second : Moves n local remote k1 k2 × LocalServicesGood n local remote k2
      unfolding k2 services_part
      second = services_staged i1 k1 first.0 k2 refl

      third : Moves n local remote k2 k3 × LocalChecksGood n local remote k3
      unfolding k3 checks_part
      third = checks_staged i2 k2 second.0.underway second.1 (λ c e. second.0.grows.checks_stay serf_id (first.1 c e)) k3 refl

      fourth : Moves n local remote k3 k4 × AllByRecursion (Gone n local remote k4) (services_in_order remote.services)
      unfolding k4 gone_part
      fourth = gone_staged (service_nodes n local remote k has) (check_nodes n local remote k has) i3 k3 third.0.underway third.1 k4 refl

      fifth : Moves n local remote k4 k5 × AllByRecursion (Alone (service_nodes n local remote k has) (check_nodes n local remote k has) k5) (checks_in_order remote.checks)
      unfolding k5 alone_part
      fifth = alone_staged (service_nodes n local remote k has) (check_nodes n local remote k has) i4 k4 fourth.0.underway k5 refl

      remote_gone : (id : List ℕ) (s : ServiceRow) → remote_service n local remote id ≡ Some s → Gone n local remote k4 s × (id ≡ s.id)
      remote_gone id s e = (
        found_in (Gone n local remote k4) (λ r. is_eq (pair_cmp (n.node, id) (service_key r))) (services_in_order remote.services) fourth.1 s (row_at-in_order pair_cmp service_key pair_cmp_total exact_pair (n.node, id) remote.services ∙ e),
        ap (λ p. p.1) (key_of_found pair_cmp service_key pair_cmp_total exact_pair (n.node, id) remote.services s e),
      )

      services_end : (id : List ℕ) → GoodService n local remote k5 id
      services_end id = go (local_service n local remote id) refl (remote_service n local remote id) refl
        where
          go : (l : Option ServiceRow) → local_service n local remote id ≡ l → (r : Option ServiceRow) → remote_service n local remote id ≡ r → GoodService n local remote k5 id
          go (Some s) e r f = fifth.0.grows.services_stay id (fourth.0.grows.services_stay id (third.0.grows.services_stay id (second.1 id (ap is_some e))))
          go None e None f = elim (fifth.0.underway.services id) [
            | inl same ↦ record { service_agrees = λ j. same_found alike_services ((same ∙ f) j) (e j) }
            | inr g ↦ g
          ]
          go None e (Some s) f = let gone = remote_gone id s f in fifth.0.grows.services_stay id (subst (GoodService n local remote k4) (sym gone.1) (gone.0.service_gone (ap (local_service n local remote) (sym gone.1) ∙ e)))

      alone_end : (id : List ℕ) (c : CheckRow) → remote_check n local remote id ≡ Some c → local_check n local remote id ≡ None → (b : Bool) → goes_along local.services remote.services c ≡ b → GoodCheck n local remote k5 id
      alone_end id c f e false goes =
          let its_id : id ≡ c.id = ap (λ p. p.1) (key_of_found pair_cmp check_key pair_cmp_total exact_pair (n.node, id) remote.checks c f) in
          let alone : Alone (service_nodes n local remote k has) (check_nodes n local remote k has) k5 c = found_in (Alone (service_nodes n local remote k has) (check_nodes n local remote k has) k5) (λ r. is_eq (pair_cmp (n.node, id) (check_key r))) (checks_in_order remote.checks) fifth.1 c (row_at-in_order pair_cmp check_key pair_cmp_total exact_pair (n.node, id) remote.checks ∙ f) in
          subst (GoodCheck n local remote k5) (sym its_id) (alone (ap (local_check n local remote) (sym its_id) ∙ e) goes)
      alone_end id c f e true goes = go (remote_service n local remote c.service) refl there
        where
          its_node : n.node ≡ c.node
          its_node = ap (λ p. p.0) (key_of_found pair_cmp check_key pair_cmp_total exact_pair (n.node, id) remote.checks c f)

          parts : ((not (is_empty c.service) && not (is_some (service_at (c.node, c.service) local.services))) ≡ true) × (is_some (service_at (c.node, c.service) remote.services) ≡ true)
          parts = and_parts (not (is_empty c.service) && not (is_some (service_at (c.node, c.service) local.services))) (is_some (service_at (c.node, c.service) remote.services)) goes

          there : is_some (remote_service n local remote c.service) ≡ true
          there = ap (λ x. is_some (service_at (x, c.service) remote.services)) its_node ∙ parts.1

          none_local : local_service n local remote c.service ≡ None
          none_local = not_some (local_service n local remote c.service) (ap (λ x. not (is_some (service_at (x, c.service) local.services))) its_node ∙ (and_parts (not (is_empty c.service)) (not (is_some (service_at (c.node, c.service) local.services))) parts.0).1)

          go : (r : Option ServiceRow) → remote_service n local remote c.service ≡ r → is_some r ≡ true → GoodCheck n local remote k5 id
          go None r h = absurd (false≢true h)
          go (Some s) r h = let gone = remote_gone c.service s r in fifth.0.grows.checks_stay id (gone.0.checks_gone (ap (local_service n local remote) (sym gone.1) ∙ none_local) id c f gone.1 e)

      checks_end : (id : List ℕ) → GoodCheck n local remote k5 id
      checks_end id = go (local_check n local remote id) refl (remote_check n local remote id) refl
        where
          go : (l : Option CheckRow) → local_check n local remote id ≡ l → (r : Option CheckRow) → remote_check n local remote id ≡ r → GoodCheck n local remote k5 id
          go (Some c) e r f = fifth.0.grows.checks_stay id (fourth.0.grows.checks_stay id (third.1 id (ap is_some e)))
          go None e None f = elim (fifth.0.underway.checks id) [
            | inl same ↦ record { check_agrees = λ j. same_found alike_checks ((same ∙ f) j) (e j) }
            | inr g ↦ g
          ]
          go None e (Some c) f = alone_end id c f e (goes_along local.services remote.services c) refl

      makes_synced : Synced n local (all_applied i (plan_of n local remote) k)
      makes_synced = subst (Synced n local) (sym at_end) (record { node = fifth.0.underway.node; services = λ id. (services_end id).service_agrees; checks = λ id. (checks_end id).check_agrees })

-- the sync law
pub sync_law : (i : ℕ) (n : NodeRow) (local : Local) (remote : Remote) (k : Catalog) → local.node ≡ Some n → HasRemote n.node remote k → InOrder k → IsSyncable n local remote → Synced n local (all_applied i (plan local remote) k)
sync_law i n local remote k of_node has in_order can = subst (λ cs. Synced n local (all_applied i cs k)) (sym (planned n local remote of_node)) (makes_synced n local remote can k has in_order i)
