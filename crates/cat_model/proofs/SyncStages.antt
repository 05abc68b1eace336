-- The stages of a plan: what each command keeps, and what it makes good.
use Rattle.std.proofs.Common.{◌≡◌, ◌≢◌, ℕ, ◌+◌, Bool, true, false, not, cond, ◌&&◌, ◌||◌, List, [], ◌∷◌, refl, sym, ◌∙◌, ap, subst, Option, Some, None, filter, is_some, map, ◌⊎◌, inl, inr}
use Rattle.std.specs.List.{AllByRecursion}
use Rattle.std.proofs.lemmas.Bool.{true≢false, false≢true, and_parts}
use Rattle.cat_model.specs.Keys.{pair_cmp, same_text, is_empty}
use Rattle.cat_model.specs.Tables.{without, same_found}
use Rattle.cat_model.specs.Same.{alike_nodes, alike_services, alike_checks}
use Rattle.cat_model.specs.Catalog.{Catalog, service_key, check_key, node_at, service_at, check_at}
use Rattle.cat_model.specs.Machine.{apply, has_service, put_node, put_service, put_check}
use Rattle.cat_model.specs.Syncs.{new_service, new_check, registers_service, registers_checks, all_applied}
use Rattle.cat_model.specs.declared.row.NodeRow.{NodeRow}
use Rattle.cat_model.specs.declared.row.ServiceRow.{ServiceRow}
use Rattle.cat_model.specs.declared.row.CheckRow.{CheckRow}
use Rattle.cat_model.specs.declared.command.Command.{Command}
use Rattle.cat_model.specs.declared.command.Command.TheVariants.{Deregister}
use Rattle.cat_model.specs.declared.fired.Local.{Local}
use Rattle.cat_model.specs.declared.fired.Remote.{Remote}
use Rattle.cat_model.proofs.SameLemmas.{text_decides}
use Rattle.cat_model.proofs.TableLemmas.{Ascends-filter, row_at-filter}
use Rattle.cat_model.proofs.Lookups.{row_at-filter_none}
use Rattle.cat_model.proofs.Pairs.{pair_cmp_total, exact_pair}
use Rattle.cat_model.proofs.Order.{ChecksAscend, check_put}
use Rattle.cat_model.proofs.InOrder.{row_where, row_at-where, key_of_found, found_in}
use Rattle.cat_model.proofs.SyncSteps.{Leaves, node_fits, service_fits, service_other, check_fits, check_other, service_leaves, check_leaves, no_service_leaves, no_check_leaves}

module _ (n : NodeRow) (local : Local) (remote : Remote) where
  abbrev pub service_of : Catalog → List ℕ → Option ServiceRow
  service_of k id = service_at (n.node, id) k.services

  abbrev pub check_of : Catalog → List ℕ → Option CheckRow
  check_of k id = check_at (n.node, id) k.checks

  abbrev pub local_service : List ℕ → Option ServiceRow
  local_service id = service_at (n.node, id) local.services

  abbrev pub local_check : List ℕ → Option CheckRow
  local_check id = check_at (n.node, id) local.checks

  abbrev pub remote_service : List ℕ → Option ServiceRow
  remote_service id = service_at (n.node, id) remote.services

  abbrev pub remote_check : List ℕ → Option CheckRow
  remote_check id = check_at (n.node, id) remote.checks

  -- the catalog and the agent agree on an ID
  pub record GoodService (k : Catalog) (id : List ℕ) : Type 0 where
    pub service_agrees : same_found alike_services (service_of k id) (local_service id) ≡ true

  pub record GoodCheck (k : Catalog) (id : List ℕ) : Type 0 where
    pub check_agrees : same_found alike_checks (check_of k id) (local_check id) ≡ true

  -- at each moment they agree, or the catalog's row is still the first one
  pub record Underway (k : Catalog) : Type 0 where
    pub node : same_found alike_nodes (node_at n.node k.nodes) (Some n) ≡ true
    pub services : (id : List ℕ) → (service_of k id ≡ remote_service id) ⊎ GoodService k id
    pub checks : (id : List ℕ) → (check_of k id ≡ remote_check id) ⊎ GoodCheck k id
    pub order : ChecksAscend k.checks

  -- and what agreed goes on agreeing
  pub record Grows (k k' : Catalog) : Type 0 where
    pub services_stay : (id : List ℕ) → GoodService k id → GoodService k' id
    pub checks_stay : (id : List ℕ) → GoodCheck k id → GoodCheck k' id

  pub record Moves (k k' : Catalog) : Type 0 where
    pub underway : Underway k'
    pub grows : Grows k k'

  grows_on : (a b c : Catalog) → Grows a b → Grows b c → Grows a c
  grows_on a b c f g = record { services_stay = λ id h. g.services_stay id (f.services_stay id h); checks_stay = λ id h. g.checks_stay id (f.checks_stay id h) }

  -- 1. A list of rows, of which some need a command.
  module _ {R : Type 0} (Item : R → Type 0) (Done : Catalog → R → Type 0) (Pre : Catalog → Type 0) (command : R → Command) (test : R → Bool)
      (step : (i : ℕ) (k : Catalog) (r : R) → Item r → test r ≡ true → Underway k → Pre k → Moves k (apply i (command r) k).0 × Done (apply i (command r) k).0 r)
      (skip : (k : Catalog) (r : R) → Item r → test r ≡ false → Underway k → Done k r)
      (done_stays : (k k' : Catalog) (r : R) → Grows k k' → Done k r → Done k' r)
      (pre_stays : (k k' : Catalog) → Grows k k' → Pre k → Pre k') where
    abbrev Staged : List R → Catalog → Catalog → Type 0
    Staged ys k k' = Moves k k' × AllByRecursion (Done k') ys

    pub stage : (ys : List R) → AllByRecursion Item ys → (i : ℕ) (k : Catalog) → Underway k → Pre k → Staged ys k (all_applied i (map command (filter test ys)) k)
    unfolding all_applied
    stage [] h i k u pre = (record { underway = u; grows = record { services_stay = λ id g. g; checks_stay = λ id g. g } }, tt)
    stage (r ∷ ys) h i k u pre = go (test r) refl (λ i' k' u' pre'. stage ys h.1 i' k' u' pre')
      where
        go : (b : Bool) → test r ≡ b → ((i' : ℕ) (k' : Catalog) → Underway k' → Pre k' → Staged ys k' (all_applied i' (map command (filter test ys)) k'))
            → Staged (r ∷ ys) k (all_applied i (map command (cond b (r ∷ filter test ys) (filter test ys))) k)
        go true e rest =
            let next : Catalog = (apply i (command r) k).0 in
            let s : Moves k next × Done next r = step i k r h.0 e u pre in
            let t : Staged ys next (all_applied (i + 1) (map command (filter test ys)) next) = rest (i + 1) next s.0.underway (pre_stays k next s.0.grows pre) in
            (record { underway = t.0.underway; grows = grows_on k next _ s.0.grows t.0.grows }, (done_stays next _ r t.0.grows s.1, t.1))
        go false e rest =
            let t : Staged ys k (all_applied i (map command (filter test ys)) k) = rest i k u pre in
            (t.0, (done_stays k _ r t.0.grows (skip k r h.0 e u), t.1))

  -- 2. Rows that change at one ID, and rows that do not.
  module _ (k k' : Catalog) where
    services_by : (x : List ℕ) → GoodService k' x → ((id : List ℕ) → same_text id x ≡ false → service_of k' id ≡ service_of k id) → (id : List ℕ)
        → (GoodService k id → GoodService k' id) × ((service_of k id ≡ remote_service id) ⊎ GoodService k id → (service_of k' id ≡ remote_service id) ⊎ GoodService k' id)
    services_by x own others id = go (same_text id x) refl
      where
        go : (b : Bool) → same_text id x ≡ b → (GoodService k id → GoodService k' id) × ((service_of k id ≡ remote_service id) ⊎ GoodService k id → (service_of k' id ≡ remote_service id) ⊎ GoodService k' id)
        go true e = let here : GoodService k' id = subst (GoodService k') (sym ((text_decides id x).0 e)) own in (λ g. here, λ s. inr here)
        go false e =
            let stays : GoodService k id → GoodService k' id = λ g. record { service_agrees = ap (λ o. same_found alike_services o (local_service id)) (others id e) ∙ g.service_agrees } in
            (stays, λ s. elim s [ inl same ↦ inl (others id e ∙ same) | inr g ↦ inr (stays g) ])

    checks_by : (x : List ℕ) → GoodCheck k' x → ((id : List ℕ) → same_text id x ≡ false → check_of k' id ≡ check_of k id) → (id : List ℕ)
        → (GoodCheck k id → GoodCheck k' id) × ((check_of k id ≡ remote_check id) ⊎ GoodCheck k id → (check_of k' id ≡ remote_check id) ⊎ GoodCheck k' id)
    checks_by x own others id = go (same_text id x) refl
      where
        go : (b : Bool) → same_text id x ≡ b → (GoodCheck k id → GoodCheck k' id) × ((check_of k id ≡ remote_check id) ⊎ GoodCheck k id → (check_of k' id ≡ remote_check id) ⊎ GoodCheck k' id)
        go true e = let here : GoodCheck k' id = subst (GoodCheck k') (sym ((text_decides id x).0 e)) own in (λ g. here, λ s. inr here)
        go false e =
            let stays : GoodCheck k id → GoodCheck k' id = λ g. record { check_agrees = ap (λ o. same_found alike_checks o (local_check id)) (others id e) ∙ g.check_agrees } in
            (stays, λ s. elim s [ inl same ↦ inl (others id e ∙ same) | inr g ↦ inr (stays g) ])

    pub services_same : k'.services ≡ k.services → (id : List ℕ)
        → (GoodService k id → GoodService k' id) × ((service_of k id ≡ remote_service id) ⊎ GoodService k id → (service_of k' id ≡ remote_service id) ⊎ GoodService k' id)
    services_same e id =
        let same : service_of k' id ≡ service_of k id = ap (service_at (n.node, id)) e in
        let stays : GoodService k id → GoodService k' id = λ g. record { service_agrees = ap (λ o. same_found alike_services o (local_service id)) same ∙ g.service_agrees } in
        (stays, λ s. elim s [ inl was ↦ inl (same ∙ was) | inr g ↦ inr (stays g) ])

    pub checks_same : k'.checks ≡ k.checks → (id : List ℕ)
        → (GoodCheck k id → GoodCheck k' id) × ((check_of k id ≡ remote_check id) ⊎ GoodCheck k id → (check_of k' id ≡ remote_check id) ⊎ GoodCheck k' id)
    checks_same e id =
        let same : check_of k' id ≡ check_of k id = ap (check_at (n.node, id)) e in
        let stays : GoodCheck k id → GoodCheck k' id = λ g. record { check_agrees = ap (λ o. same_found alike_checks o (local_check id)) same ∙ g.check_agrees } in
        (stays, λ s. elim s [ inl was ↦ inl (same ∙ was) | inr g ↦ inr (stays g) ])

  -- 3. A local service is registered.
  abbrev pub LocalService : ServiceRow → Type 0
  LocalService s = (s.node ≡ n.node) × (local_service s.id ≡ Some s)

  pub service_step : (i : ℕ) (k : Catalog) (s : ServiceRow) → LocalService s → Underway k → Moves k (apply i (registers_service n s) k).0 × GoodService (apply i (registers_service n s) k).0 s.id
  service_step i k s own u = (
    record {
      underway = record {
        node = ap (λ rows. same_found alike_nodes (node_at n.node rows) (Some n)) left.in_nodes ∙ node_fits n i k.nodes;
        services = λ id. (by id).1 (u.services id);
        checks = λ id. (still id).1 (u.checks id);
        order = subst ChecksAscend (sym left.in_checks) u.order;
      };
      grows = record { services_stay = λ id. (by id).0; checks_stay = λ id. (still id).0 };
    },
    good,
  )
    where
      next : Catalog
      next = (apply i (registers_service n s) k).0

      left : Leaves n i (registers_service n s) k (put_node i n.node n.address k.nodes) (put_service i n.node (new_service s) k.services) k.checks
      left = service_leaves n i s k

      good : GoodService next s.id
      good = record { service_agrees = (λ j. same_found alike_services (service_at (n.node, s.id) (left.in_services j)) (own.1 j)) ∙ service_fits n i s own.0 k.services }

      by : (id : List ℕ) → (GoodService k id → GoodService next id) × ((service_of k id ≡ remote_service id) ⊎ GoodService k id → (service_of next id ≡ remote_service id) ⊎ GoodService next id)
      by = services_by k next s.id good (λ id e. ap (service_at (n.node, id)) left.in_services ∙ service_other n i s own.0 k.services id e)

      still : (id : List ℕ) → (GoodCheck k id → GoodCheck next id) × ((check_of k id ≡ remote_check id) ⊎ GoodCheck k id → (check_of next id ≡ remote_check id) ⊎ GoodCheck next id)
      still = checks_same k next left.in_checks

  -- 4. A local check is registered, where the services agree.
  abbrev pub LocalCheck : CheckRow → Type 0
  LocalCheck c = (c.node ≡ n.node) × (local_check c.id ≡ Some c) × ((is_empty c.service || is_some (local_service c.service)) ≡ true)

  abbrev pub LocalServicesGood : Catalog → Type 0
  LocalServicesGood k = (id : List ℕ) → is_some (local_service id) ≡ true → GoodService k id

  found_too : {R : Type 0} (alike : R → R → Bool) (a b : Option R) → same_found alike a b ≡ true → is_some b ≡ true → is_some a ≡ true
  found_too alike None None h e = e
  found_too alike None (Some y) h e = h
  found_too alike (Some x) b h e = refl

  either_true : (a b c : Bool) → (a || b) ≡ true → (b ≡ true → c ≡ true) → (a || c) ≡ true
  either_true true b c h f = refl
  either_true false b c h f = f h

  pub check_step_where : (i : ℕ) (k : Catalog) (c : CheckRow) → c.node ≡ n.node → local_check c.id ≡ Some c → has_service n.node k.services (new_check c) ≡ true
      → ((id : List ℕ) → (service_of k id ≡ remote_service id) ⊎ GoodService k id) → ((id : List ℕ) → (check_of k id ≡ remote_check id) ⊎ GoodCheck k id) → ChecksAscend k.checks
      → Moves k (apply i (registers_checks n (c ∷ [])) k).0 × GoodCheck (apply i (registers_checks n (c ∷ [])) k).0 c.id
  check_step_where i k c of_node own there services checks order = (
    record {
      underway = record {
        node = ap (λ rows. same_found alike_nodes (node_at n.node rows) (Some n)) left.in_nodes ∙ node_fits n i k.nodes;
        services = λ id. (still id).1 (services id);
        checks = λ id. (by id).1 (checks id);
        order = subst ChecksAscend (sym left.in_checks) (check_put i n.node (new_check c) k.checks order);
      };
      grows = record { services_stay = λ id. (still id).0; checks_stay = λ id. (by id).0 };
    },
    good,
  )
    where
      next : Catalog
      next = (apply i (registers_checks n (c ∷ [])) k).0

      left : Leaves n i (registers_checks n (c ∷ [])) k (put_node i n.node n.address k.nodes) k.services (put_check i n.node (new_check c) k.checks)
      left = check_leaves n i c k there

      good : GoodCheck next c.id
      good = record { check_agrees = (λ j. same_found alike_checks (check_at (n.node, c.id) (left.in_checks j)) (own j)) ∙ check_fits n i c of_node k.checks }

      by : (id : List ℕ) → (GoodCheck k id → GoodCheck next id) × ((check_of k id ≡ remote_check id) ⊎ GoodCheck k id → (check_of next id ≡ remote_check id) ⊎ GoodCheck next id)
      by = checks_by k next c.id good (λ id e. ap (check_at (n.node, id)) left.in_checks ∙ check_other n i c of_node k.checks id e)

      still : (id : List ℕ) → (GoodService k id → GoodService next id) × ((service_of k id ≡ remote_service id) ⊎ GoodService k id → (service_of next id ≡ remote_service id) ⊎ GoodService next id)
      still = services_same k next left.in_services

  pub check_step : (i : ℕ) (k : Catalog) (c : CheckRow) → LocalCheck c → Underway k → LocalServicesGood k → Moves k (apply i (registers_checks n (c ∷ [])) k).0 × GoodCheck (apply i (registers_checks n (c ∷ [])) k).0 c.id
  check_step i k c own u pre =
      check_step_where i k c own.0 own.1
      (either_true (is_empty c.service) (is_some (local_service c.service)) (is_some (service_of k c.service)) own.2 (λ e. found_too alike_services (service_of k c.service) (local_service c.service) (pre c.service e).service_agrees e))
      u.services u.checks u.order

  -- 5. A service of the catalog that is not local is deregistered, with its checks, where the checks agree.
  abbrev pub LocalChecksGood : Catalog → Type 0
  LocalChecksGood k = (id : List ℕ) → is_some (local_check id) ≡ true → GoodCheck k id

  abbrev pub OfService : CheckRow → Type 0
  OfService c = (is_empty c.service || is_some (local_service c.service)) ≡ true

  -- a service that is gone agrees, and so do its checks that are not local
  pub record Gone (k : Catalog) (s : ServiceRow) : Type 0 where
    pub service_gone : local_service s.id ≡ None → GoodService k s.id
    pub checks_gone : local_service s.id ≡ None → (id : List ℕ) (c : CheckRow) → remote_check id ≡ Some c → c.service ≡ s.id → local_check id ≡ None → GoodCheck k id

  service_is : (r c : CheckRow) → alike_checks r c ≡ true → r.service ≡ c.service
  service_is r c alike = (text_decides r.service c.service).0 (and_parts _ _ alike).1

  module _ (of_service : AllByRecursion OfService local.checks) (i : ℕ) (k : Catalog) (x : List ℕ) (named : x ≢ []) (alien : local_service x ≡ None) (u : Underway k) where
    gone_test : CheckRow → Bool
    gone_test r = not (same_text r.node n.node && same_text r.service x)

    next : Catalog
    next = (apply i (Deregister n.node x []) k).0

    left : Leaves n i (Deregister n.node x []) k k.nodes (without (λ r. same_text r.node n.node && same_text r.id x) k.services) (without (λ r. same_text r.node n.node && same_text r.service x) k.checks)
    left = no_service_leaves n i x k named

    check_next : (id : List ℕ) → check_of next id ≡ row_where gone_test (check_of k id)
    unfolding next gone_test
    check_next id = ap (check_at (n.node, id)) left.in_checks ∙ row_at-where pair_cmp check_key pair_cmp_total exact_pair (λ r. not (same_text r.node n.node && same_text r.service x)) (n.node, id) k.checks u.order

    -- a check that is alike to a local one is not of that service
    not_of : (r c : CheckRow) (id : List ℕ) → local_check id ≡ Some c → alike_checks r c ≡ true → gone_test r ≡ true
    unfolding gone_test
    not_of r c id there alike = go (same_text r.service x) refl
      where
        same : r.service ≡ c.service
        same = service_is r c alike

        clash : (y : List ℕ) → y ≡ x → (is_empty y || is_some (local_service y)) ≡ true → x ≡ []
        clash [] e h = sym e
        clash (z ∷ y) e h = absurd (false≢true (sym (ap is_some (ap local_service e ∙ alien)) ∙ h))

        and_false : (b : Bool) → not (b && false) ≡ true
        and_false true = refl
        and_false false = refl

        go : (b : Bool) → same_text r.service x ≡ b → not (same_text r.node n.node && b) ≡ true
        go false e = and_false (same_text r.node n.node)
        go true e = absurd (named (clash c.service (sym same ∙ (text_decides r.service x).0 e) (found_in OfService _ local.checks of_service c there)))

    keeps_good : (id : List ℕ) → GoodCheck k id → GoodCheck next id
    keeps_good id g = record { check_agrees = ap (λ o. same_found alike_checks o (local_check id)) (check_next id) ∙ go (check_of k id) (local_check id) refl g.check_agrees }
      where
        go : (o l : Option CheckRow) → local_check id ≡ l → same_found alike_checks o l ≡ true → same_found alike_checks (row_where gone_test o) l ≡ true
        go None l e h = h
        go (Some r) None e h = absurd (false≢true h)
        go (Some r) (Some c) e h = ap (λ b. same_found alike_checks (cond b (Some r) None) (Some c)) (not_of r c id e h) ∙ h

    keeps_underway : LocalChecksGood k → (id : List ℕ) → (check_of next id ≡ remote_check id) ⊎ GoodCheck next id
    keeps_underway pre id = go (u.checks id)
      where
        absent : (o : Option CheckRow) → check_of k id ≡ o → check_of k id ≡ remote_check id → local_check id ≡ None → (check_of next id ≡ remote_check id) ⊎ GoodCheck next id
        absent o is was none = chosen o is (row_where gone_test o) refl
          where
            chosen : (o : Option CheckRow) → check_of k id ≡ o → (w : Option CheckRow) → row_where gone_test o ≡ w → (check_of next id ≡ remote_check id) ⊎ GoodCheck next id
            chosen o is None e = inr (record { check_agrees = (λ j. same_found alike_checks ((check_next id ∙ ap (row_where gone_test) is ∙ e) j) (none j)) })
            chosen None is (Some r) e = let clash : None ≡ Some r = e in cc
            chosen (Some y) is (Some r) e = inl (check_next id ∙ ap (row_where gone_test) is ∙ whole (gone_test y) e ∙ sym is ∙ was)
              where
                whole : (b : Bool) → cond b (Some y) None ≡ Some r → cond b (Some y) None ≡ Some y
                whole true e' = refl
                whole false e' = let clash : None ≡ Some r = e' in cc

        go : (check_of k id ≡ remote_check id) ⊎ GoodCheck k id → (check_of next id ≡ remote_check id) ⊎ GoodCheck next id
        go (inr g) = inr (keeps_good id g)
        go (inl was) = local_or (local_check id) refl
          where
            local_or : (l : Option CheckRow) → local_check id ≡ l → (check_of next id ≡ remote_check id) ⊎ GoodCheck next id
            local_or (Some c) e = inr (keeps_good id (pre id (ap is_some e)))
            local_or None e = absent (check_of k id) refl was e

    service_good : GoodService next x
    unfolding next
    service_good = record { service_agrees = (λ j. same_found alike_services (gone j) (alien j)) }
      where
        and_true : (a b : Bool) → a ≡ true → b ≡ true → not (a && b) ≡ false
        and_true true true e f = refl
        and_true true false e f = absurd (false≢true f)
        and_true false b e f = absurd (false≢true e)

        gone : service_of (apply i (Deregister n.node x []) k).0 x ≡ None
        gone = ap (service_at (n.node, x)) left.in_services
            ∙ row_at-filter_none pair_cmp service_key pair_cmp_total exact_pair (λ (p : List ℕ × List ℕ). not (same_text p.0 n.node && same_text p.1 x)) (n.node, x) (and_true _ _ ((text_decides n.node n.node).1 refl) ((text_decides x x).1 refl)) k.services

    services_next : (id : List ℕ) → (GoodService k id → GoodService next id) × ((service_of k id ≡ remote_service id) ⊎ GoodService k id → (service_of next id ≡ remote_service id) ⊎ GoodService next id)
    unfolding next
    services_next = services_by k next x service_good others
      where
        passes : (a b : Bool) → b ≡ false → not (a && b) ≡ true
        passes true false e = refl
        passes false b e = refl
        passes true true e = absurd (true≢false e)

        others : (id : List ℕ) → same_text id x ≡ false → service_of (apply i (Deregister n.node x []) k).0 id ≡ service_of k id
        others id e =
            ap (service_at (n.node, id)) left.in_services
            ∙ row_at-filter pair_cmp service_key pair_cmp_total exact_pair (λ (p : List ℕ × List ℕ). not (same_text p.0 n.node && same_text p.1 x)) (n.node, id) (passes _ _ e) k.services

    gone_check : (id : List ℕ) (c : CheckRow) → remote_check id ≡ Some c → c.service ≡ x → local_check id ≡ None → GoodCheck next id
    unfolding gone_test
    gone_check id c there of none = go (u.checks id)
      where
        of_node : n.node ≡ c.node
        of_node = ap (λ p. p.0) (key_of_found pair_cmp check_key pair_cmp_total exact_pair (n.node, id) remote.checks c there)

        goes : gone_test c ≡ false
        goes = (λ j. not (same_text c.node (of_node j) && same_text c.service (sym of j))) ∙ (λ j. not ((text_decides c.node c.node).1 refl j && (text_decides c.service c.service).1 refl j))

        go : (check_of k id ≡ remote_check id) ⊎ GoodCheck k id → GoodCheck next id
        go (inr g) = keeps_good id g
        go (inl was) = record { check_agrees = (λ j. same_found alike_checks ((check_next id ∙ ap (row_where gone_test) (was ∙ there) ∙ ap (λ b. cond b (Some c) None) goes) j) (none j)) }

    pub gone_moves : LocalChecksGood k → Moves k (apply i (Deregister n.node x []) k).0
    unfolding next
    gone_moves pre = record {
      underway = record {
        node = ap (λ rows. same_found alike_nodes (node_at n.node rows) (Some n)) left.in_nodes ∙ u.node;
        services = λ id. (services_next id).1 (u.services id);
        checks = keeps_underway pre;
        order = subst ChecksAscend (sym left.in_checks) (Ascends-filter pair_cmp check_key pair_cmp_total (λ r. not (same_text r.node n.node && same_text r.service x)) k.checks u.order);
      };
      grows = record { services_stay = λ id. (services_next id).0; checks_stay = keeps_good };
    }

    pub gone_good : GoodService (apply i (Deregister n.node x []) k).0 x
    unfolding next
    gone_good = service_good

    pub gone_checks : (id : List ℕ) (c : CheckRow) → remote_check id ≡ Some c → c.service ≡ x → local_check id ≡ None → GoodCheck (apply i (Deregister n.node x []) k).0 id
    unfolding next
    gone_checks = gone_check

  -- 6. A check of the catalog that is not local is deregistered.
  pub alone_step : (i : ℕ) (k : Catalog) (x : List ℕ) → x ≢ [] → local_check x ≡ None → Underway k → Moves k (apply i (Deregister n.node [] x) k).0 × GoodCheck (apply i (Deregister n.node [] x) k).0 x
  alone_step i k x named alien u = (
    record {
      underway = record {
        node = ap (λ rows. same_found alike_nodes (node_at n.node rows) (Some n)) left.in_nodes ∙ u.node;
        services = λ id. (still id).1 (u.services id);
        checks = λ id. (by id).1 (u.checks id);
        order = subst ChecksAscend (sym left.in_checks) (Ascends-filter pair_cmp check_key pair_cmp_total (λ r. not (same_text r.node n.node && same_text r.id x)) k.checks u.order);
      };
      grows = record { services_stay = λ id. (still id).0; checks_stay = λ id. (by id).0 };
    },
    good,
  )
    where
      next : Catalog
      next = (apply i (Deregister n.node [] x) k).0

      left : Leaves n i (Deregister n.node [] x) k k.nodes k.services (without (λ r. same_text r.node n.node && same_text r.id x) k.checks)
      left = no_check_leaves n i x k named

      and_true : (a b : Bool) → a ≡ true → b ≡ true → not (a && b) ≡ false
      and_true true true e f = refl
      and_true true false e f = absurd (false≢true f)
      and_true false b e f = absurd (false≢true e)

      passes : (a b : Bool) → b ≡ false → not (a && b) ≡ true
      passes true false e = refl
      passes false b e = refl
      passes true true e = absurd (true≢false e)

      good : GoodCheck next x
      good = record {
        check_agrees = (λ j. same_found alike_checks ((ap (check_at (n.node, x)) left.in_checks
            ∙ row_at-filter_none pair_cmp check_key pair_cmp_total exact_pair (λ (p : List ℕ × List ℕ). not (same_text p.0 n.node && same_text p.1 x)) (n.node, x) (and_true _ _ ((text_decides n.node n.node).1 refl) ((text_decides x x).1 refl)) k.checks) j) (alien j));
      }

      by : (id : List ℕ) → (GoodCheck k id → GoodCheck next id) × ((check_of k id ≡ remote_check id) ⊎ GoodCheck k id → (check_of next id ≡ remote_check id) ⊎ GoodCheck next id)
      by = checks_by k next x good (λ id e. ap (check_at (n.node, id)) left.in_checks
          ∙ row_at-filter pair_cmp check_key pair_cmp_total exact_pair (λ (p : List ℕ × List ℕ). not (same_text p.0 n.node && same_text p.1 x)) (n.node, id) (passes _ _ e) k.checks)

      still : (id : List ℕ) → (GoodService k id → GoodService next id) × ((service_of k id ≡ remote_service id) ⊎ GoodService k id → (service_of next id ≡ remote_service id) ⊎ GoodService next id)
      still = services_same k next left.in_services
