-- The plan of the definitions is that of rows in order, by what each side has of the other.
use Rattle.std.proofs.Common.{◌≡◌, ◌∙◌, ℕ, Bool, true, false, not, cond, ◌&&◌, ◌||◌, List, [], ◌∷◌, ◌++◌, Option, Some, None, refl, sym, ap, filter, is_some, map}
use Rattle.std.specs.Prelude.{if◌then◌else◌}
use Rattle.std.specs.List.{cons_option, filter_map, list_any}
use Rattle.std.specs.declared.cmp.Ordering.{Ordering}
use Rattle.std.specs.Ordering.{is_eq, is_gt, is_lt}
use Rattle.std.proofs.lemmas.List.{map-append}
use Rattle.cat_model.specs.Keys.{pair_cmp, is_empty}
use Rattle.cat_model.specs.Tables.{put, row_at, same_found}
use Rattle.cat_model.specs.Same.{alike_services, alike_checks}
use Rattle.cat_model.specs.Catalog.{service_key, check_key, service_at, check_at}
use Rattle.cat_model.specs.Syncs.{in_order, services_in_order, checks_in_order, other_checks, merged, merged_service, tags_or, registers_service, registers_checks, lacks_node, lacks_service, lacks_check, plan, is_alien_service, is_alien_check, goes_along, is_serf, serf_id, listed, node_plan, plan_of}
use Rattle.cat_model.specs.declared.row.NodeRow.{NodeRow}
use Rattle.cat_model.specs.declared.row.ServiceRow.{ServiceRow}
use Rattle.cat_model.specs.declared.row.CheckRow.{CheckRow}
use Rattle.cat_model.specs.declared.command.Command.{Command}
use Rattle.cat_model.specs.declared.fired.Local.{Local}
use Rattle.cat_model.specs.declared.fired.Remote.{Remote}
use Rattle.cat_model.proofs.Pairs.{pair_cmp_total, exact_pair}
use Rattle.cat_model.proofs.InOrder.{row_at-in_order}
use Rattle.node_rows.specs.Sides.{all_paired, is_stray, strays}
use Rattle.anti_entropy.specs.Parts.{all_plan, check_command, is_uneven_check, is_uneven_service, new_checks, new_services, old_check, old_checks, old_services, own_plan, removes_check, removes_service, retagged, row_plan, service_command}

filter_as : {R S : Type 0} (p : S → Bool) (q : R → Bool) (m : R → S) → ((r : R) → p (m r) ≡ q r) → (rows : List R) → filter p (map m rows) ≡ map m (filter q rows)
filter_as p q m h [] = refl
filter_as p q m h (r ∷ rows) = ap (λ b. cond b (m r ∷ filter p (map m rows)) (filter p (map m rows))) (h r) ∙ go (q r) (filter_as p q m h rows)
  where
    go : (b : Bool) → filter p (map m rows) ≡ map m (filter q rows) → cond b (m r ∷ filter p (map m rows)) (filter p (map m rows)) ≡ map m (cond b (r ∷ filter q rows) (filter q rows))
    go true e = ap (λ l. m r ∷ l) e
    go false e = e

filter_same : {R : Type 0} (p q : R → Bool) → ((r : R) → p r ≡ q r) → (rows : List R) → filter p rows ≡ filter q rows
filter_same p q h [] = refl
filter_same p q h (r ∷ rows) = λ i. cond (h r i) (r ∷ filter_same p q h rows i) (filter_same p q h rows i)

-- what is made of those that pass, where a pass is told of another row
pick : {R S T : Type 0} (f : R → Option T) (p : S → Bool) (g : S → T) (m : R → S) → ((r : R) → f r ≡ cond (p (m r)) (Some (g (m r))) None) → (rows : List R) → filter_map f rows ≡ map g (filter p (map m rows))
pick f p g m h [] = refl
pick f p g m h (r ∷ rows) = (λ i. cons_option (h r i) (pick f p g m h rows i)) ∙ go (p (m r))
  where
    go : (b : Bool) → cons_option (cond b (Some (g (m r))) None) (map g (filter p (map m rows))) ≡ map g (cond b (m r ∷ filter p (map m rows)) (filter p (map m rows)))
    go true = refl
    go false = refl

filter_map_map : {R S T : Type 0} (f : S → Option T) (m : R → S) (rows : List R) → filter_map f (map m rows) ≡ filter_map (λ r. f (m r)) rows
filter_map_map f m [] = refl
filter_map_map f m (r ∷ rows) = ap (cons_option (f (m r))) (filter_map_map f m rows)

module _ {K R : Type 0} (cmp : K → K → Ordering) (key : R → K) (m : R → R) (keeps : (r : R) → key (m r) ≡ key r) where
  put_map : (new : R) (rows : List R) → put cmp key (m new) (map m rows) ≡ map m (put cmp key new rows)
  unfolding put
  put_map new rows =
      (λ i. filter_as (λ r. is_lt (cmp (key r) (key (m new)))) (λ r. is_lt (cmp (key r) (key new))) m (λ r j. is_lt (cmp (keeps r j) (keeps new j))) rows i
      ++ m new ∷ filter_as (λ r. is_gt (cmp (key r) (key (m new)))) (λ r. is_gt (cmp (key r) (key new))) m (λ r j. is_gt (cmp (keeps r j) (keeps new j))) rows i)
      ∙ sym (map-append m (filter (λ r. is_lt (cmp (key r) (key new))) rows) (new ∷ filter (λ r. is_gt (cmp (key r) (key new))) rows))

  in_order_map : (rows : List R) → in_order cmp key (map m rows) ≡ map m (in_order cmp key rows)
  in_order_map [] = refl
  in_order_map (r ∷ rows) = ap (put cmp key (m r)) (in_order_map rows) ∙ put_map r (in_order cmp key rows)

  is_at_map : (k : K) (rows : List R) → is_some (row_at cmp key k (map m rows)) ≡ is_some (row_at cmp key k rows)
  is_at_map k [] = refl
  is_at_map k (r ∷ rows) = ap (λ j. is_some (cond (is_eq (cmp k j)) (Some (m r)) (row_at cmp key k (map m rows)))) (keeps r) ∙ go (is_eq (cmp k (key r))) (is_at_map k rows)
    where
      go : (b : Bool) → is_some (row_at cmp key k (map m rows)) ≡ is_some (row_at cmp key k rows) → is_some (cond b (Some (m r)) (row_at cmp key k (map m rows))) ≡ is_some (cond b (Some r) (row_at cmp key k rows))
      go true e = refl
      go false e = e

at_services : (k : List ℕ × List ℕ) (rows : List ServiceRow) → service_at k (services_in_order rows) ≡ service_at k rows
at_services k rows = row_at-in_order pair_cmp service_key pair_cmp_total exact_pair k rows

at_checks : (k : List ℕ × List ℕ) (rows : List CheckRow) → check_at k (checks_in_order rows) ≡ check_at k rows
at_checks k rows = row_at-in_order pair_cmp check_key pair_cmp_total exact_pair k rows

keeps_key : (o : Option ServiceRow) (s : ServiceRow) → service_key (retagged o s) ≡ service_key s
keeps_key o s = go s.tag_override
  where
    go : (b : Bool) → service_key (if b then record s { tags = tags_or s.tags o } else s) ≡ service_key s
    go true = refl
    go false = refl

module _ (n : NodeRow) (local : Local) (remote : Remote) where
  abbrev own : List ServiceRow
  own = services_in_order local.services

  abbrev there : List ServiceRow
  there = services_in_order remote.services

  abbrev m : ServiceRow → ServiceRow
  m = merged_service remote.services

  keeps : (s : ServiceRow) → service_key (m s) ≡ service_key s
  keeps s = keeps_key (service_at (s.node, s.id) remote.services) s

  service_told : (s : ServiceRow) → service_command n (s, service_at (service_key s) there) ≡ cond (lacks_service remote.services (m s)) (Some (registers_service n (m s))) None
  service_told s =
      ap (λ (o : Option ServiceRow). service_command n (s, o)) (at_services (service_key s) remote.services)
      ∙ ap (λ (k : List ℕ × List ℕ). cond (not (same_found alike_services (service_at k remote.services) (Some (m s)))) (Some (registers_service n (m s))) None) (sym (keeps s))

  services_new : new_services n own there ≡ map (registers_service n) (filter (lacks_service remote.services) (services_in_order (map m local.services)))
  services_new =
      filter_map_map (service_command n) (λ (s : ServiceRow). (s, service_at (service_key s) there)) own
      ∙ pick (λ (s : ServiceRow). service_command n (s, service_at (service_key s) there)) (lacks_service remote.services) (registers_service n) m service_told own
      ∙ ap (λ l. map (registers_service n) (filter (lacks_service remote.services) l)) (sym (in_order_map pair_cmp service_key m keeps local.services))

  is_own : (k : List ℕ × List ℕ) → is_some (service_at k own) ≡ is_some (service_at k (map m local.services))
  is_own k = ap is_some (at_services k local.services) ∙ sym (is_at_map pair_cmp service_key m keeps k local.services)

  services_old : old_services n own there ≡ map (removes_service n) (filter (is_alien_service (map m local.services)) there)
  services_old = ap (map (removes_service n)) (filter_same (is_stray pair_cmp service_key own) (is_alien_service (map m local.services)) (λ s. ap not (is_own (service_key s))) there)

  abbrev checks : List CheckRow
  checks = checks_in_order local.checks

  abbrev checks_there : List CheckRow
  checks_there = checks_in_order remote.checks

  lacks_there : (c : CheckRow) → lacks_check checks_there c ≡ lacks_check remote.checks c
  lacks_there c = ap (λ (o : Option CheckRow). not (same_found alike_checks o (Some c))) (at_checks (check_key c) remote.checks)

  check_told : (c : CheckRow) → check_command n (c, check_at (check_key c) checks_there) ≡ cond (not (is_serf c) && lacks_check remote.checks c) (Some (registers_checks n (c ∷ []))) None
  check_told c = ap (λ b. cond (not (is_serf c) && b) (Some (registers_checks n (c ∷ []))) None) (lacks_there c)

  same_rows : (rows : List CheckRow) → map (λ (c : CheckRow). c) rows ≡ rows
  same_rows [] = refl
  same_rows (c ∷ rows) = ap (λ l. c ∷ l) (same_rows rows)

  both_pass : (rows : List CheckRow) → filter (λ (c : CheckRow). not (is_serf c) && lacks_check remote.checks c) rows ≡ filter (lacks_check remote.checks) (filter (λ c. not (is_serf c)) rows)
  both_pass [] = refl
  both_pass (c ∷ rows) = go (not (is_serf c)) (both_pass rows)
    where
      passing : List CheckRow
      passing = filter (λ (c : CheckRow). not (is_serf c) && lacks_check remote.checks c) rows

      others : List CheckRow
      others = filter (λ c. not (is_serf c)) rows

      go : (b : Bool) → passing ≡ filter (lacks_check remote.checks) others → cond (b && lacks_check remote.checks c) (c ∷ passing) passing ≡ filter (lacks_check remote.checks) (cond b (c ∷ others) others)
      go true e = λ i. cond (lacks_check remote.checks c) (c ∷ e i) (e i)
      go false e = e

  checks_new : new_checks n checks checks_there ≡ map (λ c. registers_checks n (c ∷ [])) (filter (lacks_check remote.checks) (filter (λ c. not (is_serf c)) checks))
  checks_new =
      filter_map_map (check_command n) (λ (c : CheckRow). (c, check_at (check_key c) checks_there)) checks
      ∙ pick (λ (c : CheckRow). check_command n (c, check_at (check_key c) checks_there)) (λ (c : CheckRow). not (is_serf c) && lacks_check remote.checks c) (λ c. registers_checks n (c ∷ [])) (λ (c : CheckRow). c) check_told checks
      ∙ ap (λ l. map (λ c. registers_checks n (c ∷ [])) (filter (λ (c : CheckRow). not (is_serf c) && lacks_check remote.checks c) l)) (same_rows checks)
      ∙ ap (map (λ c. registers_checks n (c ∷ []))) (both_pass checks)

  abbrev alone : CheckRow → Bool
  alone c = is_alien_check local.checks c && not (goes_along (map m local.services) remote.services c)

  goes_same : (c : CheckRow) → goes_along own there c ≡ goes_along (map m local.services) remote.services c
  goes_same c = λ i. not (is_empty c.service) && not (is_own (c.node, c.service) i) && is_some (at_services (c.node, c.service) remote.services i)

  stray_alone : (rows : List CheckRow) → filter_map (old_check n own there) (filter (is_stray pair_cmp check_key checks) rows) ≡ map (removes_check n) (filter alone rows)
  stray_alone [] = refl
  stray_alone (c ∷ rows) =
      ap (λ b. filter_map (old_check n own there) (cond b (c ∷ filter (is_stray pair_cmp check_key checks) rows) (filter (is_stray pair_cmp check_key checks) rows))) (ap (λ (o : Option CheckRow). not (is_some o)) (at_checks (check_key c) local.checks))
      ∙ go (is_alien_check local.checks c) (goes_along (map m local.services) remote.services c) (goes_same c) (stray_alone rows)
    where
      left : List CheckRow
      left = filter (is_stray pair_cmp check_key checks) rows

      go : (a b : Bool) → goes_along own there c ≡ b → filter_map (old_check n own there) left ≡ map (removes_check n) (filter alone rows) → filter_map (old_check n own there) (cond a (c ∷ left) left) ≡ map (removes_check n) (cond (a && not b) (c ∷ filter alone rows) (filter alone rows))
      go false b g e = e
      go true true g e = ap (λ z. cons_option (cond z None (Some (removes_check n c))) (filter_map (old_check n own there) left)) g ∙ e
      go true false g e = ap (λ z. cons_option (cond z None (Some (removes_check n c))) (filter_map (old_check n own there) left)) g ∙ ap (λ l. removes_check n c ∷ l) e

  checks_old : old_checks n own there checks checks_there ≡ map (removes_check n) (filter alone checks_there)
  checks_old = stray_alone checks_there

  lacks_any : (o : Option CheckRow) → list_any (lacks_check checks_there) (listed o) ≡ list_any (lacks_check remote.checks) (listed o)
  lacks_any None = refl
  lacks_any (Some c) = ap (λ b. b || false) (lacks_there c)

  own_is : own_plan n remote.node checks checks_there ≡ node_plan n (listed (check_at (n.node, serf_id) local.checks)) remote
  own_is =
      ap (λ (o : Option CheckRow). cond (lacks_node remote.node n || list_any (lacks_check checks_there) (listed o)) (registers_checks n (listed o) ∷ []) []) (at_checks (n.node, serf_id) local.checks)
      ∙ ap (λ b. cond (lacks_node remote.node n || b) (registers_checks n (listed (check_at (n.node, serf_id) local.checks)) ∷ []) []) (lacks_any (check_at (n.node, serf_id) local.checks))

  pub plan_is : row_plan n remote.node own checks there checks_there ≡ plan_of n (merged local remote) remote
  unfolding plan_of merged
  plan_is = λ i. own_is i ++ services_new i ++ checks_new i ++ services_old i ++ checks_old i

-- the tags that are taken over
pub tags_are : (local : Local) (remote : Remote) → map (λ (s : ServiceRow). retagged (service_at (service_key s) (services_in_order remote.services)) s) local.services ≡ (merged local remote).services
unfolding merged
tags_are local remote = λ i. map (λ (s : ServiceRow). retagged (at_services (service_key s) remote.services i) s) local.services

pub own_plan_is : (n : NodeRow) (there : Option NodeRow) (rows rows_there : List CheckRow) (serf : Option CheckRow) → serf ≡ check_at (n.node, serf_id) rows →
    cond (lacks_node there n || list_any (lacks_check rows_there) (listed serf)) (registers_checks n (listed serf) ∷ []) [] ≡ own_plan n there rows rows_there
own_plan_is n there rows rows_there serf is = ap (λ (o : Option CheckRow). cond (lacks_node there n || list_any (lacks_check rows_there) (listed o)) (registers_checks n (listed o) ∷ []) []) is

pub planned_tags : (local : Local) (remote : Remote) (tagged services catalog : List ServiceRow) → services ≡ local.services → catalog ≡ services_in_order remote.services →
    tagged ≡ map (λ (s : ServiceRow). retagged (service_at (service_key s) catalog) s) services → tagged ≡ (merged local remote).services
planned_tags local remote tagged services catalog os ts e = e ∙ (λ i. map (λ (s : ServiceRow). retagged (service_at (service_key s) (ts i)) s) (os i)) ∙ tags_are local remote

-- the plan of an agent, with a node row or without one
pub all_plan_is : (local : Local) (remote : Remote) →
    all_plan local.node remote.node (services_in_order local.services) (checks_in_order local.checks) (services_in_order remote.services) (checks_in_order remote.checks) ≡ plan (merged local remote) remote
unfolding merged
all_plan_is local remote = go local.node
  where
    go : (n : Option NodeRow) →
        all_plan n remote.node (services_in_order local.services) (checks_in_order local.checks) (services_in_order remote.services) (checks_in_order remote.checks) ≡ plan (merged (record local { node = n }) remote) remote
    go None = refl
    go (Some n) = plan_is n (record local { node = Some n }) remote
