-- A session that was whole is broken only by a check that the command makes critical or takes away.
use Rattle.std.proofs.Common.{◌≡◌, ℕ, Bool, true, false, not, cond, List, [], ◌∷◌, refl, sym, ◌∙◌, ap, subst, Option, Some, None, is_some, filter, map, ◌&&◌, ◌||◌}
use Rattle.std.specs.List.{AllByRecursion, cons_option, filter_map, list_any}
use Rattle.std.specs.Ordering.{is_eq}
use Rattle.std.proofs.lemmas.Bool.{true≢false, false≢true}
use Rattle.std.proofs.lemmas.Cmp.{nat_list_cmp_total}
use Rattle.std.proofs.lemmas.Map.Lookups.{exact_bytes}
use Rattle.cat_model.specs.Keys.{text_cmp, pair_cmp, same_text, is_empty}
use Rattle.cat_model.specs.Tables.{Ascends, put, without}
use Rattle.cat_model.specs.Same.{alike_nodes, alike_checks, same_status}
use Rattle.cat_model.specs.Catalog.{Catalog, node_at, check_at, node_key, check_key}
use Rattle.cat_model.specs.Machine.{act, register, deregister, deregister_service, deregister_check, unless, refusal_of, broken, check_refusal, checks_refusal, has_service, last_of_each, put_given, put_node, put_check, put_checks}
use Rattle.cat_model.specs.declared.row.NodeRow.{NodeRow}
use Rattle.cat_model.specs.declared.row.CheckRow.{CheckRow}
use Rattle.cat_model.specs.declared.row.SessionRow.{SessionRow}
use Rattle.cat_model.specs.declared.row.Status.TheVariants.{Critical}
use Rattle.cat_model.specs.declared.applied.Refuse.{Refuse}
use Rattle.cat_model.specs.declared.applied.Refuse.TheVariants as refusals
use Rattle.cat_model.specs.declared.applied.Applied.{Applied}
use Rattle.cat_model.specs.declared.applied.Applied.TheVariants.{Yes}
use Rattle.cat_model.specs.declared.command.NewService.{NewService}
use Rattle.cat_model.specs.declared.command.NewCheck.{NewCheck}
use Rattle.cat_model.specs.declared.command.Command.{Command}
use Rattle.cat_model.specs.declared.command.Command.TheVariants as commands
use Rattle.cat_model.proofs.InOrder.{key_of_found, row_at-where, row_where}
use Rattle.cat_model.proofs.Lookups.{row_at-put}
use Rattle.cat_model.proofs.Pairs.{pair_cmp_total, exact_pair}
use Rattle.cat_model.proofs.SameLemmas.{text_decides}
use Rattle.cat_model.proofs.TableLemmas.{All-weaker, eq_is, row_at-filter}
use Rattle.catalog_table.specs.Rows.{Rows, InOrder, catalog_of}
use Rattle.catalog_table.specs.Steps.{IsRegistration}
use Rattle.cat_model.specs.declared.query.Chan.{Chan}
use Rattle.session_table.specs.Nodes.{has_check, is_of_node, is_on, is_on_some, stands_on}
use Rattle.touch_positions.specs.States.{IndexState}
use Rattle.catalog_store.specs.States.{State, whole}
use Rattle.catalog_store.specs.Standing.{Ready}
use Rattle.catalog_store.specs.Registering.{RowStep, node_of, with_rows}
use Rattle.catalog_store.specs.Lost.{critical_id, ids_in_service, is_critical, lost_checks, OthersWhole}

no_parts : (a b : Bool) → (a || b) ≡ false → (a ≡ false) × (b ≡ false)
no_parts true b h = absurd (true≢false h)
no_parts false b h = (refl, h)

or_true : (b : Bool) → (b || true) ≡ true
or_true true = refl
or_true false = refl

-- the check is there and not critical
abbrev is_well : Option CheckRow → Bool
is_well None = false
is_well (Some c) = not (same_status c.status Critical)

-- 1. Where its node stays and its checks stay well, a session stays whole.
module _ (k k' : Catalog) where
  abbrev StaysWell : List ℕ → List ℕ → Type 0
  StaysWell node id = is_well (check_at (node, id) k.checks) ≡ true → is_well (check_at (node, id) k'.checks) ≡ true

  unrefused : (node : List ℕ) (ids : List (List ℕ)) → AllByRecursion (StaysWell node) ids → is_some (checks_refusal node ids k.checks) ≡ false → is_some (checks_refusal node ids k'.checks) ≡ false
  unrefused node [] all h = refl
  unrefused node (id ∷ ids) all h = go (check_at (node, id) k.checks) refl h (unrefused node ids all.1)
    where
      old : Option Refuse
      old = checks_refusal node ids k.checks

      new : Option Refuse
      new = checks_refusal node ids k'.checks

      well : (o : Option CheckRow) → is_well o ≡ true → is_some new ≡ false → is_some (check_refusal o new) ≡ false
      well None e rest = absurd (false≢true e)
      well (Some c) e rest = by (same_status c.status Critical) e
        where
          by : (b : Bool) → not b ≡ true → is_some (cond b (Some refusals.CriticalCheck) new) ≡ false
          by true f = absurd (false≢true f)
          by false f = rest

      go : (o : Option CheckRow) → check_at (node, id) k.checks ≡ o → is_some (check_refusal o old) ≡ false → (is_some old ≡ false → is_some new ≡ false) → is_some (check_refusal (check_at (node, id) k'.checks) new) ≡ false
      go None at g rest = absurd (true≢false g)
      go (Some c) at g rest = by (same_status c.status Critical) refl g
        where
          by : (b : Bool) → same_status c.status Critical ≡ b → is_some (cond b (Some refusals.CriticalCheck) old) ≡ false → is_some (check_refusal (check_at (node, id) k'.checks) new) ≡ false
          by true e f = absurd (true≢false f)
          by false e f = well (check_at (node, id) k'.checks) (all.0 (ap is_well at ∙ ap not e)) (rest f)

  stays_whole : (s : SessionRow) → (is_some (node_at s.node k.nodes) ≡ true → is_some (node_at s.node k'.nodes) ≡ true) → AllByRecursion (StaysWell s.node) s.checks → broken k s ≡ false → broken k' s ≡ false
  unfolding broken
  stays_whole s node checks h =
      let parts = no_parts (not (is_some (node_at s.node k.nodes))) (is_some (checks_refusal s.node s.checks k.checks)) h in
      (λ j. not (node (there (is_some (node_at s.node k.nodes)) parts.0) j) || unrefused s.node s.checks checks parts.1 j)
    where
      there : (b : Bool) → not b ≡ false → b ≡ true
      there true e = refl
      there false e = absurd (true≢false e)

-- 2. The checks of a session that stands on none of the lost ones are none of them.
none_weaker : {A : Type 0} (p q : A → Bool) → ((x : A) → q x ≡ true → p x ≡ true) → (xs : List A) → list_any p xs ≡ false → list_any q xs ≡ false
none_weaker p q weak [] h = refl
none_weaker p q weak (x ∷ xs) h = let parts = no_parts (p x) (list_any p xs) h in go (q x) refl parts.0 (none_weaker p q weak xs parts.1)
  where
    go : (b : Bool) → q x ≡ b → p x ≡ false → list_any q xs ≡ false → (b || list_any q xs) ≡ false
    go true e f rest = absurd (true≢false (sym (weak x e) ∙ f))
    go false e f rest = rest

abbrev Apart : List (List ℕ) → List ℕ → Type 0
Apart lost id = list_any (same_text id) lost ≡ false

apart_each : (lost ids : List (List ℕ)) → list_any (λ l. has_check l ids) lost ≡ false → AllByRecursion (Apart lost) ids
apart_each lost [] h = tt
apart_each lost (id ∷ ids) h = (
  none_weaker (λ l. has_check l (id ∷ ids)) (same_text id) (λ l e. ap (λ b. b || has_check l ids) e) lost h,
  apart_each lost ids (none_weaker (λ l. has_check l (id ∷ ids)) (λ l. has_check l ids) (λ l e. ap (λ b. same_text id l || b) e ∙ or_true (same_text id l)) lost h),
)

apart : (node : List ℕ) (lost : List (List ℕ)) (s : SessionRow) → is_of_node node s ≡ true → is_on_some node lost s ≡ false → AllByRecursion (Apart lost) s.checks
apart node lost s own off = apart_each lost s.checks (none_weaker (λ l. is_on node l s) (λ l. has_check l s.checks) (λ l e. (λ j. own j && (is_empty l || e j)) ∙ or_true (is_empty l)) lost off)

any_of_map : {A : Type 0} (q : List ℕ → Bool) (g : A → List ℕ) (xs : List A) → list_any q (map g xs) ≡ list_any (λ x. q (g x)) xs
any_of_map q g [] = refl
any_of_map q g (x ∷ xs) = ap (λ b. q (g x) || b) (any_of_map q g xs)

any_chosen : {A : Type 0} (q : List ℕ → Bool) (m : A → Bool) (g : A → List ℕ) (xs : List A) → list_any q (filter_map (λ x. cond (m x) (Some (g x)) None) xs) ≡ list_any (λ x. m x && q (g x)) xs
any_chosen q m g [] = refl
any_chosen q m g (x ∷ xs) = go (m x) (any_chosen q m g xs)
  where
    left : List (List ℕ)
    left = filter_map (λ y. cond (m y) (Some (g y)) None) xs

    go : (b : Bool) → list_any q left ≡ list_any (λ y. m y && q (g y)) xs → list_any q (cons_option (cond b (Some (g x)) None) left) ≡ ((b && q (g x)) || list_any (λ y. m y && q (g y)) xs)
    go true rest = ap (λ b. q (g x) || b) rest
    go false rest = rest

-- 3. A Register leaves nodes there, and well each check that it does not make critical.
module _ (i : ℕ) (node : List ℕ) where
  node_stays : (address name : List ℕ) (rows : List NodeRow) → is_some (node_at name rows) ≡ true → is_some (node_at name (put_node i node address rows)) ≡ true
  node_stays address name rows h = go (node_at node rows)
    where
      fresh : ℕ → NodeRow
      fresh create = record { node = node; address = address; create = create; modify = i }

      some : (b : Bool) (n : NodeRow) (o : Option NodeRow) → is_some o ≡ true → is_some (cond b (Some n) o) ≡ true
      some true n o e = refl
      some false n o e = e

      over : (create : ℕ) → is_some (node_at name (put text_cmp node_key (fresh create) rows)) ≡ true
      over create = ap is_some (row_at-put text_cmp node_key nat_list_cmp_total exact_bytes name (fresh create) rows) ∙ some (is_eq (text_cmp name node)) (fresh create) (node_at name rows) h

      either : (b : Bool) (create : ℕ) → is_some (node_at name (cond b rows (put text_cmp node_key (fresh create) rows))) ≡ true
      either true create = h
      either false create = over create

      go : (o : Option NodeRow) → is_some (node_at name (elim o as (λ _. List NodeRow) [ None ↦ put text_cmp node_key (fresh i) rows | Some old ↦ cond (alike_nodes old (fresh i)) rows (put text_cmp node_key (fresh old.create) rows) ])) ≡ true
      go None = over i
      go (Some old) = either (alike_nodes old (fresh i)) old.create

  -- the command makes this check critical
  abbrev strikes : List ℕ → NewCheck → Bool
  strikes id c = is_critical c && same_text id c.id

  module _ (name id : List ℕ) where
    check_stays : (c : NewCheck) → strikes id c ≡ false → (rows : List CheckRow) → is_well (check_at (name, id) rows) ≡ true → is_well (check_at (name, id) (put_check i node c rows)) ≡ true
    check_stays c spared rows h = go (check_at (node, c.id) rows)
      where
        fresh : ℕ → CheckRow
        fresh create = record { node = node; id = c.id; name = c.name; status = c.status; notes = c.notes; output = c.output; service = c.service; create = create; modify = i }

        uncritical : (b : Bool) → is_critical c ≡ b → same_text id c.id ≡ true → not (is_critical c) ≡ true
        uncritical true e same = absurd (true≢false (sym (λ j. e j && same j) ∙ spared))
        uncritical false e same = ap not e

        some : (b : Bool) → is_eq (pair_cmp (name, id) (node, c.id)) ≡ b → (create : ℕ) → is_well (cond b (Some (fresh create)) (check_at (name, id) rows)) ≡ true
        some true e create = uncritical (is_critical c) refl ((text_decides id c.id).1 (ap (λ q. q.1) (exact_pair (name, id) (node, c.id) (eq_is pair_cmp check_key pair_cmp_total _ e))))
        some false e create = h

        over : (create : ℕ) → is_well (check_at (name, id) (put pair_cmp check_key (fresh create) rows)) ≡ true
        over create = ap is_well (row_at-put pair_cmp check_key pair_cmp_total exact_pair (name, id) (fresh create) rows) ∙ some (is_eq (pair_cmp (name, id) (node, c.id))) refl create

        either : (b : Bool) (create : ℕ) → is_well (check_at (name, id) (cond b rows (put pair_cmp check_key (fresh create) rows))) ≡ true
        either true create = h
        either false create = over create

        go : (o : Option CheckRow) → is_well (check_at (name, id) (elim o as (λ _. List CheckRow) [ None ↦ put pair_cmp check_key (fresh i) rows | Some old ↦ cond (alike_checks old (fresh i)) rows (put pair_cmp check_key (fresh old.create) rows) ])) ≡ true
        go None = over i
        go (Some old) = either (alike_checks old (fresh i)) old.create

    checks_stay : (cs : List NewCheck) → list_any (strikes id) cs ≡ false → (rows : List CheckRow) → is_well (check_at (name, id) rows) ≡ true → is_well (check_at (name, id) (put_checks i node cs rows)) ≡ true
    checks_stay [] none rows h = h
    checks_stay (c ∷ cs) none rows h =
        let parts = no_parts (strikes id c) (list_any (strikes id) cs) none in
        checks_stay cs parts.1 (put_check i node c rows) (check_stays c parts.0 rows h)

fewer : (p : NewCheck → Bool) (cs : List NewCheck) → list_any p cs ≡ false → list_any p (last_of_each cs) ≡ false
fewer p [] h = refl
fewer p (c ∷ cs) h = let parts = no_parts (p c) (list_any p cs) h in go (list_any (λ d. same_text c.id d.id) cs) parts.0 (fewer p cs parts.1)
  where
    go : (b : Bool) → p c ≡ false → list_any p (last_of_each cs) ≡ false → list_any p (cond b (last_of_each cs) (c ∷ last_of_each cs)) ≡ false
    go true e rest = rest
    go false e rest = ap (λ b. b || list_any p (last_of_each cs)) e ∙ rest

abbrev after_register : ℕ → List ℕ → List ℕ → Option NewService → List NewCheck → Catalog → Catalog
after_register i node address service checks k = record k { nodes = put_node i node address k.nodes; services = put_given i node service k.services; checks = put_checks i node (last_of_each checks) k.checks }

registered : (i : ℕ) (node address : List ℕ) (service : Option NewService) (checks : List NewCheck) (k k' : Catalog) (answer : Applied) → register i node address service checks k ≡ (k', answer)
    → (s : SessionRow) → AllByRecursion (Apart (filter_map critical_id checks)) s.checks → broken k s ≡ false → broken k' s ≡ false
unfolding register unless broken
registered i node address service checks k k' answer made s off h = go (list_any (λ c. not (has_service node (put_given i node service k.services) c)) (last_of_each checks)) made
  where
    stays : (id : List ℕ) → Apart (filter_map critical_id checks) id → StaysWell k (after_register i node address service checks k) s.node id
    stays id none = checks_stay i node s.node id (last_of_each checks) (fewer (strikes i node id) checks (sym (any_chosen (same_text id) is_critical (λ (c : NewCheck). c.id) checks) ∙ none)) k.checks

    put_whole : broken (after_register i node address service checks k) s ≡ false
    put_whole =
        stays_whole k (after_register i node address service checks k) s (node_stays i node address s.node k.nodes)
        (All-weaker (Apart (filter_map critical_id checks)) (StaysWell k (after_register i node address service checks k) s.node) stays s.checks off) h

    go : (b : Bool) → unless (refusal_of ((b, refusals.MissingService) ∷ [])) k (after_register i node address service checks k, Yes) ≡ (k', answer) → broken k' s ≡ false
    go true e = subst (λ q. broken q s ≡ false) (ap (λ p. p.0) e) h
    go false e = subst (λ q. broken q s ≡ false) (ap (λ p. p.0) e) put_whole

-- 4. A Deregister of a check or a service leaves each other check as it was.
module _ (node name id : List ℕ) (rows : List CheckRow) where
  other_check : (check : List ℕ) → same_text id check ≡ false → is_well (check_at (name, id) rows) ≡ true → is_well (check_at (name, id) (without (λ r. same_text r.node node && same_text r.id check) rows)) ≡ true
  other_check check differs h =
      ap is_well (row_at-filter pair_cmp check_key pair_cmp_total exact_pair (λ (q : List ℕ × List ℕ). not (same_text q.0 node && same_text q.1 check)) (name, id) (ap (λ b. not (same_text name node && b)) differs ∙ passes (same_text name node)) rows) ∙ h
    where
      passes : (b : Bool) → not (b && false) ≡ true
      passes true = refl
      passes false = refl

  any_found : (p : CheckRow → Bool) (xs : List CheckRow) (c : CheckRow) → check_at (name, id) xs ≡ Some c → p c ≡ true → list_any p xs ≡ true
  any_found p [] c at e = absurd (false≢true (ap is_some at))
  any_found p (r ∷ xs) c at e = go (is_eq (pair_cmp (name, id) (check_key r))) at (any_found p xs c)
    where
      first : (o : Option CheckRow) → CheckRow
      first None = c
      first (Some x) = x

      go : (b : Bool) → cond b (Some r) (check_at (name, id) xs) ≡ Some c → (check_at (name, id) xs ≡ Some c → p c ≡ true → list_any p xs ≡ true) → list_any p (r ∷ xs) ≡ true
      go true f rest = ap (λ b. b || list_any p xs) (ap p (ap first f) ∙ e)
      go false f rest = ap (λ b. p r || b) (rest f e) ∙ or_true (p r)

  other_service : (service : List ℕ) → Ascends pair_cmp check_key rows → Apart (ids_in_service node service rows) id → is_well (check_at (name, id) rows) ≡ true → is_well (check_at (name, id) (without (λ r. same_text r.node node && same_text r.service service) rows)) ≡ true
  other_service service asc differs h = ap is_well (row_at-where pair_cmp check_key pair_cmp_total exact_pair left (name, id) rows asc) ∙ go (check_at (name, id) rows) refl h
    where
      left : CheckRow → Bool
      left r = not (same_text r.node node && same_text r.service service)

      own : CheckRow → Bool
      own r = same_text r.node node && same_text r.service service

      taken : (c : CheckRow) → check_at (name, id) rows ≡ Some c → same_text c.node node ≡ true → same_text c.service service ≡ true → list_any (same_text id) (ids_in_service node service rows) ≡ true
      taken c at on in_it =
          let same : same_text id c.id ≡ true = (text_decides id c.id).1 (ap (λ q. q.1) (key_of_found pair_cmp check_key pair_cmp_total exact_pair (name, id) rows c at)) in
          let there : check_at (name, id) (filter own rows) ≡ Some c =
          row_at-where pair_cmp check_key pair_cmp_total exact_pair own (name, id) rows asc ∙ ap (row_where own) at ∙ ap (λ b. cond b (Some c) None) (λ j. on j && in_it j) in
          any_of_map (same_text id) (λ (r : CheckRow). r.id) (filter own rows) ∙ any_found (λ r. same_text id r.id) (filter own rows) c there same

      by : (c : CheckRow) → check_at (name, id) rows ≡ Some c → (a : Bool) → same_text c.node node ≡ a → (b : Bool) → same_text c.service service ≡ b → is_well (Some c) ≡ true → is_well (cond (not (a && b)) (Some c) None) ≡ true
      by c at true e true f g = absurd (true≢false (sym (taken c at e f) ∙ differs))
      by c at true e false f g = g
      by c at false e b f g = g

      go : (o : Option CheckRow) → check_at (name, id) rows ≡ o → is_well o ≡ true → is_well (row_where left o) ≡ true
      go None at g = absurd (false≢true g)
      go (Some c) at g = by c at (same_text c.node node) refl (same_text c.service service) refl g

module _ (node : List ℕ) (k : Catalog) (asc : Ascends pair_cmp check_key k.checks) (s : SessionRow) (own : is_of_node node s ≡ true) (h : broken k s ≡ false) where
  check_gone : (check : List ℕ) → is_on_some node (check ∷ []) s ≡ false → broken (deregister_check node check k) s ≡ false
  check_gone check off =
      stays_whole k (deregister_check node check k) s (λ there. there)
      (All-weaker (Apart (check ∷ [])) (StaysWell k (deregister_check node check k) s.node) (λ id none. other_check node s.node id k.checks check (no_parts (same_text id check) false none).0) s.checks (apart node (check ∷ []) s own off)) h

  service_gone : (service : List ℕ) → is_on_some node (ids_in_service node service k.checks) s ≡ false → broken (deregister_service node service k) s ≡ false
  service_gone service off =
      stays_whole k (deregister_service node service k) s (λ there. there)
      (All-weaker (Apart (ids_in_service node service k.checks)) (StaysWell k (deregister_service node service k) s.node) (λ id none. other_service node s.node id k.checks service asc none) s.checks
      (apart node (ids_in_service node service k.checks) s own off)) h

  deregistered : (service check : List ℕ) → is_on_some node (lost_checks (commands.Deregister node service check) k.checks) s ≡ false → broken (deregister node service check k) s ≡ false
  unfolding deregister
  deregistered [] [] off = absurd (true≢false (sym (λ j. (own j && true) || false) ∙ off))
  deregistered [] (x ∷ check) off = check_gone (x ∷ check) off
  deregistered (x ∷ service) check off = service_gone (x ∷ service) off

-- 5. After a Register or a Deregister.
spares_others : (i : ℕ) (c : Command) (k k' : Catalog) (answer : Applied) → IsRegistration c → Ascends pair_cmp check_key k.checks → act i c k ≡ (k', answer)
    → (s : SessionRow) → broken k s ≡ false → is_of_node (node_of c) s ≡ true → is_on_some (node_of c) (lost_checks c k.checks) s ≡ false → broken k' s ≡ false
unfolding act
spares_others i (commands.Register node address service checks) k k' answer is asc made s h own off = registered i node address service checks k k' answer made s (apart node (filter_map critical_id checks) s own off) h
spares_others i (commands.Deregister node service check) k k' answer is asc made s h own off = subst (λ q. broken q s ≡ false) (ap (λ p. p.0) made) (deregistered node k asc s own h service check off)
spares_others i other k k' answer is asc made s h own off = absurd is

pub others_whole : (i : ℕ) (c : Command) (old : State) (rows : Rows) (index : IndexState) (answer : Applied) (chans : List Chan) (node : List ℕ) → IsRegistration c → InOrder old.rows → RowStep i c old rows index answer chans → Ready i old → node_of c ≡ node
    → OthersWhole node (lost_checks c old.rows.checks) rows old.sessions
unfolding broken
others_whole i c old rows index answer chans node is in_order step ready named =
    subst (λ n. OthersWhole n (lost_checks c old.rows.checks) rows old.sessions) named
    (All-weaker (λ s. broken (catalog_of old.rows) s ≡ false) (λ s. is_of_node (node_of c) s ≡ true → is_on_some (node_of c) (lost_checks c old.rows.checks) s ≡ false → broken (catalog_of rows) s ≡ false)
    (λ s h. spares_others i c (whole old) (whole (with_rows old rows index)) answer is in_order.checks step.does s h) old.sessions ready.whole)

-- 6. The broken ones among those on the lost checks are all that are broken of the node.
module _ (fails : SessionRow → Bool) (node : List ℕ) (lost : List (List ℕ)) where
  elsewhere : (s : SessionRow) → is_of_node node s ≡ false → (ls : List (List ℕ)) → is_on_some node ls s ≡ false
  elsewhere s e [] = refl
  elsewhere s e (l ∷ ls) = λ j. (e j && stands_on l s) || elsewhere s e ls j

  pub picked : (sessions : List SessionRow) → AllByRecursion (λ s. is_of_node node s ≡ true → is_on_some node lost s ≡ false → fails s ≡ false) sessions → filter fails (filter (is_on_some node lost) sessions) ≡ filter fails (filter (is_of_node node) sessions)
  picked [] all = refl
  picked (s ∷ sessions) all = go (is_of_node node s) refl (is_on_some node lost s) refl (picked sessions all.1)
    where
      some : List SessionRow
      some = filter (is_on_some node lost) sessions

      own : List SessionRow
      own = filter (is_of_node node) sessions

      go : (a : Bool) → is_of_node node s ≡ a → (b : Bool) → is_on_some node lost s ≡ b → filter fails some ≡ filter fails own → filter fails (cond b (s ∷ some) some) ≡ filter fails (cond a (s ∷ own) own)
      go true e true f rest = ap (λ l. cond (fails s) (s ∷ l) l) rest
      go true e false f rest = rest ∙ sym (ap (λ x. cond x (s ∷ filter fails own) (filter fails own)) (all.0 e f))
      go false e true f rest = absurd (false≢true (sym (elsewhere s e lost) ∙ f))
      go false e false f rest = rest
