-- What a Register and a Deregister do, as a step of all the tables.
use Rattle.std.proofs.Common.{◌≡◌, ℕ, Bool, true, false, not, cond, ◌&&◌, ◌||◌, List, [], ◌∷◌, refl, sym, ◌∙◌, ap, subst, Option, Some, None, is_some, unwrap_or, ◌≤◌, arith}
use Rattle.std.specs.List.{list_any}
use Rattle.std.proofs.lemmas.Bool.{false≢true, true≢false}
use Rattle.cat_model.specs.Keys.{same_text}
use Rattle.cat_model.specs.Catalog.{kv_at, same_catalog}
use Rattle.cat_model.specs.Machine.{Step, act}
use Rattle.cat_model.specs.Queries.{service_rows}
use Rattle.cat_model.specs.Indexes.{has_name, has_node, some_vanishes, some_node_goes, is_reap}
use Rattle.cat_model.specs.Channels.{fires}
use Rattle.cat_model.specs.Views.{moved, position_of}
use Rattle.cat_model.specs.declared.row.ServiceRow.{ServiceRow}
use Rattle.cat_model.specs.declared.query.Chan.{Chan}
use Rattle.cat_model.specs.declared.query.Chan.TheVariants.{Service, Node, NodeChecks}
use Rattle.cat_model.specs.declared.applied.Applied.{Applied}
use Rattle.cat_model.specs.declared.applied.Applied.TheVariants.{Yes}
use Rattle.cat_model.specs.declared.row.NodeRow.{NodeRow}
use Rattle.cat_model.specs.Same.{same_node}
use Rattle.std.specs.Cmp.Lexicographic.{pointwise, pointwise_decides}
use Rattle.cat_model.specs.declared.command.Command.{Command}
use Rattle.cat_model.specs.declared.command.Command.TheVariants.{Register, Deregister}
use Rattle.cat_model.proofs.SameLemmas.{text_decides, node_decides, catalog_decides}
use Rattle.cat_model.proofs.Reaching.{same_name}
use Rattle.catalog_table.specs.Rows.{Rows, rows_of, catalog_of, InOrder}
use Rattle.catalog_table.specs.Names.{is_among}
use Rattle.catalog_table.specs.Changes.{is_named, reads_differ, vanishes, Tells}
use Rattle.catalog_table.specs.Steps.{IsRegister, IsRegistration, StepsOnRows, step_of, with_rows as with_lists}
use Rattle.catalog_table.proofs.OtherLists.{other_lists}
use Rattle.catalog_table.specs.declared.changed.Changed.{Changed}
use Rattle.catalog_table.proofs.ServiceReads.{reads_nothing}
use Rattle.touch_positions.specs.NameVersions.{own_position}
use Rattle.touch_positions.specs.States.{IndexState}
use Rattle.catalog_store.proofs.Fires.{same_row}
use Rattle.catalog_table.proofs.Keeping.{KeepsOthers, put_keeps, deregister_keeps}
use Rattle.catalog_table.specs.Steps.{put_rows}
use Rattle.cat_model.specs.Machine.{register, unless, refusal_of, last_of_each, has_service, put_given}
use Rattle.cat_model.specs.declared.applied.Refuse.TheVariants.{MissingService}
use Rattle.catalog_store.specs.States.{State, whole}
use Rattle.catalog_store.specs.Standing.{Ready}
use Rattle.catalog_store.specs.Registering.{node_of, has_some, change_of, goes, host_after, checks_after, Marks, all_chans, RowStep, with_rows}
use Rattle.catalog_store.specs.declared.registrations.NodeChange.{NodeChange}
use Rattle.catalog_store.proofs.Quiet.{fit_later, same_keys, same_sessions, same_queries, still_row}
use Rattle.catalog_store.proofs.Marking.{own_or_first}
use Rattle.catalog_store.proofs.Changed.{FiresChanged, changed_just}
use Rattle.catalog_store.proofs.NodeFires.{there_is, same_has, host_fires, check_fires, goes_is}

-- some name vanishes just where one is told
module _ (old new : Rows) (gone : List (List ℕ)) (told : (name : List ℕ) → is_among gone name ≡ vanishes old new name) where
  lost : List ServiceRow → Bool
  lost rows = list_any (λ s. not (has_name s.name (catalog_of new))) rows

  front : (a b : Bool) → a ≡ true → (a || b) ≡ true
  front true b e = refl
  front false b e = absurd (false≢true e)

  behind : (a b : Bool) → b ≡ true → (a || b) ≡ true
  behind true b e = refl
  behind false b e = e

  some_gone : (names : List (List ℕ)) (name : List ℕ) → is_among names name ≡ true → has_some names ≡ true
  some_gone [] name e = e
  some_gone (n ∷ names) name e = refl

  -- a row that is lost
  finds : (rows : List ServiceRow) → ((name : List ℕ) → list_any (λ s. same_text s.name name) rows ≡ true → is_named name old ≡ true) → lost rows ≡ true → has_some gone ≡ true
  unfolding lost
  finds [] within e = absurd (false≢true e)
  finds (s ∷ rows) within e = go (is_named s.name new) refl e (finds rows (λ name f. within name (behind (same_text s.name name) (list_any (λ t. same_text t.name name) rows) f)))
    where
      go : (b : Bool) → is_named s.name new ≡ b → (not b || lost rows) ≡ true → (lost rows ≡ true → has_some gone ≡ true) → has_some gone ≡ true
      go true is h rest = rest h
      go false is h rest = some_gone gone s.name (told s.name ∙ (λ j. within s.name (front (same_text s.name s.name) (list_any (λ t. same_text t.name s.name) rows) ((text_decides s.name s.name).1 refl)) j && not (is j)))

  loses : (name : List ℕ) (rows : List ServiceRow) → list_any (λ s. same_text s.name name) rows ≡ true → is_named name new ≡ false → lost rows ≡ true
  unfolding lost
  loses name [] e none = absurd (false≢true e)
  loses name (s ∷ rows) e none = go (same_text s.name name) refl e (λ h. loses name rows h none)
    where
      go : (b : Bool) → same_text s.name name ≡ b → (b || list_any (λ t. same_text t.name name) rows) ≡ true → (list_any (λ t. same_text t.name name) rows ≡ true → lost rows ≡ true) → (not (is_named s.name new) || lost rows) ≡ true
      go true is h rest = front (not (is_named s.name new)) (lost rows) (ap (λ n. not (is_named n new)) ((text_decides s.name name).0 is) ∙ ap not none)
      go false is h rest = behind (not (is_named s.name new)) (lost rows) (rest h)

  both : (a b : Bool) → (a && not b) ≡ true → (a ≡ true) × (b ≡ false)
  both true true e = absurd (false≢true e)
  both true false e = (refl, refl)
  both false b e = absurd (false≢true e)

  vanishing : lost old.services ≡ has_some gone
  vanishing = go gone refl (lost old.services) refl
    where
      go : (l : List (List ℕ)) → gone ≡ l → (b : Bool) → lost old.services ≡ b → b ≡ has_some l
      go l is true e = sym (sym (ap has_some is) ∙ finds old.services (λ name f. f) e)
      go [] is false e = refl
      go (n ∷ l) is false e =
          let parts = both (is_named n old) (is_named n new) (sym (told n) ∙ ap (λ g. is_among g n) is ∙ front (same_text n n) (is_among l n) ((text_decides n n).1 refl)) in
          sym e ∙ loses n old.services parts.0 parts.1

-- a change of the node's rows keeps those of the others
module _ (i : ℕ) (c : Command) (is : IsRegistration c) (rows : Rows) (order : InOrder rows) where
  pub step_keeps : KeepsOthers (node_of c) rows (rows_of (step_of i c rows).0)
  unfolding act register unless
  step_keeps = by c is
    where
      by : (c : Command) → IsRegistration c → KeepsOthers (node_of c) rows (rows_of (step_of i c rows).0)
      by (Register node address service checks) h = either (list_any (λ k. not (has_service node (put_given i node service rows.services) k)) (last_of_each checks))
        where
          either : (b : Bool) → KeepsOthers node rows (rows_of (unless (refusal_of ((b, MissingService) ∷ [])) (catalog_of rows) (catalog_of (put_rows i node address service (last_of_each checks) rows), Yes)).0)
          either true = record { order = order; others = refl }
          either false = put_keeps i node address service (last_of_each checks) rows order
      by (Deregister node service check) h = deregister_keeps node rows order service check
      by other h = absurd h

-- a step that changed what is told
module _ (i : ℕ) (c : Command) (old : State) (rows' : Rows) (index' : IndexState) (answer : Applied) (t : Changed) (node : List ℕ) (ready : Ready i old) (order : InOrder old.rows) (keeps : KeepsOthers node old.rows rows') (steps : StepsOnRows i c (whole old)) (does : step_of i c old.rows ≡ (catalog_of rows', answer)) (plain : is_reap c ≡ false) (tells : Tells old.rows rows' t) (marks : Marks i t node (change_of node old.rows rows' t) old.index index') where
  abbrev rows : Rows
  rows = old.rows

  abbrev index : IndexState
  index = old.index

  abbrev mid : IndexState
  mid = marks.between

  abbrev new : State
  new = with_rows old rows' index'

  abbrev n : NodeChange
  n = change_of node rows rows' t

  does_whole : act i c (whole old) ≡ (whole new, answer)
  does_whole = steps ∙ ap (λ (s : Step). (with_lists (whole old) (rows_of s.0), s.1)) does

  was_is : n.was ≡ has_node node (catalog_of rows)
  was_is = there_is node rows

  is_is : n.is ≡ has_node node (catalog_of rows')
  is_is = there_is node rows'

  fired : FiresChanged (fires (whole old) c (whole new)) t node n
  unfolding fires some_vanishes some_node_goes lost
  fired = record {
    nodes = sym tells.nodes;
    services = sym tells.services;
    checks = sym tells.checks;
    names = λ name. sym (tells.names name);
    vanished = vanishing rows rows' t.vanished tells.vanished;
    hosts = host_fires node rows rows' order keeps.order keeps.others t tells;
    host_checks = check_fires node rows rows' order keeps.order keeps.others t tells;
    gone = goes_is node rows rows' order keeps.order keeps.others t tells ∙ (λ j. sym was_is j && not (sym is_is j));
    sessions = same_sessions old.sessions;
    queries = same_queries old.queries;
    keys = λ key. ap not (same_row (kv_at key old.keys.rows));
    prefixes = λ prefix. refl;
    reaped = plain;
  }

  choice : Bool → Bool → Option ℕ → Option ℕ
  choice v g o = cond v None (cond g (Some i) o)

  own_names : (name : List ℕ) → own_position name index'.names ≡ choice (is_among t.vanished name) (is_among t.names name) (own_position name index.names)
  unfolding choice
  own_names name = ap (own_position name) marks.hosts.names ∙ marks.names.own name

  own_after : (name : List ℕ) → is_some (own_position name index'.names) ≡ is_named name rows'
  unfolding choice
  own_after name =
      ap is_some (own_names name ∙ (λ j. choice (tells.vanished name j) (tells.names name j) (own_position name index.names)))
      ∙ go (is_named name rows) refl (is_named name rows') refl (reads_differ rows rows' name) refl (own_position name index.names) (ready.owned.names name)
    where
      same_reads : reads_differ rows rows' name ≡ false → is_named name rows ≡ is_named name rows'
      same_reads e = same_name name (catalog_of rows) (catalog_of rows') (ap (λ k. k.services) ((catalog_decides (service_rows name (catalog_of rows)) (service_rows name (catalog_of rows'))).0 (turn (same_catalog (service_rows name (catalog_of rows)) (service_rows name (catalog_of rows'))) e)))
        where
          turn : (b : Bool) → not b ≡ false → b ≡ true
          turn true h = refl
          turn false h = absurd (true≢false h)

      unnamed : is_named name rows ≡ false → is_named name rows' ≡ false → reads_differ rows rows' name ≡ false
      unnamed a b = ap not ((catalog_decides (service_rows name (catalog_of rows)) (service_rows name (catalog_of rows'))).1 (reads_nothing name rows a ∙ sym (reads_nothing name rows' b)))

      go : (a : Bool) → is_named name rows ≡ a → (b : Bool) → is_named name rows' ≡ b → (d : Bool) → reads_differ rows rows' name ≡ d → (o : Option ℕ) → is_some o ≡ a → is_some (choice (a && not b) d o) ≡ b
      go true ea true eb true ed o eo = refl
      go true ea true eb false ed o eo = eo
      go true ea false eb d ed o eo = refl
      go false ea true eb true ed o eo = refl
      go false ea true eb false ed o eo = absurd (false≢true (sym ea ∙ same_reads ed ∙ eb))
      go false ea false eb true ed o eo = absurd (true≢false (sym ed ∙ unnamed ea eb))
      go false ea false eb false ed o eo = eo

  names_move : (name : List ℕ) → has_name name (whole new) ≡ true → position_of name index'.names ≡ moved i (fires (whole old) c (whole new) (Service name)) (position_of name index.names)
  unfolding choice
  names_move name has =
      own_or_first name index'.names ∙ ap (λ o. unwrap_or o 1) (own_names name)
      ∙ (λ j. unwrap_or (choice ((tells.vanished name ∙ stays (is_named name rows) (is_named name rows') has) j) (is_among t.names name) (own_position name index.names)) 1)
      ∙ go (is_among t.names name)
      ∙ ap (λ b. moved i b (position_of name index.names)) (sym (fired.names name))
    where
      stays : (a b : Bool) → b ≡ true → (a && not b) ≡ false
      stays true true e = refl
      stays true false e = absurd (false≢true e)
      stays false b e = refl

      go : (b : Bool) → unwrap_or (cond b (Some i) (own_position name index.names)) 1 ≡ moved i b (position_of name index.names)
      go true = refl
      go false = sym (own_or_first name index.names)

  -- nodes
  unchanged : n.rows ≡ false → has_node node (catalog_of rows) ≡ has_node node (catalog_of rows')
  unchanged e = same_there (same_text node node) refl
    where
      same_there : (b : Bool) → same_text node node ≡ b → has_node node (catalog_of rows) ≡ has_node node (catalog_of rows')
      same_there b h = ap (λ (l : List NodeRow). list_any (λ r. same_text r.node node) l) ((pointwise_decides node_decides rows.nodes rows'.nodes).0 (turn (pointwise same_node rows.nodes rows'.nodes) (sym tells.nodes ∙ first t.nodes t.services e)))
        where
          first : (a b : Bool) → (a || b) ≡ false → a ≡ false
          first true b h = absurd (true≢false h)
          first false b h = refl

          turn : (b : Bool) → not b ≡ false → b ≡ true
          turn true h = refl
          turn false h = absurd (true≢false h)

  hosts_own : (m : List ℕ) → own_position m index'.hosts ≡ cond (same_text node m) (host_after i n (own_position m index.hosts)) (own_position m index.hosts)
  hosts_own m = marks.hosts.hosts m ∙ ap (λ l. cond (same_text node m) (host_after i n (own_position m l)) (own_position m l)) marks.names.hosts.hosts

  checks_own : (m : List ℕ) → own_position m index'.host_checks ≡ cond (same_text node m) (checks_after i n (own_position m index.host_checks)) (own_position m index.host_checks)
  checks_own m = marks.hosts.host_checks m ∙ ap (λ l. cond (same_text node m) (checks_after i n (own_position m l)) (own_position m l)) marks.names.hosts.host_checks

  own_hosts : (m : List ℕ) → is_some (own_position m index'.hosts) ≡ has_node m (catalog_of rows')
  own_hosts m = ap is_some (hosts_own m) ∙ go (same_text node m) refl
    where
      here : (was is changed : Bool) (o : Option ℕ) → is_some o ≡ was → (changed ≡ false → was ≡ is) → is_some (cond (was && not is) None (cond (is && changed) (Some i) o)) ≡ is
      here true true true o own same = refl
      here true true false o own same = own
      here true false changed o own same = refl
      here false true true o own same = refl
      here false true false o own same = own ∙ same refl
      here false false changed o own same = own

      go : (b : Bool) → same_text node m ≡ b → is_some (cond b (host_after i n (own_position m index.hosts)) (own_position m index.hosts)) ≡ has_node m (catalog_of rows')
      go true e =
          let is_m : node ≡ m = (text_decides node m).0 e in
          here n.was n.is n.rows (own_position m index.hosts)
          (ready.owned.hosts m ∙ ap (λ x. has_node x (catalog_of rows)) (sym is_m) ∙ sym was_is)
          (λ f. was_is ∙ unchanged f ∙ sym is_is)
          ∙ is_is ∙ ap (λ x. has_node x (catalog_of rows')) is_m
      go false e = ready.owned.hosts m ∙ same_has node rows rows' order keeps.order keeps.others m e

  hosts_move : (m : List ℕ) → has_node m (whole new) ≡ true → position_of m index'.hosts ≡ moved i (fires (whole old) c (whole new) (Node m)) (position_of m index.hosts)
  hosts_move m has =
      own_or_first m index'.hosts ∙ ap (λ o. unwrap_or o 1) (hosts_own m) ∙ go (same_text node m) refl
      ∙ ap (λ b. moved i b (position_of m index.hosts)) (sym (fired.hosts m))
    where
      here : (was is changed : Bool) → is ≡ true → unwrap_or (cond (was && not is) None (cond (is && changed) (Some i) (own_position m index.hosts))) 1 ≡ moved i changed (position_of m index.hosts)
      here was false changed e = absurd (false≢true e)
      here true true true e = refl
      here true true false e = sym (own_or_first m index.hosts)
      here false true true e = refl
      here false true false e = sym (own_or_first m index.hosts)

      go : (b : Bool) → same_text node m ≡ b → unwrap_or (cond b (host_after i n (own_position m index.hosts)) (own_position m index.hosts)) 1 ≡ moved i (b && n.rows) (position_of m index.hosts)
      go true e = here n.was n.is n.rows (is_is ∙ ap (λ x. has_node x (catalog_of rows')) ((text_decides node m).0 e) ∙ has)
      go false e = sym (own_or_first m index.hosts)

  checks_move : (m : List ℕ) → has_node m (whole new) ≡ true → has_node m (whole old) ≡ true → position_of m index'.host_checks ≡ moved i (fires (whole old) c (whole new) (NodeChecks m)) (position_of m index.host_checks)
  checks_move m has had =
      own_or_first m index'.host_checks ∙ ap (λ o. unwrap_or o 1) (checks_own m) ∙ go (same_text node m) refl
      ∙ ap (λ b. moved i b (position_of m index.host_checks)) (sym (fired.host_checks m))
    where
      here : (was is changed : Bool) → is ≡ true → unwrap_or (cond (was && not is) None (cond (is && changed) (Some i) (own_position m index.host_checks))) 1 ≡ moved i changed (position_of m index.host_checks)
      here was false changed e = absurd (false≢true e)
      here true true true e = refl
      here true true false e = sym (own_or_first m index.host_checks)
      here false true true e = refl
      here false true false e = sym (own_or_first m index.host_checks)

      go : (b : Bool) → same_text node m ≡ b → unwrap_or (cond b (checks_after i n (own_position m index.host_checks)) (own_position m index.host_checks)) 1 ≡ moved i (b && n.checks) (position_of m index.host_checks)
      go true e = here n.was n.is n.checks (is_is ∙ ap (λ x. has_node x (catalog_of rows')) ((text_decides node m).0 e) ∙ has)
      go false e = sym (own_or_first m index.host_checks)

  few_checks : (m : List ℕ) → position_of m index'.host_checks ≤ i
  few_checks m = subst (λ x. x ≤ i) (sym (own_or_first m index'.host_checks ∙ ap (λ o. unwrap_or o 1) (checks_own m))) (go (same_text node m) (goes n) (n.is && n.checks) (ready.within.host_checks m))
    where
      go : (b g k : Bool) → unwrap_or (own_position m index.host_checks) 1 ≤ i → unwrap_or (cond b (cond g None (cond k (Some i) (own_position m index.host_checks))) (own_position m index.host_checks)) 1 ≤ i
      go true true k h = ready.least
      go true false true h = omega arith
      go true false false h = h
      go false g k h = h

  pub changed_step : RowStep i c old rows' index' answer (all_chans t node n)
  changed_step = record {
    does = does_whole;
    moves = record {
      indexes = same_keys i c old.keys plain;
      fires = changed_just (fires (whole old) c (whole new)) t node n fired tells.names_once;
      positions = record {
        nodes = marks.hosts.tables.nodes ∙ marks.names.nodes ∙ ap (λ b. moved i b index.nodes) (sym fired.nodes);
        services = marks.hosts.tables.services ∙ marks.names.services ∙ ap (λ b. moved i b index.services) (sym fired.services);
        checks = marks.hosts.tables.checks ∙ marks.names.checks ∙ ap (λ b. moved i b index.checks) (sym fired.checks);
        sessions = marks.hosts.tables.sessions ∙ marks.names.sessions ∙ ap (λ b. moved i b index.sessions) (sym fired.sessions);
        queries = marks.hosts.tables.queries ∙ marks.names.queries ∙ ap (λ b. moved i b index.queries) (sym fired.queries);
        names = names_move;
        own = own_after;
        vanished = marks.hosts.vanished ∙ marks.names.vanished ∙ ap (λ b. moved i b index.vanished) (sym fired.vanished);
        hosts = hosts_move;
        own_hosts = own_hosts;
        host_checks = checks_move;
        few = few_checks;
        gone = marks.hosts.gone ∙ (λ j. moved i (sym fired.gone j) (marks.names.hosts.gone j));
      };
      order = ready.order;
      fit = fit_later i old.queries ready.fit;
    };
  }

-- the commands
pub registers : (c : Command) → IsRegister c → IsRegistration c
registers (Register node address service checks) h = tt
registers other h = absurd h

pub plain_registration : (c : Command) → IsRegistration c → is_reap c ≡ false
plain_registration (Register node address service checks) h = refl
plain_registration (Deregister node service check) h = refl
plain_registration other h = absurd h

module _ (i : ℕ) (c : Command) (is : IsRegistration c) (old : State) (ready : Ready i old) (order : InOrder old.rows) where
  pub registration_step : (rows' : Rows) (index' : IndexState) (answer : Applied) (t : Changed) (node : List ℕ) (n : NodeChange) (chans : List Chan) → node_of c ≡ node → step_of i c old.rows ≡ (catalog_of rows', answer) → Tells old.rows rows' t → n ≡ change_of node old.rows rows' t → Marks i t node n old.index index' → chans ≡ all_chans t node n → RowStep i c old rows' index' answer chans
  registration_step rows' index' answer t node n chans named does tells is_n marks are =
      subst (RowStep i c old rows' index' answer) (sym (are ∙ ap (all_chans t node) is_n))
      (changed_step i c old rows' index' answer t node ready order
      (subst (λ x. KeepsOthers x old.rows rows') named (subst (λ (r : Rows). KeepsOthers (node_of c) old.rows r) (ap (λ (s : Step). rows_of s.0) does) (step_keeps i c is old.rows order)))
      (other_lists i c (whole old) is) does (plain_registration c is) tells (subst (λ x. Marks i t node x old.index index') is_n marks))

  -- one that is refused
  pub refused_step : (rows' : Rows) (answer : Applied) (chans : List Chan) → step_of i c old.rows ≡ (catalog_of old.rows, answer) → rows' ≡ old.rows → chans ≡ [] → RowStep i c old rows' old.index answer chans
  refused_step rows' answer chans does same none =
      subst (λ (r : Rows). RowStep i c old r old.index answer chans) (sym same)
      (subst (RowStep i c old old.rows old.index answer) (sym none)
      (still_row i c old ready answer (plain_registration c is) (other_lists i c (whole old) is ∙ ap (λ (s : Step). (with_lists (whole old) (rows_of s.0), s.1)) does)))
