-- Steps that leave nodes, services and checks.
use Rattle.std.proofs.Common.{◌≡◌, ◌≢◌, ℕ, ◌+◌, ◌<◌, ◌≤◌, Bool, true, false, not, cond, ◌&&◌, ◌||◌, List, [], ◌∷◌, ◌++◌, refl, sym, ◌∙◌, ap, subst, Option, Some, None, is_some, filter, arith, Contains, map}
use Rattle.std.specs.List.{AllByRecursion, filter_map, cons_option, list_any}
use Rattle.std.specs.Ordering.{nat_cmp}
use Rattle.std.specs.Cmp.Lexicographic.{pointwise}
use Rattle.std.proofs.lemmas.Bool.{false≢true}
use Rattle.std.proofs.lemmas.List.Elements.{Contains-append_left, Contains-append_right}
use Rattle.cat_model.specs.Keys.{same_text}
use Rattle.cat_model.specs.Tables.{Ascends}
use Rattle.cat_model.specs.Same.{same_node, same_service, same_check, same_session, same_query}
use Rattle.cat_model.specs.Catalog.{kv_at, session_key}
use Rattle.cat_model.specs.Machine.{Step, act, apply, broken, freed, freed_row, freed_key, ended_holder, end_sessions, ends, names}
use Rattle.cat_model.specs.Queries.{service_rows, node_rows, checks_of}
use Rattle.cat_model.specs.Indexes.{has_name, has_node, some_vanishes, some_node_goes, is_reap}
use Rattle.cat_model.specs.KvIndexes.{buried, tombs_after, floor_after}
use Rattle.cat_model.specs.Channels.{fires}
use Rattle.cat_model.specs.Views.{moved, position_of}
use Rattle.cat_model.specs.declared.row.KvRow.{KvRow}
use Rattle.cat_model.specs.declared.row.ServiceRow.{ServiceRow}
use Rattle.cat_model.specs.declared.row.SessionRow.{SessionRow}
use Rattle.cat_model.specs.declared.row.QueryRow.{QueryRow}
use Rattle.cat_model.specs.declared.query.Chan.{Chan}
use Rattle.cat_model.specs.declared.query.Chan.TheVariants.{Nodes, Services, Checks, Sessions, Queries, Service, Vanished, Node, NodeChecks, NodeGone, Key, Prefix, Reaped}
use Rattle.cat_model.specs.declared.applied.Applied.{Applied}
use Rattle.cat_model.specs.declared.fired.Fired.{Fired}
use Rattle.cat_model.specs.declared.command.Command.{Command}
use Rattle.cat_model.specs.declared.command.Command.TheVariants.{SessionDestroy}
use Rattle.catalog_store.specs.Making.{ends_none}
use Rattle.cat_model.proofs.SameLemmas.{text_decides, node_decides, service_decides, check_decides, session_decides, query_decides, catalog_decides}
use Rattle.cat_model.proofs.TableLemmas.{All-weaker, All-append}
use Rattle.kv_table.specs.States.{KvState}
use Rattle.catalog_table.specs.Rows.{catalog_of}
use Rattle.catalog_table.proofs.Parts.{filter_all}
use Rattle.catalog_store.specs.Firing.{Once, FiresJust}
use Rattle.catalog_store.specs.Steps.{SameIndexes}
use Rattle.catalog_store.proofs.Fires.{same_row, fires_none}
use Rattle.catalog_store.proofs.Tombs.{own_row, buried_none}
use Rattle.catalog_store.specs.States.{State, whole}
use Rattle.catalog_store.specs.Standing.{Ready, QueriesFit}
use Rattle.catalog_store.specs.Whole.{Acts, ActsWhole, MovesAll, PositionsMove, TablesStep}
use Rattle.catalog_store.specs.Ending.{sessions_differ, queries_differ, still_fires, still_index}
use Rattle.catalog_store.proofs.Marking.{own_or_first}
use Rattle.catalog_store.proofs.NodeFires.{all_there}

-- queries that were written before a position were before the next one
pub fit_later : (i : ℕ) (queries : List QueryRow) → QueriesFit i queries → QueriesFit (i + 1) queries
fit_later i queries fit = record { once = fit.once; earlier = All-weaker (λ (q : QueryRow). q.modify < i) (λ (q : QueryRow). q.modify < i + 1) (λ q h. omega (arith, h)) queries fit.earlier }

-- the keys that stay have the same indexes
pub same_keys : (i : ℕ) (c : Command) (kv : KvState) → is_reap c ≡ false → SameIndexes kv.rows (cond (is_reap c) [] (buried i kv.rows kv.rows kv.tombs)) (cond (is_reap c) i kv.floor) kv.tombs kv.floor
same_keys i c kv plain = subst (λ b. SameIndexes kv.rows (cond b [] (buried i kv.rows kv.rows kv.tombs)) (cond b i kv.floor) kv.tombs kv.floor) (sym plain) (subst (λ tombs. SameIndexes kv.rows tombs kv.floor kv.tombs kv.floor) (sym (buried_none i kv.rows kv.rows kv.tombs (own_row kv.rows))) (record { keys = λ key. refl; prefixes = λ prefix. refl }))

-- 1. What stays the same.
pub pointwise_same : {A : Type 0} (same : A → A → Bool) → ((a : A) → same a a ≡ true) → (xs : List A) → pointwise same xs xs ≡ true
pointwise_same same own [] = refl
pointwise_same same own (x ∷ xs) = ap (λ b. b && pointwise same xs xs) (own x) ∙ pointwise_same same own xs

pub same_sessions : (l : List SessionRow) → sessions_differ l l ≡ false
same_sessions l = ap not (pointwise_same same_session (λ r. (session_decides r r).1 refl) l)

pub same_queries : (l : List QueryRow) → queries_differ l l ≡ false
same_queries l = ap not (pointwise_same same_query (λ r. (query_decides r r).1 refl) l)

named : (rows : List ServiceRow) → AllByRecursion (λ s. list_any (λ t. same_text t.name s.name) rows ≡ true) rows
named [] = tt
named (x ∷ rows) = (first (same_text x.name x.name) ((text_decides x.name x.name).1 refl), All-weaker (λ s. list_any (λ t. same_text t.name s.name) rows ≡ true) (λ s. list_any (λ t. same_text t.name s.name) (x ∷ rows) ≡ true) (λ (s : ServiceRow) e. behind (same_text x.name s.name) (list_any (λ t. same_text t.name s.name) rows) e) rows (named rows))
  where
    first : (b : Bool) → b ≡ true → (b || list_any (λ t. same_text t.name x.name) rows) ≡ true
    first true e = refl
    first false e = absurd (false≢true e)

    behind : (b d : Bool) → d ≡ true → (b || d) ≡ true
    behind true d e = refl
    behind false d e = e

none_lost : {A : Type 0} (f : A → Bool) (rows : List A) → AllByRecursion (λ r. f r ≡ true) rows → list_any (λ r. not (f r)) rows ≡ false
none_lost f [] h = refl
none_lost f (r ∷ rows) h = ap (λ b. not b || list_any (λ s. not (f s)) rows) h.0 ∙ none_lost f rows h.1

-- 2. Lists of channels.
pub just_same : (f g : Chan → Bool) (chans : List Chan) → ((chan : Chan) → f chan ≡ g chan) → FiresJust g chans → FiresJust f chans
just_same f g chans same h = record {
  every = λ chan e. h.every chan (sym (same chan) ∙ e);
  just = All-weaker (λ chan. g chan ≡ true) (λ chan. f chan ≡ true) (λ chan e. same chan ∙ e) chans h.just;
  once = h.once;
}

module _ (f g : Chan → Bool) (apart : (chan : Chan) → f chan ≡ true → g chan ≡ false) where
  once_both : (a b : List Chan) → AllByRecursion (λ chan. f chan ≡ true) a → AllByRecursion (λ chan. g chan ≡ true) b → Once a → Once b → Once (a ++ b)
  once_both [] b fa gb oa ob = ob
  once_both (x ∷ a) b fa gb oa ob = (All-append (λ d. d ≢ x) a b oa.0 (All-weaker (λ d. g d ≡ true) (λ d. d ≢ x) other b gb), once_both a b fa.1 gb oa.1 ob)
    where
      other : (d : Chan) → g d ≡ true → d ≢ x
      other d e is = absurd (false≢true (sym (apart x fa.0) ∙ ap g (sym is) ∙ e))

  pub just_both : (h : Chan → Bool) (a b : List Chan) → ((chan : Chan) → h chan ≡ (f chan || g chan)) → FiresJust f a → FiresJust g b → FiresJust h (a ++ b)
  just_both h a b is ja jb = record {
    every = λ chan e. go chan (f chan) refl (sym (is chan) ∙ e);
    just = All-append (λ chan. h chan ≡ true) a b (All-weaker (λ chan. f chan ≡ true) (λ chan. h chan ≡ true) (λ chan e. is chan ∙ ap (λ t. t || g chan) e) a ja.just) (All-weaker (λ chan. g chan ≡ true) (λ chan. h chan ≡ true) (λ chan e. is chan ∙ ap (λ t. f chan || t) e ∙ late (f chan)) b jb.just);
    once = once_both a b ja.just jb.just ja.once jb.once;
  }
    where
      late : (t : Bool) → (t || true) ≡ true
      late true = refl
      late false = refl

      go : (chan : Chan) (t : Bool) → f chan ≡ t → (f chan || g chan) ≡ true → Contains (a ++ b) chan
      go chan true e h = Contains-append_left a b chan (ja.every chan e)
      go chan false e h = Contains-append_right a b chan (jb.every chan (sym (ap (λ t. t || g chan) e) ∙ h))

-- 3. Positions and channels of a step that leaves nodes, services and checks.
module _ (i : ℕ) (c : Command) (old : State) (ready : Ready i old) (version' : ℕ) (keys' : KvState) (sessions' : List SessionRow) (queries' : List QueryRow) where
  abbrev pub still : State
  still = record { version = version'; keys = keys'; rows = old.rows; sessions = sessions'; queries = queries'; index = still_index i old sessions' queries' }

  pub still_is : (chan : Chan) → fires (whole old) c (whole still) chan ≡ still_fires (is_reap c) old still chan
  unfolding fires some_vanishes some_node_goes
  still_is Nodes = ap not (pointwise_same same_node (λ r. (node_decides r r).1 refl) old.rows.nodes)
  still_is Services = ap not (pointwise_same same_service (λ r. (service_decides r r).1 refl) old.rows.services)
  still_is Checks = ap not (pointwise_same same_check (λ r. (check_decides r r).1 refl) old.rows.checks)
  still_is Sessions = refl
  still_is Queries = refl
  still_is (Service name) = ap not ((catalog_decides (service_rows name (whole old)) (service_rows name (whole old))).1 refl)
  still_is Vanished = none_lost (λ (s : ServiceRow). has_name s.name (whole old)) old.rows.services (named old.rows.services)
  still_is (Node node) = ap not ((catalog_decides (node_rows node (whole old)) (node_rows node (whole old))).1 refl)
  still_is (NodeChecks node) = ap not (pointwise_same same_check (λ r. (check_decides r r).1 refl) (checks_of node (whole old)))
  still_is NodeGone = none_lost (λ r. has_node r.node (whole old)) old.rows.nodes (all_there old.rows.nodes)
  still_is (Key key) = refl
  still_is (Prefix prefix) = refl
  still_is Reaped = refl

  stays : (chan : Chan) (at : ℕ) → still_fires (is_reap c) old still chan ≡ false → at ≡ moved i (fires (whole old) c (whole still) chan) at
  stays chan at quiet = sym (ap (λ b. moved i b at) (still_is chan ∙ quiet))

  pub still_positions : PositionsMove i (whole old) c (whole still) old.index (still_index i old sessions' queries')
  still_positions = record {
    nodes = stays Nodes old.index.nodes refl;
    services = stays Services old.index.services refl;
    checks = stays Checks old.index.checks refl;
    sessions = ap (λ b. moved i b old.index.sessions) (sym (still_is Sessions));
    queries = ap (λ b. moved i b old.index.queries) (sym (still_is Queries));
    names = λ name has. stays (Service name) (position_of name old.index.names) refl;
    own = ready.owned.names;
    vanished = stays Vanished old.index.vanished refl;
    hosts = λ node has. stays (Node node) (position_of node old.index.hosts) refl;
    own_hosts = ready.owned.hosts;
    host_checks = λ node has had. stays (NodeChecks node) (position_of node old.index.host_checks) refl;
    few = λ node. subst (λ n. n ≤ i) (sym (own_or_first node old.index.host_checks)) (ready.within.host_checks node);
    gone = stays NodeGone old.index.gone refl;
  }

  pub still_acts : (answer : Applied) (chans : List Chan) → act i c (whole old) ≡ (whole still, answer) → SameIndexes keys'.rows (tombs_after i c old.keys.rows keys'.rows old.keys.tombs) (floor_after i c old.keys.floor) keys'.tombs keys'.floor → FiresJust (still_fires (is_reap c) old still) chans → Ascends nat_cmp session_key sessions' → QueriesFit (i + 1) queries' → Acts i c old still answer chans
  still_acts answer chans does indexes fires order fit = record {
    does = does;
    moves = record {
      indexes = indexes;
      fires = just_same _ _ chans still_is fires;
      positions = still_positions;
      order = order;
      fit = fit;
    };
  }

-- nothing changes
module _ (i : ℕ) (c : Command) (old : State) (ready : Ready i old) (answer : Applied) (plain : is_reap c ≡ false) (does : act i c (whole old) ≡ (whole old, answer)) where
  none_fires : (chan : Chan) → still_fires (is_reap c) old (still i c old ready old.version old.keys old.sessions old.queries) chan ≡ false
  none_fires Sessions = same_sessions old.sessions
  none_fires Queries = same_queries old.queries
  none_fires (Key key) = ap not (same_row (kv_at key old.keys.rows))
  none_fires Reaped = plain
  none_fires other = refl

  pub still_same : still i c old ready old.version old.keys old.sessions old.queries ≡ old
  still_same = λ j. record old { index = record old.index { sessions = moved i (same_sessions old.sessions j) old.index.sessions; queries = moved i (same_queries old.queries j) old.index.queries } }

  pub still_row : Acts i c old old answer []
  still_row =
      subst (λ (s : State). Acts i c old s answer []) still_same
      (still_acts i c old ready old.version old.keys old.sessions old.queries answer [] does (same_keys i c old.keys plain) (fires_none _ none_fires) ready.order (fit_later i old.queries ready.fit))

-- 4. No session ends where none is broken.
none_held : (o : Option ℕ) → ended_holder [] o ≡ None
none_held None = refl
none_held (Some id) = refl

no_end : (i : ℕ) (rows : List KvRow) → filter_map (λ r. freed_row i r (ended_holder [] r.session)) rows ≡ rows
no_end i [] = refl
no_end i (r ∷ rows) = ap (λ o. cons_option (freed_row i r o) (filter_map (λ s. freed_row i s (ended_holder [] s.session)) rows)) (none_held r.session) ∙ ap (λ l. r ∷ l) (no_end i rows)

none_freed : (rows : List KvRow) → filter_map (λ r. freed_key r (ended_holder [] r.session)) rows ≡ []
none_freed [] = refl
none_freed (r ∷ rows) = ap (λ o. cons_option (freed_key r o) (filter_map (λ s. freed_key s (ended_holder [] s.session)) rows)) (none_held r.session) ∙ none_freed rows

pub no_orphan : (rows : List QueryRow) → filter (λ q. not (is_some (ended_holder [] q.session))) rows ≡ rows
no_orphan [] = refl
no_orphan (q ∷ rows) = ap (λ o. cond (not (is_some o)) (q ∷ filter (λ p. not (is_some (ended_holder [] p.session))) rows) (filter (λ p. not (is_some (ended_holder [] p.session))) rows)) (none_held q.session) ∙ ap (λ l. q ∷ l) (no_orphan rows)

none_ends : (i : ℕ) (s : State) → end_sessions i [] (whole s) ≡ whole s
unfolding end_sessions
none_ends i s = λ j. record (whole s) { sessions = filter_all s.sessions j; kv = no_end i s.keys.rows j; queries = no_orphan s.queries j }

module _ (i : ℕ) (c : Command) (old new : State) (answer : Applied) (chans : List Chan) (h : ActsWhole i c old new answer chans) (spares : (s : SessionRow) → names c s ≡ false) where
  nobody : (sessions : List SessionRow) → AllByRecursion (λ s. broken (catalog_of new.rows) s ≡ false) sessions → filter (ends c (whole new)) sessions ≡ []
  unfolding broken
  nobody [] w = refl
  nobody (s ∷ sessions) w = (λ j. cond ((w.0 j) || spares s j) (s ∷ filter (ends c (whole new)) sessions) (filter (ends c (whole new)) sessions)) ∙ nobody sessions w.1

  pub still_tables : (fired : Fired) → fired.chans ≡ chans → fired.freed ≡ [] → TablesStep i c old new answer fired
  unfolding apply freed
  still_tables fired is none = record {
    does =
        ap (λ (done : Step). (end_sessions i (filter (ends c done.0) done.0.sessions) done.0, done.1)) h.acts.does
        ∙ (λ j. (end_sessions i (nobody new.sessions h.whole j) (whole new), answer)) ∙ (λ j. (none_ends i new j, answer));
    frees =
        ap (map (λ f. (f.key, f.delay_ms))) none
        ∙ sym (ap (λ (done : Step). filter_map (λ r. freed_key r (ended_holder (filter (ends c done.0) done.0.sessions) r.session)) done.0.kv) h.acts.does
        ∙ (λ j. filter_map (λ r. freed_key r (ended_holder (nobody new.sessions h.whole j) r.session)) new.keys.rows) ∙ none_freed new.keys.rows);
    moves = subst (MovesAll i c old new) (sym is) h.acts.moves;
  }

pub spares_all : (c : Command) → ends_none c ≡ true → (s : SessionRow) → names c s ≡ false
spares_all (SessionDestroy id) h s = absurd (false≢true h)
spares_all other h s = refl
