-- A step after which sessions end.
use Rattle.std.proofs.Common.{◌≡◌, ℕ, ◌+◌, ◌<◌, Bool, true, false, not, cond, ◌&&◌, ◌||◌, List, [], ◌∷◌, ◌++◌, refl, sym, ◌∙◌, ap, subst, Some, is_some, filter, nat_eq}
use Rattle.std.specs.List.{AllByRecursion, filter_map, cons_option, list_any}
use Rattle.std.specs.Ordering.{nat_cmp}
use Rattle.std.proofs.lemmas.Bool.{false≢true, true≢false}
use Rattle.std.proofs.lemmas.Bool.Decides.{Decides-eqb}
use Rattle.std.proofs.lemmas.Cmp.{nat_cmp_total}
use Rattle.cat_model.specs.Keys.{same_text, pair_cmp}
use Rattle.cat_model.specs.Tables.{Ascends, row_at}
use Rattle.cat_model.specs.Catalog.{Catalog, kv_at, check_at, check_key, session_at, session_key}
use Rattle.cat_model.specs.Machine.{Step, act, apply, broken, check_refusal, checks_refusal, freed, freed_key, ended_holder, end_sessions, ends, names, other_has_name}
use Rattle.cat_model.specs.Indexes.{some_vanishes, some_node_goes, is_reap}
use Rattle.cat_model.specs.Channels.{fires}
use Rattle.cat_model.specs.Views.{moved}
use Rattle.cat_model.specs.KvIndexes.{buried}
use Rattle.cat_model.specs.declared.row.SessionRow.{SessionRow}
use Rattle.cat_model.specs.declared.row.QueryRow.{QueryRow}
use Rattle.cat_model.specs.declared.query.Chan.{Chan}
use Rattle.cat_model.specs.declared.query.Chan.TheVariants.{Nodes, Services, Checks, Sessions, Queries, Service, Vanished, Node, NodeChecks, NodeGone, Key, Prefix, Reaped}
use Rattle.cat_model.specs.declared.applied.Applied.{Applied}
use Rattle.cat_model.specs.declared.fired.Fired.{Fired}
use Rattle.cat_model.specs.declared.command.Command.{Command}
use Rattle.cat_model.proofs.SameLemmas.{text_decides}
use Rattle.cat_model.proofs.TableLemmas.{All-weaker, All-filter, Ascends-filter, row_at-filter}
use Rattle.cat_model.proofs.Pairs.{pair_cmp_total, exact_pair}
use Rattle.kv_table.specs.States.{KvState}
use Rattle.catalog_table.specs.Rows.{Rows, catalog_of, InOrder, off_node}
use Rattle.session_table.specs.Nodes.{is_of_node}
use Rattle.touch_positions.specs.States.{IndexState}
use Rattle.catalog_store.specs.Firing.{FiresJust, keys_fire}
use Rattle.catalog_store.specs.Steps.{SameIndexes}
use Rattle.catalog_store.proofs.Fires.{same_row, fires_one, fires_none}
use Rattle.catalog_store.specs.States.{State, whole}
use Rattle.catalog_store.specs.Standing.{Ready, QueriesFit}
use Rattle.catalog_store.specs.Whole.{PositionsMove, TablesStep}
use Rattle.catalog_store.specs.Registering.{RowStep, one_if, with_rows}
use Rattle.catalog_store.specs.Ending.{Ends, is_gone, is_orphan, sessions_differ, queries_differ, still_fires, still_index}
use Rattle.catalog_table.specs.Rows.{rows_of}
use Rattle.catalog_table.specs.Steps.{IsRegistration}
use Rattle.catalog_table.proofs.Keeping.{KeepsOthers}
use Rattle.catalog_table.proofs.OtherLists.{other_lists}
use Rattle.cat_model.specs.declared.command.Command.TheVariants.{Register, Deregister, SessionDestroy}
use Rattle.cat_model.specs.declared.applied.Applied.TheVariants.{Yes}
use Rattle.std.specs.declared.cmp.Ordering.TheVariants.{Less}
use Rattle.catalog_store.specs.Registering.{node_of}
use Rattle.catalog_store.proofs.RowSteps.{step_keeps, plain_registration}
use Rattle.catalog_store.proofs.Loops.{eq_same, eqb_turned, less_differs}
use Rattle.catalog_store.proofs.Quiet.{still_row}
use Rattle.catalog_store.proofs.NodeFires.{there_is, same_has, same_host_checks}
use Rattle.catalog_store.proofs.Quiet.{same_sessions, same_queries, just_both}

-- 1. Queries that stay.
pub any_fewer : {A : Type 0} (test keep : A → Bool) (xs : List A) → list_any test xs ≡ false → list_any test (filter keep xs) ≡ false
any_fewer test keep [] h = refl
any_fewer test keep (x ∷ xs) h = go (keep x) (test x) refl h (any_fewer test keep xs)
  where
    go : (k t : Bool) → test x ≡ t → (t || list_any test xs) ≡ false → (list_any test xs ≡ false → list_any test (filter keep xs) ≡ false) → list_any test (cond k (x ∷ filter keep xs) (filter keep xs)) ≡ false
    go k true e h ih = absurd (true≢false h)
    go true false e h ih = ap (λ b. b || list_any test (filter keep xs)) e ∙ ih h
    go false false e h ih = ih h

pub fit_kept : (i : ℕ) (keep : QueryRow → Bool) (queries : List QueryRow) → QueriesFit i queries → QueriesFit i (filter keep queries)
fit_kept i keep queries fit = record {
  once = All-weaker (λ q. other_has_name q queries ≡ false) (λ q. other_has_name q (filter keep queries) ≡ false) fewer (filter keep queries) (All-filter (λ q. other_has_name q queries ≡ false) keep queries fit.once);
  earlier = All-filter (λ q. q.modify < i) keep queries fit.earlier;
}
  where
    fewer : (q : QueryRow) → other_has_name q queries ≡ false → other_has_name q (filter keep queries) ≡ false
    fewer q h = go _ h
      where
        go : (b : Bool) → (b && list_any (λ r. not (nat_eq r.id q.id) && same_text r.name q.name) queries) ≡ false → (b && list_any (λ r. not (nat_eq r.id q.id) && same_text r.name q.name) (filter keep queries)) ≡ false
        go true h = any_fewer (λ r. not (nat_eq r.id q.id) && same_text r.name q.name) keep queries h
        go false h = refl

-- 2. Sessions of other nodes are not broken.
or_none : (b : Bool) → (b || false) ≡ b
or_none true = refl
or_none false = refl

module _ (node : List ℕ) (old new : Rows) (old_order : InOrder old) (new_order : InOrder new) (others : off_node node old ≡ off_node node new) where
  same_check_at : (m id : List ℕ) → same_text node m ≡ false → check_at (m, id) old.checks ≡ check_at (m, id) new.checks
  same_check_at m id other =
      let own : same_text m m ≡ true = (text_decides m m).1 refl in
      sym (row_at-filter pair_cmp check_key pair_cmp_total exact_pair (λ k. same_text k.0 m) (m, id) own old.checks)
      ∙ ap (row_at pair_cmp check_key (m, id)) (same_host_checks node old new old_order new_order others m other)
      ∙ row_at-filter pair_cmp check_key pair_cmp_total exact_pair (λ k. same_text k.0 m) (m, id) own new.checks

  same_refusal : (m : List ℕ) → same_text node m ≡ false → (ids : List (List ℕ)) → checks_refusal m ids old.checks ≡ checks_refusal m ids new.checks
  same_refusal m other [] = refl
  same_refusal m other (id ∷ ids) = λ j. check_refusal (same_check_at m id other j) (same_refusal m other ids j)

  same_broken : (s : SessionRow) → same_text node s.node ≡ false → broken (catalog_of old) s ≡ broken (catalog_of new) s
  unfolding broken
  same_broken s other =
      λ j. not ((there_is s.node old ∙ same_has node old new old_order new_order others s.node other ∙ sym (there_is s.node new)) j) || is_some (same_refusal s.node other s.checks j)

  turned : (a b : List ℕ) → same_text a b ≡ false → same_text b a ≡ false
  turned a b e = go (same_text b a) refl
    where
      go : (t : Bool) → same_text b a ≡ t → t ≡ false
      go true is = absurd (true≢false (sym ((text_decides a b).1 (sym ((text_decides b a).0 is))) ∙ e))
      go false is = refl

  pub broken_here : (sessions : List SessionRow) → AllByRecursion (λ s. broken (catalog_of old) s ≡ false) sessions → filter (broken (catalog_of new)) (filter (is_of_node node) sessions) ≡ filter (broken (catalog_of new)) sessions
  broken_here [] h = refl
  broken_here (s ∷ sessions) h = go (same_text s.node node) refl (broken_here sessions h.1)
    where
      rest : List SessionRow
      rest = filter (is_of_node node) sessions

      go : (b : Bool) → same_text s.node node ≡ b → filter (broken (catalog_of new)) rest ≡ filter (broken (catalog_of new)) sessions → filter (broken (catalog_of new)) (cond b (s ∷ rest) rest) ≡ cond (broken (catalog_of new) s) (s ∷ filter (broken (catalog_of new)) sessions) (filter (broken (catalog_of new)) sessions)
      go true e ih = ap (λ l. cond (broken (catalog_of new) s) (s ∷ l) l) ih
      go false e ih = ih ∙ sym (ap (λ b. cond b (s ∷ filter (broken (catalog_of new)) sessions) (filter (broken (catalog_of new)) sessions)) (sym (same_broken s (turned s.node node e)) ∙ h.0))

-- 3. The step.
module _ (i : ℕ) (c : Command) (old : State) (rows' : Rows) (index' : IndexState) (answer : Applied) (chans : List Chan) (ready : Ready i old) (plain : is_reap c ≡ false) (acts : RowStep i c old rows' index' answer chans) (gone : List SessionRow) where
  abbrev mid : State
  mid = with_rows old rows' index'

  module _ (gone_is : gone ≡ filter (ends c (whole mid)) old.sessions) where
    module _ (keys' : KvState) (sessions' : List SessionRow) (queries' : List QueryRow) (ended : Fired) where
      abbrev shape : State
      shape = record { version = old.version; keys = keys'; rows = rows'; sessions = sessions'; queries = queries'; index = still_index i mid sessions' queries' }

      module _ (h : Ends i gone mid shape ended) where
        ended_whole : whole shape ≡ end_sessions i gone (whole mid)
        unfolding end_sessions
        ended_whole = λ j. record (whole mid) { kv = h.keys j; sessions = h.sessions j; queries = h.queries j }

        either : (chan : Chan) → fires (whole old) c (whole shape) chan ≡ (fires (whole old) c (whole mid) chan || still_fires false mid shape chan)
        unfolding fires some_vanishes some_node_goes
        either Sessions = sym (ap (λ b. b || sessions_differ old.sessions sessions') (same_sessions old.sessions))
        either Queries = sym (ap (λ b. b || queries_differ old.queries queries') (same_queries old.queries))
        either (Key key) = sym (ap (λ b. b || still_fires false mid shape (Key key)) (ap not (same_row (kv_at key old.keys.rows))))
        either Reaped = sym (or_none (is_reap c))
        either (Prefix prefix) = refl
        either Nodes = sym (or_none (fires (whole old) c (whole mid) Nodes))
        either Services = sym (or_none (fires (whole old) c (whole mid) Services))
        either Checks = sym (or_none (fires (whole old) c (whole mid) Checks))
        either (Service name) = sym (or_none (fires (whole old) c (whole mid) (Service name)))
        either Vanished = sym (or_none (fires (whole old) c (whole mid) Vanished))
        either (Node node) = sym (or_none (fires (whole old) c (whole mid) (Node node)))
        either (NodeChecks node) = sym (or_none (fires (whole old) c (whole mid) (NodeChecks node)))
        either NodeGone = sym (or_none (fires (whole old) c (whole mid) NodeGone))

        never : (b d : Bool) → b ≡ false → b ≡ true → d ≡ false
        never b d e f = absurd (false≢true (sym e ∙ f))

        apart : (chan : Chan) → fires (whole old) c (whole mid) chan ≡ true → still_fires false mid shape chan ≡ false
        unfolding fires
        apart Sessions e = never _ _ (same_sessions old.sessions) e
        apart Queries e = never _ _ (same_queries old.queries) e
        apart (Key key) e = never _ _ (ap not (same_row (kv_at key old.keys.rows))) e
        apart Reaped e = refl
        apart other e = refl

        positions : PositionsMove i (whole old) c (whole shape) old.index shape.index
        unfolding fires some_vanishes some_node_goes
        positions = record {
          nodes = acts.moves.positions.nodes;
          services = acts.moves.positions.services;
          checks = acts.moves.positions.checks;
          sessions = ap (moved i (sessions_differ old.sessions sessions')) (acts.moves.positions.sessions ∙ ap (λ b. moved i b old.index.sessions) (same_sessions old.sessions));
          queries = ap (moved i (queries_differ old.queries queries')) (acts.moves.positions.queries ∙ ap (λ b. moved i b old.index.queries) (same_queries old.queries));
          names = acts.moves.positions.names;
          own = acts.moves.positions.own;
          vanished = acts.moves.positions.vanished;
          hosts = acts.moves.positions.hosts;
          own_hosts = acts.moves.positions.own_hosts;
          host_checks = acts.moves.positions.host_checks;
          few = acts.moves.positions.few;
          gone = acts.moves.positions.gone;
        }

        shaped_step : TablesStep i c old shape answer (record { chans = chans ++ ended.chans; freed = ended.freed })
        unfolding apply freed
        shaped_step = record {
          does =
              ap (λ (done : Step). (end_sessions i (filter (ends c done.0) done.0.sessions) done.0, done.1)) acts.does
              ∙ (λ j. (end_sessions i (sym gone_is j) (whole mid), answer)) ∙ (λ j. (sym ended_whole j, answer));
          frees =
              h.frees
              ∙ sym (ap (λ (done : Step). filter_map (λ r. freed_key r (ended_holder (filter (ends c done.0) done.0.sessions) r.session)) done.0.kv) acts.does
              ∙ (λ j. filter_map (λ r. freed_key r (ended_holder (sym gone_is j) r.session)) old.keys.rows));
          moves = record {
            indexes = subst (λ b. SameIndexes keys'.rows (cond b [] (buried i keys'.rows old.keys.rows old.keys.tombs)) (cond b i old.keys.floor) keys'.tombs keys'.floor) (sym plain) h.indexes;
            fires = just_both (fires (whole old) c (whole mid)) (still_fires false mid shape) apart (fires (whole old) c (whole shape)) chans ended.chans either acts.moves.fires h.fires;
            positions = positions;
            order = subst (Ascends nat_cmp session_key) (sym h.sessions) (Ascends-filter nat_cmp session_key nat_cmp_total (λ s. not (is_gone gone s)) old.sessions ready.order);
            fit = subst (QueriesFit (i + 1)) (sym h.queries) (fit_kept (i + 1) (λ q. not (is_orphan gone q)) old.queries acts.moves.fit);
          };
        }

    pub ended_step : (new : State) (ended fired : Fired) → Ends i gone mid new ended → fired.chans ≡ chans ++ ended.chans → fired.freed ≡ ended.freed → TablesStep i c old new answer fired
    ended_step new ended fired h is_chans is_freed =
        let is : new ≡ shape new.keys new.sessions new.queries ended = λ j. record new { version = h.version j; rows = h.rows j; index = h.index j } in
        subst (λ (s : State). TablesStep i c old s answer fired) (sym is)
        (subst (λ (f : Fired). TablesStep i c old (shape new.keys new.sessions new.queries ended) answer f) (λ j. record { chans = sym is_chans j; freed = sym is_freed j })
        (shaped_step new.keys new.sessions new.queries ended (subst (λ (s : State). Ends i gone mid s ended) is h)))

-- 4. What fires.
abbrev only : Chan → Bool → Chan → Bool
only Sessions b Sessions = b
only Queries b Queries = b
only other b chan = false

only_sessions : (b : Bool) → FiresJust (only Sessions b) (one_if b Sessions)
only_sessions true = fires_one _ Sessions refl single
  where
    single : (chan : Chan) → only Sessions true chan ≡ true → Sessions ≡ chan
    single Sessions e = refl
    single other e = absurd (false≢true e)
only_sessions false = fires_none _ none
  where
    none : (chan : Chan) → only Sessions false chan ≡ false
    none Sessions = refl
    none other = refl

only_queries : (b : Bool) → FiresJust (only Queries b) (one_if b Queries)
only_queries true = fires_one _ Queries refl single
  where
    single : (chan : Chan) → only Queries true chan ≡ true → Queries ≡ chan
    single Queries e = refl
    single other e = absurd (false≢true e)
only_queries false = fires_none _ none
  where
    none : (chan : Chan) → only Queries false chan ≡ false
    none Queries = refl
    none other = refl

module _ (old new : State) (keys : List Chan) (s q : Bool) (h : FiresJust (keys_fire false old.keys.rows new.keys.rows) keys) (is_s : s ≡ sessions_differ old.sessions new.sessions) (is_q : q ≡ queries_differ old.queries new.queries) where
  abbrev on_keys : Chan → Bool
  on_keys = keys_fire false old.keys.rows new.keys.rows

  apart_sessions : (chan : Chan) → on_keys chan ≡ true → only Sessions s chan ≡ false
  apart_sessions Sessions e = absurd (false≢true e)
  apart_sessions other e = refl

  apart_queries : (chan : Chan) → (on_keys chan || only Sessions s chan) ≡ true → only Queries q chan ≡ false
  apart_queries Queries e = absurd (false≢true e)
  apart_queries other e = refl

  all_three : (chan : Chan) → still_fires false old new chan ≡ ((on_keys chan || only Sessions s chan) || only Queries q chan)
  all_three Sessions = sym is_s ∙ sym (or_none s)
  all_three Queries = sym is_q
  all_three (Key key) = sym (or_none (on_keys (Key key) || false) ∙ or_none (on_keys (Key key)))
  all_three Reaped = refl
  all_three other = refl

  pub ending_just : FiresJust (still_fires false old new) ((keys ++ one_if s Sessions) ++ one_if q Queries)
  ending_just =
      just_both (λ chan. on_keys chan || only Sessions s chan) (only Queries q) apart_queries (still_fires false old new) (keys ++ one_if s Sessions) (one_if q Queries) all_three
      (just_both on_keys (only Sessions s) apart_sessions (λ chan. on_keys chan || only Sessions s chan) keys (one_if s Sessions) (λ chan. refl) h (only_sessions s))
      (only_queries q)

-- 5. After a Register or a Deregister.
spares : (c : Command) → IsRegistration c → (s : SessionRow) → names c s ≡ false
spares (Register node address service checks) h s = refl
spares (Deregister node service check) h s = refl
spares other h s = absurd h

module _ (i : ℕ) (c : Command) (is : IsRegistration c) (old : State) (ready : Ready i old) (in_order : InOrder old.rows) (rows' : Rows) (index' : IndexState) (answer : Applied) (chans : List Chan) (acts : RowStep i c old rows' index' answer chans) (node : List ℕ) (named : node_of c ≡ node) (gone : List SessionRow) (gone_is : gone ≡ filter (broken (catalog_of rows')) (filter (is_of_node node) old.sessions)) where
  keeps : KeepsOthers node old.rows rows'
  keeps =
      subst (λ x. KeepsOthers x old.rows rows') named
      (subst (λ (r : Rows). KeepsOthers (node_of c) old.rows r) (ap (λ (s : Step). rows_of s.0) (sym (other_lists i c (whole old) is) ∙ acts.does)) (step_keeps i c is old.rows in_order))

  broken_ends : (s : SessionRow) → broken (catalog_of rows') s ≡ ends c (whole (with_rows old rows' index')) s
  unfolding broken
  broken_ends s = sym (or_none (broken (catalog_of rows') s)) ∙ ap (λ b. broken (catalog_of rows') s || b) (sym (spares c is s))

  all_gone : gone ≡ filter (ends c (whole (with_rows old rows' index'))) old.sessions
  all_gone = gone_is ∙ broken_here node old.rows rows' in_order keeps.order keeps.others old.sessions ready.whole ∙ (λ j. filter (λ s. broken_ends s j) old.sessions)

  pub gone_order : Ascends nat_cmp session_key gone
  gone_order = subst (Ascends nat_cmp session_key) (sym all_gone) (Ascends-filter nat_cmp session_key nat_cmp_total (ends c (whole (with_rows old rows' index'))) old.sessions ready.order)

  pub rows_ended : (new : State) (ended fired : Fired) → Ends i gone (with_rows old rows' index') new ended → fired.chans ≡ chans ++ ended.chans → fired.freed ≡ ended.freed → TablesStep i c old new answer fired
  rows_ended = ended_step i c old rows' index' answer chans ready (plain_registration c is) acts gone all_gone

-- 6. A session that is ended.
named_gone : (id : ℕ) (k : Catalog) (sessions : List SessionRow) → Ascends nat_cmp session_key sessions → AllByRecursion (λ s. broken k s ≡ false) sessions → cons_option (session_at id sessions) [] ≡ filter (λ s. broken k s || nat_eq s.id id) sessions
named_gone id k [] asc w = refl
named_gone id k (s ∷ rest) asc w =
    (λ j. cons_option (cond ((eq_same id s.id ∙ eqb_turned id s.id) j) (Some s) (session_at id rest)) [])
    ∙ go (nat_eq s.id id) refl (named_gone id k rest asc.1 w.1)
    ∙ sym (ap (λ b. cond (b || nat_eq s.id id) (s ∷ filter (λ t. broken k t || nat_eq t.id id) rest) (filter (λ t. broken k t || nat_eq t.id id) rest)) w.0)
  where
    none : id ≡ s.id → (more : List SessionRow) → AllByRecursion (λ t. nat_cmp s.id t.id ≡ Less) more → AllByRecursion (λ t. broken k t ≡ false) more → [] ≡ filter (λ t. broken k t || nat_eq t.id id) more
    none is [] less w = refl
    none is (t ∷ more) less w = none is more less.1 w.1 ∙ sym (λ j. cond (w.0 j || (ap (nat_eq t.id) is ∙ eqb_turned t.id s.id ∙ less_differs s.id t.id less.0) j) (t ∷ filter (λ t. broken k t || nat_eq t.id id) more) (filter (λ t. broken k t || nat_eq t.id id) more))

    go : (b : Bool) → nat_eq s.id id ≡ b → cons_option (session_at id rest) [] ≡ filter (λ t. broken k t || nat_eq t.id id) rest → cons_option (cond (nat_eq s.id id) (Some s) (session_at id rest)) [] ≡ cond (nat_eq s.id id) (s ∷ filter (λ t. broken k t || nat_eq t.id id) rest) (filter (λ t. broken k t || nat_eq t.id id) rest)
    go true e ih = ap (λ b. cons_option (cond b (Some s) (session_at id rest)) []) e ∙ ap (λ l. s ∷ l) (none (sym ((Decides-eqb s.id id).0 e)) rest asc.0 w.1) ∙ sym (ap (λ b. cond b (s ∷ filter (λ t. broken k t || nat_eq t.id id) rest) (filter (λ t. broken k t || nat_eq t.id id) rest)) e)
    go false e ih = ap (λ b. cons_option (cond b (Some s) (session_at id rest)) []) e ∙ ih ∙ sym (ap (λ b. cond b (s ∷ filter (λ t. broken k t || nat_eq t.id id) rest) (filter (λ t. broken k t || nat_eq t.id id) rest)) e)

module _ (i id : ℕ) (old : State) (ready : Ready i old) (gone : List SessionRow) (gone_is : gone ≡ cons_option (session_at id old.sessions) []) where
  nothing_yet : act i (SessionDestroy id) (whole old) ≡ (whole old, Yes)
  unfolding act
  nothing_yet = refl

  all_named : gone ≡ filter (ends (SessionDestroy id) (whole old)) old.sessions
  unfolding broken
  all_named = gone_is ∙ named_gone id (catalog_of old.rows) old.sessions ready.order ready.whole

  pub destroyed : (new : State) (fired : Fired) → Ends i gone old new fired → TablesStep i (SessionDestroy id) old new Yes fired
  destroyed new fired h = ended_step i (SessionDestroy id) old old.rows old.index Yes [] ready refl (still_row i (SessionDestroy id) old ready Yes refl nothing_yet) gone all_named new fired fired h refl refl
