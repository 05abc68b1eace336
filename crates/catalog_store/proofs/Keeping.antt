-- The tables go on standing for the log after a command.
use Rattle.std.proofs.Common.{◌≡◌, ℕ, ◌+◌, ◌<◌, ◌≤◌, true, false, List, [], ◌∷◌, ◌++◌, refl, sym, ◌∙◌, ap, subst, length, reverse, max, map, arith}
use Rattle.std.specs.List.{AllByRecursion}
use Rattle.std.proofs.lemmas.List.{length-reverse}
use Rattle.cat_model.specs.Keys.{has_prefix}
use Rattle.cat_model.specs.Catalog.{Catalog}
use Rattle.cat_model.specs.Machine.{apply, broken, freed, at_past, catalog_at, reply_to}
use Rattle.cat_model.specs.Indexes.{has_name, has_node, past_index}
use Rattle.cat_model.specs.KvIndexes.{GivesIndexes, last_tomb, last_modify, key_index, prefix_index, tombs_after, floor_after}
use Rattle.cat_model.specs.Channels.{fires}
use Rattle.cat_model.specs.Views.{Kept, NamePositions, StandsFor, NamesAfter, kept_after, moved, last_fired, past_fired, position_of}
use Rattle.cat_model.specs.declared.row.KvRow.{KvRow}
use Rattle.cat_model.specs.declared.row.SessionRow.{SessionRow}
use Rattle.cat_model.specs.declared.query.Query.TheVariants as q
use Rattle.cat_model.specs.declared.query.Chan.{Chan}
use Rattle.cat_model.specs.declared.query.Chan.TheVariants.{Nodes, Services, Checks, Sessions, Queries, Service, Vanished, Node, NodeChecks, NodeGone}
use Rattle.cat_model.specs.declared.applied.Applied.{Applied}
use Rattle.cat_model.specs.declared.fired.Fired.{Fired}
use Rattle.cat_model.specs.declared.command.Command.{Command}
use Rattle.cat_model.proofs.TableLemmas.{All-weaker}
use Rattle.cat_model.proofs.IndexLaw.{index_at_most}
use Rattle.cat_model.proofs.KvIndexesLaw.{gives_first}
use Rattle.cat_model.proofs.LockLaw.{next_is, stand_at}
use Rattle.cat_model.proofs.ViewSteps.{view_step_law}
use Rattle.kv_table.specs.States.{KvState}
use Rattle.catalog_table.specs.Rows.{rows_of, catalog_of}
use Rattle.catalog_store.specs.Firing.{FiresJust}
use Rattle.catalog_store.specs.Steps.{Earlier}
use Rattle.catalog_store.specs.States.{State, first, whole, kept_of, now_of, before_of}
use Rattle.catalog_store.specs.Standing.{KeysStand, PositionsStand, QueriesFit, Stands, Holds, Ready}
use Rattle.catalog_store.specs.Whole.{TablesStep}
use Rattle.catalog_store.specs.declared.tables.Tables.{Tables}
use Rattle.catalog_store.proofs.Marking.{stands_within}

-- 1. All rows of keys were written before the next position.
rows_low : (least : ℕ) (rows : List KvRow) → AllByRecursion (λ r. r.modify ≤ last_modify (λ k. true) least rows) rows
rows_low least [] = tt
rows_low least (r ∷ rows) = (omega arith, All-weaker (λ s. s.modify ≤ last_modify (λ k. true) least rows) (λ s. s.modify ≤ max r.modify (last_modify (λ k. true) least rows)) (λ s low. omega (arith, low)) rows (rows_low least rows))

past_earlier : (past : List Command) (tombs : List (List ℕ × ℕ)) (floor : ℕ) → GivesIndexes past tombs floor → AllByRecursion (λ r. r.modify < length past + 1) (at_past past).kv
unfolding at_past
past_earlier [] tombs floor gives = tt
past_earlier (c ∷ past) tombs floor gives =
    let rows : List KvRow = (at_past (c ∷ past)).kv in
    let top : last_modify (has_prefix []) (last_tomb (has_prefix []) floor tombs) rows ≡ past_index (q.Prefix []) (c ∷ past) = gives.prefixes [] in
    let low : past_index (q.Prefix []) (c ∷ past) ≤ length (c ∷ past) = index_at_most (q.Prefix []) c past in
    All-weaker (λ r. r.modify ≤ last_modify (has_prefix []) (last_tomb (has_prefix []) floor tombs) rows) (λ r. r.modify < length (c ∷ past) + 1) (λ r l. omega (arith, l, top, low)) rows
    (rows_low (last_tomb (has_prefix []) floor tombs) rows)

earlier : (kv : KvState) (log : List Command) → KeysStand kv log → Earlier (length log + 1) kv.rows
earlier kv log stands = subst (λ rows. Earlier (length log + 1) rows) (sym stands.rows) (subst (λ n. AllByRecursion (λ r. r.modify < n + 1) (catalog_at log).kv) (length-reverse log) (past_earlier (reverse log) kv.tombs kv.floor stands.indexes))

-- 2. Tables that stand for a log have the log's rows, and may go on.
module _ (s : State) (log : List Command) (stands : Stands s log) where
  pub whole_is : whole s ≡ catalog_at log
  whole_is = λ j. record { version = stands.version j; nodes = (stands.rows j).nodes; services = (stands.rows j).services; checks = (stands.rows j).checks; kv = stands.keys.rows j; sessions = stands.sessions j; queries = stands.queries j }

  unbroken : AllByRecursion (λ (t : SessionRow). broken (catalog_of s.rows) t ≡ false) s.sessions
  unfolding broken
  unbroken =
      All-weaker (λ (t : SessionRow). broken (whole s) t ≡ false) (λ (t : SessionRow). broken (catalog_of s.rows) t ≡ false) (λ t e. e) s.sessions
      (subst (λ (k : Catalog). AllByRecursion (λ (t : SessionRow). broken k t ≡ false) k.sessions) (sym whole_is) (stand_at (reverse log)).whole)

  pub ready : Ready (length log + 1) s
  ready = record {
    least = omega arith;
    earlier = earlier s.keys log stands.keys;
    within = stands_within s.index log stands.positions;
    owned = record {
      names = λ name. stands.positions.own name ∙ ap (has_name name) (sym whole_is);
      hosts = λ node. stands.positions.own_hosts node ∙ ap (has_node node) (sym whole_is);
    };
    whole = unbroken;
    order = stands.order;
    fit = stands.fit;
  }

-- 3. The step.
longer : (c : Command) (l : List Command) → length (l ++ c ∷ []) ≡ length l + 1
longer c [] = refl
longer c (x ∷ l) = let more : length (l ++ c ∷ []) ≡ length l + 1 = longer c l in omega (arith, more)

module _ (old new : State) (log : List Command) (c : Command) (answer : Applied) (fired : Fired) (stands : Stands old log) (step : TablesStep (length log + 1) c old new answer fired) where
  abbrev i : ℕ
  i = length log + 1

  abbrev kept : Kept
  kept = kept_of old

  old_is : whole old ≡ catalog_at log
  old_is = whole_is old log stands

  reached : apply i c (catalog_at log) ≡ (whole new, answer)
  reached = ap (apply i c) (sym old_is) ∙ step.does

  new_is : catalog_at (log ++ c ∷ []) ≡ whole new
  new_is = next_is log c ∙ ap (λ n. (apply (n + 1) c (catalog_at log)).0) (length-reverse log) ∙ ap (λ s. s.0) reached

  pub replies : answer ≡ reply_to log c
  replies = sym (ap (λ s. s.1) reached)

  pub frees : map (λ f. (f.key, f.delay_ms)) fired.freed ≡ freed i c (catalog_at log)
  frees = step.frees ∙ ap (freed i c) old_is

  pub fires_just : FiresJust (fires (catalog_at log) c (catalog_at (log ++ c ∷ []))) fired.chans
  fires_just = subst (λ f. FiresJust f fired.chans) (λ j. fires (old_is j) c (sym new_is j)) step.moves.fires

  stands_for : StandsFor kept log
  stands_for = record {
    rows = old_is;
    keys = stands.keys.indexes;
    nodes = stands.positions.nodes;
    services = stands.positions.services;
    checks = stands.positions.checks;
    sessions = stands.positions.sessions;
    queries = stands.positions.queries;
    names = stands.positions.names;
    vanished = stands.positions.vanished;
    hosts = stands.positions.hosts;
    host_checks = stands.positions.host_checks;
    gone = stands.positions.gone;
  }

  abbrev after : NamePositions
  after = record { services = new.index.names; hosts = new.index.hosts; host_checks = new.index.host_checks }

  back : (chan : Chan) (at : ℕ) → moved i (fires (whole old) c (whole new) chan) at ≡ moved i (fires (whole old) c (apply i c (whole old)).0 chan) at
  back chan at = sym (ap (λ s. moved i (fires (whole old) c s.0 chan) at) step.does)

  names_after : NamesAfter i c kept after
  names_after = record {
    each = λ name has. step.moves.positions.names name (ap (λ s. has_name name s.0) (sym step.does) ∙ has) ∙ back (Service name) (position_of name old.index.names);
    hosts = λ node has. step.moves.positions.hosts node (ap (λ s. has_node node s.0) (sym step.does) ∙ has) ∙ back (Node node) (position_of node old.index.hosts);
    checks = λ node has had. step.moves.positions.host_checks node (ap (λ s. has_node node s.0) (sym step.does) ∙ has) had ∙ back (NodeChecks node) (position_of node old.index.host_checks);
    few = step.moves.positions.few;
  }

  next : StandsFor (kept_after i c after kept) (log ++ c ∷ [])
  next = view_step_law kept log c after stands_for names_after

  moves_to : (chan : Chan) (before later : ℕ) → later ≡ moved i (fires (whole old) c (whole new) chan) before → moved i (fires (whole old) c (apply i c (whole old)).0 chan) before ≡ last_fired chan (log ++ c ∷ []) → later ≡ last_fired chan (log ++ c ∷ [])
  moves_to chan before later is e = is ∙ back chan before ∙ e

  gives : GivesIndexes (reverse (log ++ c ∷ [])) (tombs_after i c old.keys.rows new.keys.rows old.keys.tombs) (floor_after i c old.keys.floor)
  unfolding kept_after
  gives = subst (λ rows'. GivesIndexes (reverse (log ++ c ∷ [])) (tombs_after i c old.keys.rows rows' old.keys.tombs) (floor_after i c old.keys.floor)) (ap (λ s. s.0.kv) step.does) next.keys

  keys_stand : KeysStand new.keys (log ++ c ∷ [])
  keys_stand =
      let is : (catalog_at (log ++ c ∷ [])).kv ≡ new.keys.rows = ap (λ k. k.kv) new_is in
      record {
        rows = sym is;
        indexes = record {
          keys = λ key. ap (λ l. key_index key l new.keys.tombs new.keys.floor) is ∙ step.moves.indexes.keys key ∙ sym (ap (λ l. key_index key l (tombs_after i c old.keys.rows new.keys.rows old.keys.tombs) (floor_after i c old.keys.floor)) is) ∙ gives.keys key;
          prefixes = λ prefix. ap (λ l. prefix_index prefix l new.keys.tombs new.keys.floor) is ∙ step.moves.indexes.prefixes prefix ∙ sym (ap (λ l. prefix_index prefix l (tombs_after i c old.keys.rows new.keys.rows old.keys.tombs) (floor_after i c old.keys.floor)) is) ∙ gives.prefixes prefix;
        };
      }

  positions_stand : PositionsStand new.index (log ++ c ∷ [])
  unfolding kept_after
  positions_stand = record {
    nodes = moves_to Nodes old.index.nodes new.index.nodes step.moves.positions.nodes next.nodes;
    services = moves_to Services old.index.services new.index.services step.moves.positions.services next.services;
    checks = moves_to Checks old.index.checks new.index.checks step.moves.positions.checks next.checks;
    sessions = moves_to Sessions old.index.sessions new.index.sessions step.moves.positions.sessions next.sessions;
    queries = moves_to Queries old.index.queries new.index.queries step.moves.positions.queries next.queries;
    names = next.names;
    own = λ name. step.moves.positions.own name ∙ ap (has_name name) (sym new_is);
    vanished = moves_to Vanished old.index.vanished new.index.vanished step.moves.positions.vanished next.vanished;
    hosts = next.hosts;
    own_hosts = λ node. step.moves.positions.own_hosts node ∙ ap (has_node node) (sym new_is);
    host_checks = next.host_checks;
    few = λ node. let low : position_of node new.index.host_checks ≤ i = step.moves.positions.few node in let more : length (log ++ c ∷ []) ≡ length log + 1 = longer c log in omega (arith, low, more);
    gone = moves_to NodeGone old.index.gone new.index.gone step.moves.positions.gone next.gone;
  }

  pub stands_more : Stands new (log ++ c ∷ [])
  stands_more = record {
    version = sym (ap (λ k. k.version) new_is);
    keys = keys_stand;
    rows = sym (ap rows_of new_is);
    sessions = sym (ap (λ k. k.sessions) new_is);
    queries = sym (ap (λ k. k.queries) new_is);
    order = step.moves.order;
    fit = subst (λ n. QueriesFit (n + 1) new.queries) (sym (longer c log)) step.moves.fit;
    positions = positions_stand;
  }

  -- after the step is kept
  pub holds_more : (tables : Tables) → now_of tables ≡ new → before_of tables ≡ new → Holds tables (log ++ c ∷ [])
  holds_more tables now before = record {
    now = subst (λ (s : State). Stands s (log ++ c ∷ [])) (sym now) stands_more;
    kept = before ∙ sym now;
  }

-- the empty tables stand for the empty log
first_stands : Stands first []
unfolding at_past past_fired
first_stands = record {
  version = refl;
  keys = record { rows = refl; indexes = gives_first };
  rows = refl;
  sessions = refl;
  queries = refl;
  order = tt;
  fit = record { once = tt; earlier = tt };
  positions = record {
    nodes = refl;
    services = refl;
    checks = refl;
    sessions = refl;
    queries = refl;
    names = λ name has. refl;
    own = λ name. refl;
    vanished = refl;
    hosts = λ node has. refl;
    own_hosts = λ node. refl;
    host_checks = λ node has. refl;
    few = λ node. omega arith;
    gone = refl;
  };
}

pub first_holds : (tables : Tables) → now_of tables ≡ first → before_of tables ≡ first → Holds tables []
first_holds tables now before = record {
  now = subst (λ (s : State). Stands s []) (sym now) first_stands;
  kept = before ∙ sym now;
}
