-- A step of all the tables: what it answers, what it fires, and which positions it moves.
use Rattle.std.specs.Prelude.{◌≡◌, ℕ, ◌≤◌, ◌+◌, true, false, List, is_some, map}
use Rattle.std.specs.List.{AllByRecursion}
use Rattle.std.specs.Ordering.{nat_cmp}
use Rattle.catalog_table.specs.Rows.{catalog_of}
use Rattle.cat_model.specs.Tables.{Ascends}
use Rattle.cat_model.specs.Catalog.{Catalog, session_key}
use Rattle.cat_model.specs.Machine.{act, apply, broken, freed}
use Rattle.cat_model.specs.Indexes.{has_name, has_node}
use Rattle.cat_model.specs.KvIndexes.{tombs_after, floor_after}
use Rattle.cat_model.specs.Channels.{fires}
use Rattle.cat_model.specs.Views.{moved, position_of}
use Rattle.cat_model.specs.declared.query.Chan.{Chan}
use Rattle.cat_model.specs.declared.query.Chan.TheVariants.{Nodes, Services, Checks, Sessions, Queries, Service, Vanished, Node, NodeChecks, NodeGone}
use Rattle.cat_model.specs.declared.applied.Applied.{Applied}
use Rattle.cat_model.specs.declared.fired.Fired.{Fired}
use Rattle.cat_model.specs.declared.command.Command.{Command}
use Rattle.touch_positions.specs.NameVersions.{own_position}
use Rattle.touch_positions.specs.States.{IndexState}
use Rattle.catalog_store.specs.Firing.{FiresJust}
use Rattle.catalog_store.specs.Steps.{SameIndexes}
use Rattle.catalog_store.specs.States.{State, whole}
use Rattle.catalog_store.specs.Standing.{QueriesFit}

-- What fires is moved to the position. Just the names that have rows then, and the nodes that are there, have their own.
pub record PositionsMove (i : ℕ) (before : Catalog) (c : Command) (after : Catalog) (old new : IndexState) : Type 0 where
  pub nodes : new.nodes ≡ moved i (fires before c after Nodes) old.nodes
  pub services : new.services ≡ moved i (fires before c after Services) old.services
  pub checks : new.checks ≡ moved i (fires before c after Checks) old.checks
  pub sessions : new.sessions ≡ moved i (fires before c after Sessions) old.sessions
  pub queries : new.queries ≡ moved i (fires before c after Queries) old.queries
  pub names : (name : List ℕ) → has_name name after ≡ true → position_of name new.names ≡ moved i (fires before c after (Service name)) (position_of name old.names)
  pub own : (name : List ℕ) → is_some (own_position name new.names) ≡ has_name name after
  pub vanished : new.vanished ≡ moved i (fires before c after Vanished) old.vanished
  pub hosts : (node : List ℕ) → has_node node after ≡ true → position_of node new.hosts ≡ moved i (fires before c after (Node node)) (position_of node old.hosts)
  pub own_hosts : (node : List ℕ) → is_some (own_position node new.hosts) ≡ has_node node after
  pub host_checks : (node : List ℕ) → has_node node after ≡ true → has_node node before ≡ true → position_of node new.host_checks ≡ moved i (fires before c after (NodeChecks node)) (position_of node old.host_checks)
  pub few : (node : List ℕ) → position_of node new.host_checks ≤ i
  pub gone : new.gone ≡ moved i (fires before c after NodeGone) old.gone

-- what the tables keep and fire, from the ones to the others
pub record MovesAll (i : ℕ) (c : Command) (old new : State) (chans : List Chan) : Type 0 where
  pub indexes : SameIndexes new.keys.rows (tombs_after i c old.keys.rows new.keys.rows old.keys.tombs) (floor_after i c old.keys.floor) new.keys.tombs new.keys.floor
  pub fires : FiresJust (fires (whole old) c (whole new)) chans
  pub positions : PositionsMove i (whole old) c (whole new) old.index new.index
  pub order : Ascends nat_cmp session_key new.sessions
  pub fit : QueriesFit (i + 1) new.queries

-- the tables after what a command does before sessions end, with its answer and the channels that this fires
pub record Acts (i : ℕ) (c : Command) (old new : State) (answer : Applied) (chans : List Chan) : Type 0 where
  pub does : act i c (whole old) ≡ (whole new, answer)
  pub moves : MovesAll i c old new chans

-- the same, where no session is broken then
pub record ActsWhole (i : ℕ) (c : Command) (old new : State) (answer : Applied) (chans : List Chan) : Type 0 where
  pub acts : Acts i c old new answer chans
  pub whole : AllByRecursion (λ s. broken (catalog_of new.rows) s ≡ false) new.sessions

-- the tables after a command, with its answer, the channels that it fires and the keys that it frees
pub record TablesStep (i : ℕ) (c : Command) (old new : State) (answer : Applied) (fired : Fired) : Type 0 where
  pub does : apply i c (whole old) ≡ (whole new, answer)
  pub frees : map (λ f. (f.key, f.delay_ms)) fired.freed ≡ freed i c (whole old)
  pub moves : MovesAll i c old new fired.chans
