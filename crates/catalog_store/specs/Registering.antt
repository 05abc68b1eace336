-- What a Register and a Deregister do to the positions, and which channels they fire.
use Rattle.std.specs.Prelude.{◌≡◌, ℕ, Bool, true, false, not, if◌then◌else◌, ◌&&◌, ◌||◌, List, [], ◌∷◌, ◌++◌, Option, Some, None, is_some, map}
use Rattle.cat_model.specs.Keys.{same_text}
use Rattle.cat_model.specs.Catalog.{node_at}
use Rattle.cat_model.specs.Views.{moved}
use Rattle.cat_model.specs.declared.query.Chan.{Chan}
use Rattle.cat_model.specs.declared.query.Chan.TheVariants.{Nodes, Services, Checks, Service, Vanished, Node, NodeChecks, NodeGone}
use Rattle.cat_model.specs.declared.applied.Applied.{Applied}
use Rattle.cat_model.specs.declared.command.Command.{Command}
use Rattle.cat_model.specs.declared.command.Command.TheVariants.{Register, Deregister}
use Rattle.catalog_table.specs.Rows.{Rows}
use Rattle.catalog_table.specs.Names.{is_among}
use Rattle.catalog_table.specs.declared.changed.Changed.{Changed}
use Rattle.touch_positions.specs.NameVersions.{own_position}
use Rattle.touch_positions.specs.States.{IndexState, SameTables, SameHosts, with_table}
use Rattle.touch_positions.specs.declared.positions.Table.{Table}
use Rattle.catalog_store.specs.States.{State}
use Rattle.catalog_store.specs.Whole.{Acts}
use Rattle.catalog_store.specs.declared.registrations.NodeChange.{NodeChange}

-- the node that a registration or its undoing names
abbrev pub node_of : Command → List ℕ
node_of (Register node address service checks) = node
node_of (Deregister node service check) = node
node_of other = []

abbrev pub has_some : List (List ℕ) → Bool
has_some [] = false
has_some (n ∷ names) = true

abbrev pub touched_if : Bool → Table → ℕ → IndexState → IndexState
touched_if b table i index = if b then with_table table i index else index

-- each of the names has the position i
pub record TouchesEach (names : List (List ℕ)) (i : ℕ) (old new : IndexState) : Type 0 where
  pub tables : SameTables old new
  pub vanished : new.vanished ≡ old.vanished
  pub own : (name : List ℕ) → own_position name new.names ≡ (if is_among names name then Some i else own_position name old.names)
  pub nodes : SameHosts old new

-- none of the names has a position of its own
pub record VanishesEach (names : List (List ℕ)) (i : ℕ) (old new : IndexState) : Type 0 where
  pub tables : SameTables old new
  pub vanished : new.vanished ≡ moved i (has_some names) old.vanished
  pub own : (name : List ℕ) → own_position name new.names ≡ (if is_among names name then None else own_position name old.names)
  pub nodes : SameHosts old new

-- whether the node is there
abbrev pub is_there : List ℕ → Rows → Bool
is_there node rows = is_some (node_at node rows.nodes)

abbrev pub goes : NodeChange → Bool
goes n = n.was && not n.is

abbrev pub change_of : List ℕ → Rows → Rows → Changed → NodeChange
change_of node old new c = record { was = is_there node old; is = is_there node new; rows = c.nodes || c.services; checks = c.checks }

-- what changed is marked at i
pub record MarksNames (i : ℕ) (c : Changed) (old new : IndexState) : Type 0 where
  pub nodes : new.nodes ≡ moved i c.nodes old.nodes
  pub services : new.services ≡ moved i c.services old.services
  pub checks : new.checks ≡ moved i c.checks old.checks
  pub sessions : new.sessions ≡ old.sessions
  pub queries : new.queries ≡ old.queries
  pub vanished : new.vanished ≡ moved i (has_some c.vanished) old.vanished
  pub own : (name : List ℕ) → own_position name new.names ≡ (if is_among c.vanished name then None else if is_among c.names name then Some i else own_position name old.names)
  pub hosts : SameHosts old new

-- and so is what changed of the node
abbrev pub host_after : ℕ → NodeChange → Option ℕ → Option ℕ
host_after i n old = if goes n then None else (if n.is && n.rows then Some i else old)

abbrev pub checks_after : ℕ → NodeChange → Option ℕ → Option ℕ
checks_after i n old = if goes n then None else (if n.is && n.checks then Some i else old)

pub record MarksNode (i : ℕ) (node : List ℕ) (n : NodeChange) (old new : IndexState) : Type 0 where
  pub tables : SameTables old new
  pub names : new.names ≡ old.names
  pub vanished : new.vanished ≡ old.vanished
  pub hosts : (other : List ℕ) → own_position other new.hosts ≡ (if same_text node other then host_after i n (own_position other old.hosts) else own_position other old.hosts)
  pub host_checks : (other : List ℕ) → own_position other new.host_checks ≡ (if same_text node other then checks_after i n (own_position other old.host_checks) else own_position other old.host_checks)
  pub gone : new.gone ≡ moved i (goes n) old.gone

-- both
pub record Marks (i : ℕ) (c : Changed) (node : List ℕ) (n : NodeChange) (old new : IndexState) : Type 0 where
  pub between : IndexState
  pub names : MarksNames i c old between
  pub hosts : MarksNode i node n between new

-- the channels of what changed
abbrev pub one_if : Bool → Chan → List Chan
one_if b chan = if b then chan ∷ [] else []

abbrev pub changed_chans : Changed → List Chan
changed_chans c = (((map (λ name. Service name) c.names ++ one_if c.nodes Nodes) ++ one_if c.services Services) ++ one_if c.checks Checks) ++ one_if (has_some c.vanished) Vanished

abbrev pub all_chans : Changed → List ℕ → NodeChange → List Chan
all_chans c node n = ((changed_chans c ++ one_if n.rows (Node node)) ++ one_if n.checks (NodeChecks node)) ++ one_if (goes n) NodeGone

-- the tables with these nodes, services and checks, and these positions
abbrev pub with_rows : State → Rows → IndexState → State
with_rows s rows index = record s { rows = rows; index = index }

-- a command on nodes, services and checks, before sessions end
abbrev pub RowStep : ℕ → Command → State → Rows → IndexState → Applied → List Chan → Type 0
RowStep i c old rows index answer chans = Acts i c old (with_rows old rows index) answer chans
