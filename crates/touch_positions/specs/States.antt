-- What the index of the tables holds, as it is and as it stood at the last `keep`.
use Rattle.std.specs.Prelude.{◌≡◌, ℕ, List, [], Option, Some, None, unwrap_or}
use Rattle.touch_positions.specs.NameVersions.{own_position, OthersStay}
use Rattle.touch_positions.specs.declared.positions.Table.{Table}
use Rattle.touch_positions.specs.declared.positions.Table.TheVariants.{Nodes, Services, Checks, Sessions, Queries}

-- A position for each table; for each service name that has one of its own, and for all the others; for each node that
-- has one of its row and services, or one of its checks, and for all the nodes that have none.
pub record IndexState : Type 0 where
  pub nodes : ℕ
  pub services : ℕ
  pub checks : ℕ
  pub sessions : ℕ
  pub queries : ℕ
  pub vanished : ℕ
  pub names : List (List ℕ × ℕ)
  pub hosts : List (List ℕ × ℕ)
  pub host_checks : List (List ℕ × ℕ)
  pub gone : ℕ

pub record IndexVersions : Type 0 where
  pub now : IndexState
  pub before : IndexState

abbrev pub first_state : IndexState
first_state = record { nodes = 1; services = 1; checks = 1; sessions = 1; queries = 1; vanished = 1; names = []; hosts = []; host_checks = []; gone = 1 }

abbrev pub table_position : Table → IndexState → ℕ
table_position Nodes s = s.nodes
table_position Services s = s.services
table_position Checks s = s.checks
table_position Sessions s = s.sessions
table_position Queries s = s.queries

-- one table is at a position
abbrev pub with_table : Table → ℕ → IndexState → IndexState
with_table Nodes position s = record s { nodes = position }
with_table Services position s = record s { services = position }
with_table Checks position s = record s { checks = position }
with_table Sessions position s = record s { sessions = position }
with_table Queries position s = record s { queries = position }

-- a name without a position of its own has the last at which a name lost its rows
abbrev pub name_position : List ℕ → IndexState → ℕ
name_position name s = unwrap_or (own_position name s.names) s.vanished

-- a node without a position of its own has the last at which a node went
abbrev pub host_position : List ℕ → IndexState → ℕ
host_position node s = unwrap_or (own_position node s.hosts) s.gone

-- the checks of a node without a position of their own have the first
abbrev pub host_checks_position : List ℕ → IndexState → ℕ
host_checks_position node s = unwrap_or (own_position node s.host_checks) 1

-- the tables' own positions
pub record SameTables (old new : IndexState) : Type 0 where
  pub nodes : new.nodes ≡ old.nodes
  pub services : new.services ≡ old.services
  pub checks : new.checks ≡ old.checks
  pub sessions : new.sessions ≡ old.sessions
  pub queries : new.queries ≡ old.queries

-- the positions of the service names
pub record SameNames (old new : IndexState) : Type 0 where
  pub names : new.names ≡ old.names
  pub vanished : new.vanished ≡ old.vanished

-- the positions of the nodes
pub record SameHosts (old new : IndexState) : Type 0 where
  pub hosts : new.hosts ≡ old.hosts
  pub host_checks : new.host_checks ≡ old.host_checks
  pub gone : new.gone ≡ old.gone

-- the name has this position, and nothing else is moved
pub record TouchesName (name : List ℕ) (position : ℕ) (old new : IndexState) : Type 0 where
  pub tables : SameTables old new
  pub own : own_position name new.names ≡ Some position
  pub others : OthersStay name old.names new.names
  pub vanished : new.vanished ≡ old.vanished
  pub nodes : SameHosts old new

-- the name has no position of its own, and all such names have this one
pub record VanishesName (name : List ℕ) (position : ℕ) (old new : IndexState) : Type 0 where
  pub tables : SameTables old new
  pub own : own_position name new.names ≡ None
  pub others : OthersStay name old.names new.names
  pub vanished : new.vanished ≡ position
  pub nodes : SameHosts old new

-- the node has this position, and nothing else is moved
pub record TouchesHost (node : List ℕ) (position : ℕ) (old new : IndexState) : Type 0 where
  pub tables : SameTables old new
  pub names : SameNames old new
  pub own : own_position node new.hosts ≡ Some position
  pub others : OthersStay node old.hosts new.hosts
  pub checks : new.host_checks ≡ old.host_checks
  pub gone : new.gone ≡ old.gone

-- the checks of the node have this position, and nothing else is moved
pub record TouchesHostChecks (node : List ℕ) (position : ℕ) (old new : IndexState) : Type 0 where
  pub tables : SameTables old new
  pub names : SameNames old new
  pub hosts : new.hosts ≡ old.hosts
  pub own : own_position node new.host_checks ≡ Some position
  pub others : OthersStay node old.host_checks new.host_checks
  pub gone : new.gone ≡ old.gone

-- neither the node nor its checks have a position of their own, and all such nodes have this one
pub record HostGoes (node : List ℕ) (position : ℕ) (old new : IndexState) : Type 0 where
  pub tables : SameTables old new
  pub names : SameNames old new
  pub own : own_position node new.hosts ≡ None
  pub others : OthersStay node old.hosts new.hosts
  pub own_checks : own_position node new.host_checks ≡ None
  pub other_checks : OthersStay node old.host_checks new.host_checks
  pub gone : new.gone ≡ position
