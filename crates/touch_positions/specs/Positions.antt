-- The positions of the tables.
use Rattle.std.specs.Prelude.{ℕ}
use Rattle.touch_positions.specs.declared.positions.Positions.{Positions}
use Rattle.touch_positions.specs.declared.positions.Table.{Table}
use Rattle.touch_positions.specs.declared.positions.Table.TheVariants.{Nodes, Services, Checks, Sessions, Queries}

abbrev pub position_at : Table → Positions → ℕ
position_at Nodes p = p.nodes
position_at Services p = p.services
position_at Checks p = p.checks
position_at Sessions p = p.sessions
position_at Queries p = p.queries

-- one table is moved to a position
abbrev pub moved : Table → ℕ → Positions → Positions
moved Nodes i p = record p { nodes = i }
moved Services i p = record p { services = i }
moved Checks i p = record p { checks = i }
moved Sessions i p = record p { sessions = i }
moved Queries i p = record p { queries = i }
