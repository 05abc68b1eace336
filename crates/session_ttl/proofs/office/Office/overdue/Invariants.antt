use Rattle.std.proofs.Common.{◌≡◌, ◌++◌, filter, map}
use Rattle.cluster_rules.specs.Offices.{is_over}
use Rattle.session_ttl.specs.Endings.{overdue_of}
use Rattle.session_ttl.proofs.office.Office.overdue.Given as goal

abbrev pub invariant-loop-row : goal.invariant-loop-row
invariant-loop-row l = l.overdue.items ++ map (overdue_of l.clocks l.self) (filter (is_over l.clocks l.self l.now) l.row-iterator) ≡ map (overdue_of l.clocks l.self) (filter (is_over l.clocks l.self l.now) l.sessions.now)
