use Rattle.std.proofs.Common.{◌≡◌, ◌++◌}
use Rattle.session_table.proofs.Finding.{ids_left, ids_from}
use Rattle.session_table.proofs.rows.ids_on.Given as goal

abbrev pub invariant-loop-entry : goal.invariant-loop-entry
invariant-loop-entry l = l.found.items ++ ids_left (l.node, l.check) l.entry-iterator ≡ ids_from (l.node, l.check) l.places.now
