use Rattle.std.proofs.Common.{◌≡◌, ◌++◌}
use Rattle.session_table.proofs.ids.listed.Given as goal

abbrev pub invariant-loop-id : goal.invariant-loop-id
invariant-loop-id l = l.found.items ++ l.id-iterator ≡ l.ids.now
