use Rattle.std.proofs.Common.{◌≡◌, ◌++◌, take}
use Rattle.node_rows.proofs.seen.add_all.Given as goal

abbrev pub invariant-loop-row : goal.invariant-loop-row
invariant-loop-row g l = l.found.items ≡ l.initial.found.items ++ take l.row-index l.rows
