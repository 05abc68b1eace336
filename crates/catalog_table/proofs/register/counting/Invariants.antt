use Rattle.std.proofs.Common.{length}
use Rattle.catalog_table.proofs.Counting.{CountedFrom}
use Rattle.catalog_table.proofs.register.counting.Given as goal

abbrev pub invariant-loop-check : goal.invariant-loop-check
invariant-loop-check l = CountedFrom l.fn.checks l.left l.ids.now l.found.items

abbrev pub decreases-loop-check : goal.decreases-loop-check
decreases-loop-check l = length l.left
