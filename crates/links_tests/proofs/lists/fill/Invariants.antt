use Rattle.std.proofs.Common.{◌≡◌, length}
use Rattle.links_tests.proofs.lists.fill.Given as goal

abbrev pub invariant-loop-node : goal.invariant-loop-node
invariant-loop-node l = (length l.list.first ≡ 2) × (length l.list.second ≡ 2)
