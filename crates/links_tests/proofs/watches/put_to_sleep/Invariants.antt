use Rattle.std.proofs.Common.{◌≡◌, length}
use Rattle.links_tests.proofs.watches.put_to_sleep.Given as goal

abbrev pub invariant-loop-number : goal.invariant-loop-number
invariant-loop-number l = length l.watch.servers ≡ 1
