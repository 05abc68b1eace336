use Rattle.std.proofs.Common.{take}
use Rattle.std.specs.List.{AllByRecursion}
use Rattle.read_watch.specs.Hits.{AllHit, ChanNoted}
use Rattle.read_watch.proofs.hit.find_hit.Given as goal

abbrev pub invariant-loop-chan : goal.invariant-loop-chan
invariant-loop-chan l = AllHit l.waiters.entries l.fired l.found.keys × AllByRecursion (ChanNoted l.list l.waiters.entries l.fired l.found.keys) (take l.chan-index l.fired)
