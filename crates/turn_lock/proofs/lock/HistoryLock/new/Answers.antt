use Rattle.std.proofs.Common.{refl}
use Rattle.turn_lock.proofs.Keeps.{begins}
use Rattle.turn_lock.proofs.lock.HistoryLock.new.Goals as goal

pub new-requires-2 : goal.new-requires-2
new-requires-2 g c = rw (c.of-begun.ensures, c.in_default-push.ensures.items, c.new-slots.ensures.items) (begins _ _ _ c.args.state)
