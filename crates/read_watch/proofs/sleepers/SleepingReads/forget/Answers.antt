use Rattle.std.proofs.Common.{sym, subst}
use Rattle.read_watch.specs.Watch.{AreNumbers}
use Rattle.read_watch.proofs.Lookups.{numbers_without}
use Rattle.read_watch.proofs.Leavers.{forgotten}
use Rattle.read_watch.proofs.sleepers.SleepingReads.forget.Goals as goal

pub invariant_of-self : goal.invariant_of-self
invariant_of-self c = subst AreNumbers (sym c.cancel.ensures.left) (numbers_without _ c.self.inside.timers c.self.invariant)

pub returns-clause-others : goal.returns-clause-others
returns-clause-others c = forgotten c.args.number _ c.args.self.now c.self.inside.registry c.remove.new.self c.self.inside.timers c.cancel.new.self c.self.view_is c.from.ensures c.remove.ensures.left c.cancel.ensures.left
