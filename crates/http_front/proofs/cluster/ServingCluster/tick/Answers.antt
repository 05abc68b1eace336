use Rattle.http_exchanges.specs.Marks.{Servers}
use Rattle.http_front.proofs.Clocks.{ticks_wholly, wholly_none}
use Rattle.http_front.proofs.Steps.{tick_quiet, tick_serves, tick_ticks}
use Rattle.http_front.proofs.cluster.ServingCluster.tick.Goals as goal

pub invariant_of-self : goal.invariant_of-self
invariant_of-self g c = tick_serves _ _ _ c.args.server c.args.ms c.step.result c.self.invariant (rw c.in-Ok.is at c.fits-fits.ensures) c.step.ensures.whole c.step.ensures.cut

pub returns-in-Ok-clause-quiet : goal.returns-in-Ok-clause-quiet
returns-in-Ok-clause-quiet g c = rw (← c.self.view_is) (tick_quiet Servers _ _ c.args.server c.args.ms c.step.result c.step.ensures.whole c.step.ensures.cut)

pub returns-in-Ok-clause-ticks : goal.returns-in-Ok-clause-ticks
returns-in-Ok-clause-ticks g c = rw (← c.self.view_is) (tick_ticks Servers _ _ c.args.server c.args.ms c.step.result c.step.ensures.whole c.step.ensures.cut)

pub returns-in-Ok-clause-wholly : goal.returns-in-Ok-clause-wholly
returns-in-Ok-clause-wholly g c = rw (← c.self.view_is) (ticks_wholly Servers _ _ c.args.server c.args.ms c.step.result c.step.ensures.whole)

pub returns-in-Err-clause-wholly : goal.returns-in-Err-clause-wholly
returns-in-Err-clause-wholly g c = rw (← c.self.view_is) (wholly_none Servers _ c.args.server c.args.ms c.in-Err.field-0 (rw c.in-Err.is at c.fits-fits.ensures))
