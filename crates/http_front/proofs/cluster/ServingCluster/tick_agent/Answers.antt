use Rattle.http_exchanges.specs.Marks.{Agents}
use Rattle.http_front.proofs.Clocks.{ticks_wholly, wholly_none}
use Rattle.http_front.proofs.Steps.{agent_serves, tick_quiet, tick_ticks}
use Rattle.http_front.proofs.cluster.ServingCluster.tick_agent.Goals as goal

pub invariant_of-self : goal.invariant_of-self
invariant_of-self g c = agent_serves _ _ _ c.args.agent c.args.ms c.step.result c.self.invariant (rw c.in-Ok.is at c.fits-fits.ensures) c.step.ensures.whole c.step.ensures.cut

pub returns-in-Ok-clause-quiet : goal.returns-in-Ok-clause-quiet
returns-in-Ok-clause-quiet g c = rw (← c.self.view_is) (tick_quiet Agents _ _ c.args.agent c.args.ms c.step.result c.step.ensures.whole c.step.ensures.cut)

pub returns-in-Ok-clause-ticks : goal.returns-in-Ok-clause-ticks
returns-in-Ok-clause-ticks g c = rw (← c.self.view_is) (tick_ticks Agents _ _ c.args.agent c.args.ms c.step.result c.step.ensures.whole c.step.ensures.cut)

pub returns-in-Ok-clause-wholly : goal.returns-in-Ok-clause-wholly
returns-in-Ok-clause-wholly g c = rw (← c.self.view_is) (ticks_wholly Agents _ _ c.args.agent c.args.ms c.step.result c.step.ensures.whole)

pub returns-in-Err-clause-wholly : goal.returns-in-Err-clause-wholly
returns-in-Err-clause-wholly g c = rw (← c.self.view_is) (wholly_none Agents _ c.args.agent c.args.ms c.in-Err.field-0 (rw c.in-Err.is at c.fits-fits.ensures))
