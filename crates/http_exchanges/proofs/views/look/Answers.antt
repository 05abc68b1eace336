use Rattle.http_exchanges.proofs.Agreeing.{prefix_on, prefix_self}
use Rattle.http_exchanges.proofs.views.look.Goals as goal

pub loop-init : goal.loop-init
loop-init g c = prefix_self c.args.viewer.now

pub loop-preserved : goal.loop-preserved
loop-preserved g c = prefix_on c.args.viewer.now c.loop.viewer c.glance.new.viewer c.loop.invariant c.glance.ensures.grown

pub returns-in-Ok-clause-grown : goal.returns-in-Ok-clause-grown
returns-in-Ok-clause-grown g c = prefix_on c.args.viewer.now c.loop.viewer c.glance.new.viewer c.loop.invariant c.glance.ensures.grown

pub returns-in-Err-Memory-clause-grown : goal.returns-in-Err-Memory-clause-grown
returns-in-Err-Memory-clause-grown g c = prefix_on c.args.viewer.now c.loop.viewer c.glance.new.viewer c.loop.invariant c.glance.ensures.grown

pub returns-clause-grown : goal.returns-clause-grown
returns-clause-grown g c = c.loop.invariant
