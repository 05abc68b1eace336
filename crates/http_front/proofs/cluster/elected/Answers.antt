use Rattle.http_front.proofs.Steps.{first_fits, first_serves, first_unasked}
use Rattle.http_front.proofs.cluster.elected.Goals as goal

pub step-requires-clause-fits : goal.step-requires-clause-fits
step-requires-clause-fits g c = first_fits _ _ _ c.in-Ok.ensures.begun c.requires.some

pub returns-in-Ok-step-clause-serves : goal.returns-in-Ok-step-clause-serves
returns-in-Ok-step-clause-serves g c =
    first_serves _ _ _ c.in-Ok.ensures.begun c.in-Ok.ensures.agents (first_fits _ _ _ c.in-Ok.ensures.begun c.requires.some) c.in-Ok-step.ensures.whole

pub returns-in-Ok-step-clause-unasked : goal.returns-in-Ok-step-clause-unasked
returns-in-Ok-step-clause-unasked g c = first_unasked _ _ _ c.in-Ok.ensures.begun c.in-Ok-step.ensures.whole
