use Rattle.run_rules.proofs.Serving.{none_closed}
use Rattle.run_rules.proofs.serving_laws.nothing_is_closed.Goals as goal

pub returns : goal.returns
returns c = none_closed
