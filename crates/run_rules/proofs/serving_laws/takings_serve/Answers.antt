use Rattle.run_rules.proofs.Serving.{taken_on}
use Rattle.run_rules.proofs.serving_laws.takings_serve.Goals as goal

pub returns : goal.returns
returns c = taken_on
