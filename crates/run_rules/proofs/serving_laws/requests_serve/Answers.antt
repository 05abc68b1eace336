use Rattle.run_rules.proofs.Serving.{asked_on}
use Rattle.run_rules.proofs.serving_laws.requests_serve.Goals as goal

pub returns : goal.returns
returns c = asked_on
