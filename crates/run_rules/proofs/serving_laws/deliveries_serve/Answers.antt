use Rattle.run_rules.proofs.Serving.{settled_on, partly_on}
use Rattle.run_rules.proofs.serving_laws.deliveries_serve.Goals as goal

pub returns-clause-whole : goal.returns-clause-whole
returns-clause-whole c = settled_on

pub returns-clause-cut : goal.returns-clause-cut
returns-clause-cut c = partly_on
