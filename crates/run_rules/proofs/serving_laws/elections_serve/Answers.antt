use Rattle.run_rules.proofs.Serving.{elected}
use Rattle.run_rules.proofs.serving_laws.elections_serve.Goals as goal

pub returns : goal.returns
returns c = elected
