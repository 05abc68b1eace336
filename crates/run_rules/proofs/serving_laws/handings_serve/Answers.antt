use Rattle.run_rules.proofs.Serving.{handed_on}
use Rattle.run_rules.proofs.serving_laws.handings_serve.Goals as goal

pub returns : goal.returns
returns c = handed_on
