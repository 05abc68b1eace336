use Rattle.run_rules.proofs.ServingHolds.{holds}
use Rattle.run_rules.proofs.serving_laws.serving_holds.Goals as goal

pub returns : goal.returns
returns c = holds
