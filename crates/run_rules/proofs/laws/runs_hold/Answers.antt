use Rattle.run_rules.proofs.Holding.{run_holds}
use Rattle.run_rules.proofs.laws.runs_hold.Goals as goal

pub returns : goal.returns
returns c = run_holds
