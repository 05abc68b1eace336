use Rattle.run_rules.proofs.Legality.{first_run_legal}
use Rattle.run_rules.proofs.laws.runs_are_legal.Goals as goal

pub returns : goal.returns
returns c = first_run_legal
