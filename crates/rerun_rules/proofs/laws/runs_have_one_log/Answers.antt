use Rattle.rerun_rules.proofs.Twins.{one_log}
use Rattle.rerun_rules.proofs.laws.runs_have_one_log.Goals as goal

pub returns : goal.returns
returns c = one_log
