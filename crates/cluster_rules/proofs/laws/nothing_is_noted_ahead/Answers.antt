use Rattle.cluster_rules.proofs.Timely.{run_timely}
use Rattle.cluster_rules.proofs.laws.nothing_is_noted_ahead.Goals as goal

pub returns : goal.returns
returns c = run_timely
