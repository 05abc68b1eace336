use Rattle.std.proofs.Common.{true, refl}
use Rattle.cluster_rules.proofs.Whole.{run_whole}
use Rattle.cluster_rules.proofs.laws.whole_runs_leave_none_behind.Goals as goal

pub returns : goal.returns
returns x = λ start i moves c r. run_whole start i true moves c r refl
