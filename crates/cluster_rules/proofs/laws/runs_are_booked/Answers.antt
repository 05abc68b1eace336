use Rattle.cluster_rules.proofs.Booked.{run_books}
use Rattle.cluster_rules.proofs.laws.runs_are_booked.Goals as goal

pub returns : goal.returns
returns c = run_books
