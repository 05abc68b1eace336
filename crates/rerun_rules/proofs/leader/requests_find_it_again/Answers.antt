use Rattle.rerun_rules.proofs.Finding.{finds_again}
use Rattle.rerun_rules.proofs.leader.requests_find_it_again.Goals as goal

pub returns : goal.returns
returns c = finds_again
