use Rattle.rerun_rules.proofs.Finding.{finds_leader}
use Rattle.rerun_rules.proofs.leader.requests_find_the_leader.Goals as goal

pub returns : goal.returns
returns c = finds_leader
