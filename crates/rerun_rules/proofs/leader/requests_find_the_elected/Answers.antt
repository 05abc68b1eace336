use Rattle.rerun_rules.proofs.Finding.{finds_elected}
use Rattle.rerun_rules.proofs.leader.requests_find_the_elected.Goals as goal

pub returns : goal.returns
returns c = finds_elected
