use Rattle.rerun_rules.proofs.Beginning.{leads_on}
use Rattle.rerun_rules.proofs.leader.a_leader_stays.Goals as goal

pub returns : goal.returns
returns c = leads_on
