use Rattle.rerun_rules.proofs.Beginning.{only_first_leads}
use Rattle.rerun_rules.proofs.leader.nobody_else_leads.Goals as goal

pub returns : goal.returns
returns c = only_first_leads
