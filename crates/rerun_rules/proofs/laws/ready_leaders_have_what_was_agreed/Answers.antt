use Rattle.rerun_rules.proofs.Twins.{ready_has_it}
use Rattle.rerun_rules.proofs.laws.ready_leaders_have_what_was_agreed.Goals as goal

pub returns : goal.returns
returns c = ready_has_it
