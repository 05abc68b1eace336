use Rattle.rerun_rules.proofs.Alone.{there_is_one}
use Rattle.rerun_rules.proofs.Elected.{is_elected, is_held}
use Rattle.rerun_rules.proofs.leader.the_first_server_is_elected.Goals as goal

pub returns : goal.returns
returns c = record { elected = is_elected; known = is_held; possible = there_is_one }
