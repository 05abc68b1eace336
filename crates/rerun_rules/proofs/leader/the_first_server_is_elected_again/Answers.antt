use Rattle.rerun_rules.proofs.Alone.{there_is_a_later_one}
use Rattle.rerun_rules.proofs.Elected.{later_elected, later_held}
use Rattle.rerun_rules.proofs.leader.the_first_server_is_elected_again.Goals as goal

pub returns : goal.returns
returns c = record { elected = later_elected; known = later_held; possible = there_is_a_later_one }
