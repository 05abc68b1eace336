use Rattle.rerun_rules.proofs.Clusters.{ready_shows_it}
use Rattle.rerun_rules.proofs.laws.ready_servers_show_what_was_agreed.Goals as goal

pub returns : goal.returns
returns c = ready_shows_it
