use Rattle.node_journals.proofs.Playing.{election_row}
use Rattle.node_journals.proofs.an_election_with_losses.Goals as goal

pub returns : goal.returns
returns c = election_row
