use Rattle.node_journals.proofs.Whole.{one_world}
use Rattle.node_journals.proofs.journals_are_of_one_world.Goals as goal

pub returns : goal.returns
returns c = one_world
