use Rattle.cat_model.proofs.Clones.{command_same}
use Rattle.cluster_works.proofs.copies.copy_command.Goals as goal

pub returns : goal.returns
returns c = command_same c.args.command.now c.in_ok-clone.field-0 c.in_ok-clone.ensures.cases
