use Rattle.std.proofs.Common.{◌∙◌, ap}
use Rattle.session_table.specs.Places.{has_id}
use Rattle.session_table.proofs.Identifiers.{id_added}
use Rattle.session_table.proofs.ids.add.Goals as goal

pub returns : goal.returns
returns c = λ k. ap (has_id k) c.in_default.ensures.ok ∙ id_added k c.args.id c.args.ids.now.now
