use Rattle.std.proofs.Common.{◌∙◌}
use Rattle.json_bodies.proofs.Lengths.{no_item}
use Rattle.json_bodies.proofs.session.is_empty.Goals as goal

pub returns : goal.returns
returns c = c.is_empty.ensures ∙ no_item c.args.list.now
