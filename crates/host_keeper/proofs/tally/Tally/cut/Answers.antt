use Rattle.std.proofs.Common.{ap, ◌∙◌, take}
use Rattle.host_keeper.proofs.Tallying.{totals_cut}
use Rattle.host_keeper.proofs.tally.Tally.cut.Goals as goal

pub returns : goal.returns
returns c = λ log is. c.truncate.ensures.items ∙ ap (take c.args.keep) (c.self.view_is ∙ is) ∙ totals_cut c.args.keep 0 log
