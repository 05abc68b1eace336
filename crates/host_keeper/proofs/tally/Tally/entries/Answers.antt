use Rattle.std.proofs.Common.{ap, ◌∙◌, length}
use Rattle.host_keeper.proofs.Tallying.{totals_length}
use Rattle.host_keeper.proofs.tally.Tally.entries.Goals as goal

pub returns : goal.returns
returns c = λ log is. ap length (c.as_slice.ensures.value ∙ c.self.view_is ∙ is) ∙ totals_length 0 log
