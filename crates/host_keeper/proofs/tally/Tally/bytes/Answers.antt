use Rattle.std.proofs.Common.{ap, ◌∙◌}
use Rattle.host_keeper.specs.Tallies.{last_or}
use Rattle.host_keeper.proofs.Tallying.{totals_bytes}
use Rattle.host_keeper.proofs.tally.Tally.bytes.Goals as goal

pub returns : goal.returns
returns c = λ log is. c.last.ensures ∙ ap (last_or 0) is ∙ totals_bytes log
