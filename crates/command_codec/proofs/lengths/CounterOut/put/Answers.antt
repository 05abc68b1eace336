use Rattle.std.proofs.Common.{sym, ◌∙◌, arith}
use Rattle.command_codec.proofs.Taking.{all_counted}
use Rattle.command_codec.proofs.lengths.CounterOut.put.Goals as goal

pub returns : goal.returns
returns c = c.saturating_add-self.ensures ∙ sym (all_counted c.args.self.now.count c.args.bytes.now (omega arith))
