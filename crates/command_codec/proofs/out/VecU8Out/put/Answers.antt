use Rattle.std.proofs.Common.{sym, ◌∙◌}
use Rattle.command_codec.proofs.Taking.{all_kept}
use Rattle.command_codec.proofs.out.VecU8Out.put.Goals as goal

pub returns : goal.returns
returns c = c.in_ok-extend_from_slice.ensures.items ∙ sym (all_kept c.args.self.now.items c.args.bytes.now)
