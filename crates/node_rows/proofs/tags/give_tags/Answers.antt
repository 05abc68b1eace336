use Rattle.std.proofs.Common.{arith}
use Rattle.node_rows.proofs.Tagging.{set_tagged, none_tagged}
use Rattle.node_rows.proofs.tags.give_tags.Goals as goal

pub returns-then-at-len : goal.returns-then-at-len
returns-then-at-len c = set_tagged c.args.services.now.items c.args.new.at c.args.new.tags c.index_mut.result.now (omega (arith, c.if-at-len.true)) c.index_mut.ensures.value

pub returns-else-at-len : goal.returns-else-at-len
returns-else-at-len c = none_tagged c.args.services.now.items c.args.new.at c.args.new.tags (omega (arith, c.if-at-len.false))
