use Rattle.std.proofs.Common.{arith, ◌∙◌}
use Rattle.raft_node.proofs.Windows.{term_first, term_more}
use Rattle.raft_node.proofs.outbox.term_at.Goals as goal

pub returns-then-index-last : goal.returns-then-index-last
returns-then-index-last c = c.term_at.ensures ∙ term_first c.args.index c.args.log.now c.args.more.now (omega arith)

pub returns-else-index-last : goal.returns-else-index-last
returns-else-index-last c = c.term_at-else-index-last.ensures ∙ term_more c.args.index c.args.log.now c.args.more.now (omega arith)
