use Rattle.std.proofs.Common.{arith, sym}
use Rattle.raft_node.proofs.Terms.{term_is, term_none, term_past}
use Rattle.raft_node.proofs.log.term_at.Goals as goal

pub returns-then-index-eq0 : goal.returns-then-index-eq0
returns-then-index-eq0 c = sym (term_none c.args.index c.args.log.now (omega arith))

pub returns-then-index-log : goal.returns-then-index-log
returns-then-index-log c = sym (term_past c.args.index c.args.log.now (omega arith))

pub returns : goal.returns
returns c = term_is c.args.log.now c.args.index _ (omega arith) (omega arith)
