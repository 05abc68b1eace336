use Rattle.std.proofs.Common.{ap, sym, arith}
use Rattle.raft_node.specs.declared.counted.Counted.{Counted}
use Rattle.raft_node.proofs.Fitting.{front_too_heavy, limit_is}
use Rattle.raft_node.proofs.appends.keeps_limits.Goals as goal

pub returns-then-counted-gt-MOST_LOG_BYTES-clause-keeps : goal.returns-then-counted-gt-MOST_LOG_BYTES-clause-keeps
returns-then-counted-gt-MOST_LOG_BYTES-clause-keeps c =
    sym (front_too_heavy c.args.log.now c.args.entries.now c.args.kept c.counted_at.result.bytes (ap (λ (z : Counted). z.bytes) c.counted_at.ensures.same) c.if-counted-gt-MOST_LOG_BYTES.true)

pub returns-clause-keeps : goal.returns-clause-keeps
returns-clause-keeps c =
    limit_is c.args.log.now c.args.entries.now c.args.kept c.counted_at.result.bytes c.log_bytes.result (omega arith) (omega arith) (ap (λ (z : Counted). z.bytes) c.counted_at.ensures.same) c.log_bytes.ensures (omega arith)
