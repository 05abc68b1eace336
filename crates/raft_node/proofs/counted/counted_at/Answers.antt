use Rattle.std.proofs.Common.{ℕ, ap, ◌∙◌, arith}
use Rattle.raft_node.specs.declared.counted.Counted.{Counted}
use Rattle.raft_node.proofs.Fitting.{count_back, count_on}
use Rattle.raft_node.proofs.counted.counted_at.Goals as goal

-- a count of so many entries
counts : (entries : ℕ) → ℕ → Counted
counts entries bytes = record { entries = entries; bytes = bytes }

pub returns-then-counted-entries-clause-count : goal.returns-then-counted-entries-clause-count
returns-then-counted-entries-clause-count c = record {
  within = c.requires.within;
  bytes = c.saturating_add-bytes.ensures ∙ count_on c.args.log.now c.args.counted.entries c.args.entries c.args.counted.bytes c.log_bytes-more.result c.if-counted-entries.true c.requires.counted.bytes c.log_bytes-more.ensures;
}

pub returns-then-counted-entries-clause-same : goal.returns-then-counted-entries-clause-same
unfolding counts
returns-then-counted-entries-clause-same c =
    ap (counts c.args.entries) (c.saturating_add-bytes.ensures ∙ count_on c.args.log.now c.args.counted.entries c.args.entries c.args.counted.bytes c.log_bytes-more.result c.if-counted-entries.true c.requires.counted.bytes c.log_bytes-more.ensures)

pub overflow_sub-bytes : goal.overflow_sub-bytes
overflow_sub-bytes c =
    (count_back c.args.log.now c.args.counted.entries c.args.entries c.args.counted.bytes c.log_bytes-cut.result (omega arith) c.if-counted-lt18446744073709551615.true c.requires.counted.bytes c.log_bytes-cut.ensures).0

pub returns-then-counted-lt18446744073709551615-clause-count : goal.returns-then-counted-lt18446744073709551615-clause-count
returns-then-counted-lt18446744073709551615-clause-count c = record {
  within = c.requires.within;
  bytes = (count_back c.args.log.now c.args.counted.entries c.args.entries c.args.counted.bytes c.log_bytes-cut.result (omega arith) c.if-counted-lt18446744073709551615.true c.requires.counted.bytes c.log_bytes-cut.ensures).1;
}

pub returns-then-counted-lt18446744073709551615-clause-same : goal.returns-then-counted-lt18446744073709551615-clause-same
unfolding counts
returns-then-counted-lt18446744073709551615-clause-same c =
    ap (counts c.args.entries) (count_back c.args.log.now c.args.counted.entries c.args.entries c.args.counted.bytes c.log_bytes-cut.result (omega arith) c.if-counted-lt18446744073709551615.true c.requires.counted.bytes c.log_bytes-cut.ensures).1
