use Rattle.std.proofs.Common.{arith, length, ◌<◌, ◌-◌, ◌∙◌, ap}
use Rattle.std.proofs.lemmas.Bool.Decides.{nat_tests}
use Rattle.command_codec.specs.Counts.{capped}
use Rattle.raft_model.specs.Limits.{batch, command_bytes}
use Rattle.raft_node.proofs.Batches.{batch_full, batch_more, batch_start, batch_stops, batch_whole}
use Rattle.raft_node.proofs.batch.batch_length.Goals as goal

pub loop-count-init : goal.loop-count-init
loop-count-init c =
    let l : 0 < length c.args.entries.now = grind (arith, nat_tests, c.if-is_empty.ensures, c.is_empty.ensures) in
    record {
      some = omega arith;
      few = omega arith;
      within = omega (arith, l);
      same = batch_start c.args.entries.now _ c.encoded_len-total.result l (c.encoded_len-total.ensures.counted ∙ ap (λ m. capped (command_bytes m)) c.deref.ensures);
    }

pub returns-then-total-gt-MOST_BYTES-clause-same : goal.returns-then-total-gt-MOST_BYTES-clause-same
returns-then-total-gt-MOST_BYTES-clause-same c =
    batch_stops (batch c.args.entries.now) c.args.entries.now c.loop-count.count (64 - c.loop-count.count) c.loop-count.total _ c.encoded_len.result c.saturating_add-total.result (omega arith)
    (c.encoded_len.ensures.counted ∙ ap (λ m. capped (command_bytes m)) c.deref-in-loop-count.ensures) c.saturating_add-total.ensures (omega arith) c.loop-count.invariant.same

pub loop-count-preserved : goal.loop-count-preserved
loop-count-preserved c = record {
  some = omega arith;
  few = omega arith;
  within = omega arith;
  same = batch_more (batch c.args.entries.now) c.args.entries.now c.loop-count.count c.loop-count.total _ c.encoded_len.result c.saturating_add-total.result (omega arith) (omega arith)
      (c.encoded_len.ensures.counted ∙ ap (λ m. capped (command_bytes m)) c.deref-in-loop-count.ensures) c.saturating_add-total.ensures (omega arith) c.loop-count.invariant.same;
}

pub returns-else-count-entries-clause-same : goal.returns-else-count-entries-clause-same
returns-else-count-entries-clause-same c = batch_whole (batch c.args.entries.now) c.args.entries.now c.loop-count.count (64 - c.loop-count.count) c.loop-count.total (omega arith) c.loop-count.invariant.same

pub returns-after-loop-count-clause-same : goal.returns-after-loop-count-clause-same
returns-after-loop-count-clause-same c = batch_full (batch c.args.entries.now) c.args.entries.now c.loop-count.count (64 - c.loop-count.count) c.loop-count.total (omega arith) c.loop-count.invariant.same
