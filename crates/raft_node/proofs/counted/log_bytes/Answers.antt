use Rattle.std.proofs.Common.{◌∙◌, ap}
use Rattle.cat_model.specs.declared.command.Command.{Command}
use Rattle.command_codec.specs.Counts.{capped}
use Rattle.raft_node.specs.Accepting.{counted_bytes}
use Rattle.raft_node.proofs.Fitting.{count_end, count_step}
use Rattle.raft_node.proofs.counted.log_bytes.Goals as goal

pub loop-entry-preserved : goal.loop-entry-preserved
loop-entry-preserved c = record {
  counted = count_step c.args.entries.now c.loop-entry.entry-index c.loop-entry.total c.bytes_in_log-bytes.result c.saturating_add-total.result c.entry-item.result c.loop-entry-test.true (c.bytes_in_log-bytes.ensures ∙ ap (λ (m : Command). capped (counted_bytes (record c.entry-item.result { command = m }))) c.deref.ensures) c.entry-item.is c.saturating_add-total.ensures c.loop-entry.invariant.counted;
  fits = c.saturating_add-total.type_inv;
}

pub returns : goal.returns
returns c = count_end c.args.entries.now c.loop-entry.entry-index c.loop-entry.total c.loop-entry-test.false c.loop-entry.invariant.fits c.loop-entry.invariant.counted
