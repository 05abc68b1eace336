use Rattle.std.proofs.Common.{ap, ◌∙◌, min, ◌-◌, ◌^◌}
use Rattle.cat_model.specs.declared.command.Command.{Command}
use Rattle.file_keeper.proofs.Counting.{entry_cost, counted_more, counted_all}
use Rattle.file_keeper.proofs.rebuilt.log_bytes.Goals as goal

pub loop-entry-preserved : goal.loop-entry-preserved
loop-entry-preserved c =
    counted_more c.args.entries.now c.loop-entry.entry-index c.loop-entry.total c.bytes_in_log.result c.saturating_add-total.result c.entry-item.result c.loop-entry-test.true c.loop-entry.invariant
    (c.bytes_in_log.ensures ∙ ap (λ (m : Command). min (entry_cost (record c.entry-item.result { command = m })) (2 ^ 64 - 1)) c.deref.ensures) c.entry-item.is c.saturating_add-total.ensures

pub returns : goal.returns
returns c = counted_all c.args.entries.now c.loop-entry.entry-index c.loop-entry.total c.loop-entry-test.false c.loop-entry.invariant
