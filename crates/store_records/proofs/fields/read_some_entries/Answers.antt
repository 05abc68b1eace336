use Rattle.std.proofs.lemmas.Result.{err_from_is_err_and}
use Rattle.command_codec.specs.Reading.{items_at}
use Rattle.command_codec.proofs.ItemSteps.{goes_on, ends, is_done}
use Rattle.store_records.specs.RecordReading.{entry_at}
use Rattle.store_records.proofs.fields.read_some_entries.Goals as goal

pub returns-in_err-entry : goal.returns-in_err-entry
returns-in_err-entry c =
    let p = err_from_is_err_and c.from_residual.result c.from_residual.ensures.1 in
    rw (p.1, p.2) (ends entry_at c.in_err-entry.field-0.0 c.loop.entries c.args.count c.loop.counter c.loop.rest.now (items_at entry_at c.args.count c.args.bytes.now) c.loop-test.true c.in_err-entry.ensures c.loop.invariant)

pub loop-preserved : goal.loop-preserved
loop-preserved c =
    rw c.in_ok-push.ensures.ok (goes_on entry_at c.loop.entries c.args.count c.loop.counter c.loop.rest.now c.in_ok-entry.entry c.in_ok-entry.after.now (items_at entry_at c.args.count c.args.bytes.now) c.loop-test.true c.in_ok-entry.ensures c.loop.invariant)

pub returns : goal.returns
returns c = is_done entry_at c.loop.entries c.args.count c.loop.counter c.loop.rest.now (items_at entry_at c.args.count c.args.bytes.now) c.loop-test.false c.loop.invariant
