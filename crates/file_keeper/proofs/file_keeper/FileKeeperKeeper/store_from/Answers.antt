use Rattle.std.proofs.Common.{arith, ◌∙◌}
use Rattle.store_records.specs.declared.records.Record.TheVariants.{Store}
use Rattle.file_keeper.proofs.Putting.{store_put}
use Rattle.file_keeper.proofs.file_keeper.FileKeeperKeeper.store_from.Goals as goal

pub put-requires-clause-fits : goal.put-requires-clause-fits
put-requires-clause-fits g c =
    let found = rw c.in-Ok-Some.field-0-is at c.in-Ok-Some.ensures in
    (Store c.args.index c.args.entries.now, store_put c.args.self.now.bytes c.as_slice.result.now c.args.index c.args.entries.now (omega arith) (c.are_entries.ensures.0 c.if-not-are_entries.false) found.0 (c.as_slice.ensures ∙ found.1) c.requires)

pub returns-in-Ok-Some-clause-held : goal.returns-in-Ok-Some-clause-held
returns-in-Ok-Some-clause-held g c =
    let found = rw c.in-Ok-Some.field-0-is at c.in-Ok-Some.ensures in
    c.put.ensures.held (Store c.args.index c.args.entries.now)
    (store_put c.args.self.now.bytes c.as_slice.result.now c.args.index c.args.entries.now (omega arith) (c.are_entries.ensures.0 c.if-not-are_entries.false) found.0 (c.as_slice.ensures ∙ found.1) c.requires)
