use Rattle.std.proofs.Common.{ap, arith}
use Rattle.raft_model.specs.Limits.{command_bytes}
use Rattle.raft_world.proofs.Counting.{entries_more}
use Rattle.raft_world.proofs.weight.add_entries.Goals as goal

pub loop-entry-preserved : goal.loop-entry-preserved
loop-entry-preserved c =
    let more = entries_more c.args.entries.now c.loop-entry.entry-index c.entry-item.result c.loop-entry-test.true c.entry-item.is in
    let own = ap command_bytes c.deref.ensures in
    omega (arith, c.add_command-total.ensures, c.loop-entry.invariant, own)
