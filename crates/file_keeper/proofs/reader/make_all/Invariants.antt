use Rattle.std.proofs.Common.{◌≤◌, ◌-◌, length, take}
use Rattle.file_keeper.specs.Journal.{Leads}
use Rattle.file_keeper.proofs.reader.make_all.Given as goal

abbrev pub invariant-records : goal.invariant-records
invariant-records l = record {
  within : l.used ≤ length l.bytes;
  leads : Leads l.fn.log (take l.used l.bytes) l.log;
}

abbrev pub decreases-records : goal.decreases-records
decreases-records l = length l.bytes - l.used
