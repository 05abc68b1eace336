use Rattle.std.proofs.Common.{◌≡◌, ◌++◌, length, take}
use Rattle.std.specs.List.{flat_map}
use Rattle.cat_model.specs.Spelling.{number_bytes}
use Rattle.store_records.specs.Records.{entry_bytes}
use Rattle.store_records.proofs.writer.put_entries.Given as goal

abbrev pub invariant-loop-entry : goal.invariant-loop-entry
invariant-loop-entry l = l.out ≡ l.fn.out ++ (number_bytes (length l.entries) ++ flat_map entry_bytes (take l.entry-index l.entries))
