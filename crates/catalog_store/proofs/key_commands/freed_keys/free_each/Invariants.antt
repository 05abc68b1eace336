use Rattle.std.proofs.Common.{take}
use Rattle.catalog_store.specs.Freeing.{Frees}
use Rattle.catalog_store.proofs.key_commands.freed_keys.free_each.Given as goal

abbrev pub invariant-loop-holding : goal.invariant-loop-holding
invariant-loop-holding l = Frees (take l.holding-index l.holdings) l.position l.initial.table l.table
