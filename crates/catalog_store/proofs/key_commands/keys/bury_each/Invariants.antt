use Rattle.std.proofs.Common.{take}
use Rattle.catalog_store.specs.Steps.{BuriesEach}
use Rattle.catalog_store.proofs.key_commands.keys.bury_each.Given as goal

abbrev pub invariant-loop-key : goal.invariant-loop-key
invariant-loop-key l = BuriesEach (take l.key-index l.keys) l.position l.initial.table l.table
