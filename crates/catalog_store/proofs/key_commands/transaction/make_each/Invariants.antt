use Rattle.std.proofs.Common.{take}
use Rattle.catalog_store.specs.Changes.{MakesEach}
use Rattle.catalog_store.proofs.key_commands.transaction.make_each.Given as goal

abbrev pub invariant-loop-change : goal.invariant-loop-change
invariant-loop-change l = MakesEach (take l.change-index l.changes) l.position l.initial.table l.table
