use Rattle.std.proofs.Common.{◌≡◌, take}
use Rattle.catalog_store.specs.Standing.{Within}
use Rattle.catalog_store.specs.Registering.{TouchesEach}
use Rattle.catalog_store.proofs.registrations.touch_each.Given as goal

abbrev pub invariant-loop-name : goal.invariant-loop-name
invariant-loop-name l = TouchesEach (take l.name-index l.names) l.position l.initial.indexes.now l.indexes.now × Within l.position l.indexes.now × (l.indexes.before ≡ l.initial.indexes.before)
