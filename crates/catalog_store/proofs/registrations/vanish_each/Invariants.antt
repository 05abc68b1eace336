use Rattle.std.proofs.Common.{◌≡◌, ◌≤◌, take}
use Rattle.catalog_store.specs.Registering.{VanishesEach}
use Rattle.catalog_store.proofs.registrations.vanish_each.Given as goal

abbrev pub invariant-loop-name : goal.invariant-loop-name
invariant-loop-name l = VanishesEach (take l.name-index l.names) l.position l.initial.indexes.now l.indexes.now × (l.indexes.now.vanished ≤ l.position) × (l.indexes.before ≡ l.initial.indexes.before)
