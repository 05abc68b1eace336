use Rattle.std.proofs.Common.{◌≡◌, ◌++◌, map}
use Rattle.catalog_store.specs.Freeing.{freed_holding}
use Rattle.catalog_store.proofs.key_commands.freed_keys.freed_of.Given as goal

abbrev pub invariant-loop-holding : goal.invariant-loop-holding
invariant-loop-holding l = l.freed ++ map freed_holding l.holding-iterator.rest.items ≡ map freed_holding l.fn.holdings.items
