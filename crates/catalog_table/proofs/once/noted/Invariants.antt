use Rattle.std.proofs.Common.{◌≡◌, ◌++◌, map}
use Rattle.catalog_table.specs.Names.{text_of}
use Rattle.catalog_table.proofs.once.noted.Given as goal

abbrev pub invariant-loop-name : goal.invariant-loop-name
invariant-loop-name l = l.names ++ map text_of l.name-iterator ≡ map text_of l.found.now
