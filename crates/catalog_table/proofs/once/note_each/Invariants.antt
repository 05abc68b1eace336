use Rattle.std.proofs.Common.{◌≡◌, ◌||◌, ℕ, List, map}
use Rattle.catalog_table.specs.Names.{is_among, text_of}
use Rattle.catalog_table.proofs.once.note_each.Given as goal

abbrev pub invariant-loop-text : goal.invariant-loop-text
invariant-loop-text l = (name : List ℕ) → (is_among (map text_of l.found.now) name || is_among l.text-iterator.rest.items name) ≡ (is_among (map text_of l.fn.found.now) name || is_among l.fn.names.items name)
