use Rattle.std.proofs.Common.{take}
use Rattle.catalog_store.specs.Freeing.{Notes}
use Rattle.catalog_store.proofs.key_commands.freed_keys.note_each.Given as goal

abbrev pub invariant-loop-key : goal.invariant-loop-key
invariant-loop-key l = Notes l.session (take l.key-index l.keys) l.initial.found.now l.found.now
