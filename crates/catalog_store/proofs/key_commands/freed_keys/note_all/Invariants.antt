use Rattle.std.proofs.Common.{take}
use Rattle.catalog_store.specs.Freeing.{NotesOf}
use Rattle.catalog_store.proofs.key_commands.freed_keys.note_all.Given as goal

abbrev pub invariant-loop-session : goal.invariant-loop-session
invariant-loop-session l = NotesOf (take l.session-index l.gone) l.table.now.rows l.found.now
