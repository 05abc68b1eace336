use Rattle.std.proofs.Common.{sym, subst}
use Rattle.catalog_store.specs.Steps.{Moves}
use Rattle.catalog_store.proofs.Changes.{changes_move}
use Rattle.catalog_store.proofs.key_commands.transaction.write_changes.Goals as goal

pub returns-clause-moves : goal.returns-clause-moves
returns-clause-moves c =
    subst (Moves c.args.position c.args.table.now c.make_each.new.table) (sym c.in_ok-chans.ensures)
    (changes_move c.args.position c.args.changes.now c.args.table.now c.make_each.new.table c.requires.earlier c.requires.order c.requires.changes c.in_ok-make_each.ensures.ok)
