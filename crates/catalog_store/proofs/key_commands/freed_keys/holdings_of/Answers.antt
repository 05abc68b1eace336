use Rattle.std.proofs.Common.{◌∙◌, sym, subst}
use Rattle.cat_model.specs.Keys.{text_cmp}
use Rattle.cat_model.specs.Tables.{Ascends}
use Rattle.catalog_store.specs.Freeing.{holding_key}
use Rattle.catalog_store.proofs.FreeingNotes.{notes_are}
use Rattle.catalog_store.proofs.key_commands.freed_keys.holdings_of.Goals as goal

pub returns-clause-found : goal.returns-clause-found
returns-clause-found c = c.in_ok-all.ensures.all ∙ notes_are c.args.gone.now c.args.table.now.now.rows c.note_all.ensures.order c.in_ok-found.found.now c.all_of.ensures.order c.in_ok-found.ensures.found

pub returns-clause-keys : goal.returns-clause-keys
returns-clause-keys c = subst (Ascends text_cmp holding_key) (sym c.in_ok-all.ensures.all) c.all_of.ensures.order
