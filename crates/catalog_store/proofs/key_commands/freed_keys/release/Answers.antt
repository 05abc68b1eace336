use Rattle.std.proofs.Common.{sym, ◌∙◌}
use Rattle.std.proofs.lemmas.Result.{on_ok_weaker}
use Rattle.catalog_store.proofs.FreeingSteps.{sets_released}
use Rattle.catalog_store.proofs.key_commands.freed_keys.release.Goals as goal

pub returns-in-Some-clause-ok : goal.returns-in-Some-clause-ok
returns-in-Some-clause-ok c =
    on_ok_weaker c.put_row.result (sets_released c.args.key.now c.args.position c.in-Some.row c.args.table.now c.put_row.new.table (sym c.in-Some.is ∙ c.in_ok-released_row.ensures)) c.put_row.ensures.ok
