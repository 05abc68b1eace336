use Rattle.std.proofs.Common.{◌∙◌, ap}
use Rattle.std.proofs.lemmas.Result.{on_ok_weaker}
use Rattle.txn_engine.specs.Changes.{changed}
use Rattle.txn_engine.proofs.Laid.{changed_put}
use Rattle.txn_engine.proofs.overlay.note.Goals as goal

pub returns-clause-rows : goal.returns-clause-rows
returns-clause-rows g c =
    on_ok_weaker c.put_change.result (λ e. ap (λ l. changed l (g.R.KvRows.rows c.args.rows.now)) e ∙ changed_put c.args.change c.args.changes.now.now (g.R.KvRows.rows c.args.rows.now) c.in_order.ensures c.requires) c.put_change.ensures.ok
