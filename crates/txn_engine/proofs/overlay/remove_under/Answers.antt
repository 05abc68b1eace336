use Rattle.std.proofs.Common.{◌∙◌, ap}
use Rattle.std.proofs.lemmas.Result.{on_ok_weaker}
use Rattle.txn_engine.specs.Changes.{changed}
use Rattle.txn_engine.specs.Outcomes.{each_removed}
use Rattle.txn_engine.proofs.Laid.{changed_tree}
use Rattle.txn_engine.proofs.overlay.remove_under.Goals as goal

pub returns-clause-rows : goal.returns-clause-rows
returns-clause-rows g c =
    on_ok_weaker c.remove_each.result (λ e. ap (λ l. changed l (g.R.KvRows.rows c.args.rows.now)) (e ∙ ap (λ t. each_removed t c.args.changes.now.now) c.in_ok-table.ensures) ∙ changed_tree c.args.prefix.now c.args.changes.now.now (g.R.KvRows.rows c.args.rows.now) c.in_order.ensures c.requires) c.remove_each.ensures.ok
