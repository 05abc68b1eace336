use Rattle.std.proofs.Common.{◌∙◌}
use Rattle.std.proofs.lemmas.Result.{IfOk-weaker}
use Rattle.session_table.specs.Nodes.{is_on_some}
use Rattle.session_table.proofs.Finding.{rows_again}
use Rattle.session_table.proofs.rows.rows_on_some.Goals as goal

pub returns : goal.returns
returns c =
    let node = c.args.node.now in let rows = c.args.rows.now.now in
    IfOk-weaker c.rows_of.result _ _ (λ v e. e ∙ rows_again (is_on_some node c.args.checks.now) rows c.as_slice.result.now c.in_order.ensures (c.as_slice.ensures.value ∙ c.in_ok-ids.ensures)) c.rows_of.ensures
