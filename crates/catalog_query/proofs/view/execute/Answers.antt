use Rattle.std.proofs.Common.{Ok, sym, subst}
use Rattle.cat_model.specs.Executions.{execute_row, execution}
use Rattle.cat_model.specs.Views.{Kept}
use Rattle.catalog_query.specs.Executing.{Executes}
use Rattle.catalog_query.specs.Standing.{rows_of}
use Rattle.catalog_query.specs.Laws.{stands_execution}
use Rattle.catalog_query.proofs.Naming.{ran_is}
use Rattle.catalog_query.proofs.view.execute.Goals as goal

pub returns-clause-rows : goal.returns-clause-rows
unfolding execute_row
returns-clause-rows c =
    let v = c.view.inside in
    let rows = rows_of v.kv.now.now v.catalog.now.now v.sessions.now.now v.queries.now.now in
    subst (λ (kept : Kept). Executes (execution kept.rows c.args.id c.args.name.now c.args.limit) (Ok c.in_ok-run.field-0)) c.view.view_is
    (ran_is rows c.args.id c.args.name.now c.args.limit c.in-Some.row.now (sym c.in-Some.ensures) c.in_ok-run.field-0 c.in_ok-run.ensures)

pub returns-clause-stands : goal.returns-clause-stands
returns-clause-stands c = λ log h.
    subst (λ o. Executes o (Ok c.in_ok-run.field-0)) (stands_execution c.args.view.now log c.args.id c.args.name.now c.args.limit h) (returns-clause-rows c)
