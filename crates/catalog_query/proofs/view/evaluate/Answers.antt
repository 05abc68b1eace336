use Rattle.std.proofs.Common.{◌∙◌, ap}
use Rattle.cat_model.specs.Queries.{answer}
use Rattle.cat_model.specs.Views.{Kept}
use Rattle.catalog_query.specs.Laws.{positions_are, stands_answer, stands_index}
use Rattle.catalog_query.proofs.view.evaluate.Goals as goal

pub returns-clause-answer : goal.returns-clause-answer
returns-clause-answer g c = c.in_ok-answer.ensures ∙ ap (λ (k : Kept). answer c.args.query.now k.rows) c.view.view_is

pub returns-clause-index : goal.returns-clause-index
returns-clause-index g c = c.index.ensures.index

pub returns-clause-kept : goal.returns-clause-kept
returns-clause-kept g c = λ fit. returns-clause-index g c ∙ positions_are c.args.query.now c.args.view.now fit

pub returns-clause-stands : goal.returns-clause-stands
returns-clause-stands g c = λ log h.
    λ i. ((returns-clause-answer g c ∙ stands_answer c.args.view.now log c.args.query.now h) i, (returns-clause-index g c ∙ stands_index c.args.view.now log c.args.query.now h) i)
