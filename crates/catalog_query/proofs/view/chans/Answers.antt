use Rattle.std.proofs.Common.{◌∙◌, ap}
use Rattle.std.proofs.lemmas.Result.{IfOk-weaker}
use Rattle.cat_model.specs.Channels.{chans}
use Rattle.cat_model.specs.Views.{Kept}
use Rattle.catalog_query.specs.Laws.{stands_chans}
use Rattle.catalog_query.proofs.view.chans.Goals as goal

pub returns-clause-chans : goal.returns-clause-chans
returns-clause-chans c =
    IfOk-weaker c.of_query.result _ _ (λ l e. e ∙ ap (λ (k : Kept). chans c.args.query.now k.rows) c.view.view_is) (c.of_query.ensures c.view.inside.sessions.now.now c.view.inside.queries.now.now)

pub returns-clause-stands : goal.returns-clause-stands
returns-clause-stands c = λ log h. IfOk-weaker c.of_query.result _ _ (λ l e. e ∙ stands_chans c.args.view.now log c.args.query.now h) (returns-clause-chans c)
