use Rattle.std.proofs.Common.{◌∙◌, ap}
use Rattle.catalog_query.specs.Standing.{view_index}
use Rattle.catalog_query.specs.Laws.{stands_index}
use Rattle.catalog_query.proofs.view.index.Goals as goal

pub returns-clause-index : goal.returns-clause-index
returns-clause-index c = c.of_query.ensures c.view.inside.sessions.now.now c.view.inside.queries.now.now ∙ ap (view_index c.args.query.now) c.view.view_is

pub returns-clause-stands : goal.returns-clause-stands
returns-clause-stands c = λ log h. returns-clause-index c ∙ stands_index c.args.view.now log c.args.query.now h
