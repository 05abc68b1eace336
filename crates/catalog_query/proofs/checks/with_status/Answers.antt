use Rattle.std.proofs.Common.{◌∙◌, sym, ap, filter}
use Rattle.std.proofs.lemmas.Result.{IfOk-weaker}
use Rattle.cat_model.specs.Queries.{has_status}
use Rattle.catalog_query.proofs.Filtering.{filter_true}
use Rattle.catalog_query.proofs.checks.with_status.Goals as goal

pub returns-in-None : goal.returns-in-None
returns-in-None c = IfOk-weaker c.checks.result _ _ (λ l e. e ∙ sym (filter_true c.args.catalog.now.now.checks) ∙ ap (λ o. filter (has_status o) c.args.catalog.now.now.checks) (sym c.in-None.is)) c.checks.ensures
