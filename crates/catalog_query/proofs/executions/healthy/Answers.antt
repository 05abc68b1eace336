use Rattle.std.proofs.Common.{◌∙◌, cond, sym, ap, filter}
use Rattle.cat_model.specs.Queries.{all_pass}
use Rattle.cat_model.specs.Executions.{none_critical}
use Rattle.catalog_query.proofs.executions.healthy.Goals as goal

pub returns-then-passing : goal.returns-then-passing
returns-then-passing c = c.only_passing.ensures ∙ ap (λ b. filter (λ x. cond b (all_pass x) (none_critical x)) c.args.found) (sym c.if-passing.true)

pub returns-else-passing : goal.returns-else-passing
returns-else-passing c = c.not_critical.ensures ∙ ap (λ b. filter (λ x. cond b (all_pass x) (none_critical x)) c.args.found) (sym c.if-passing.false)
