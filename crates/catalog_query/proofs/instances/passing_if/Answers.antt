use Rattle.std.proofs.Common.{◌∙◌, ◌||◌, not, sym, ap, filter}
use Rattle.cat_model.specs.Queries.{all_pass}
use Rattle.catalog_query.proofs.Filtering.{filter_true}
use Rattle.catalog_query.proofs.instances.passing_if.Goals as goal

pub returns-else-passing : goal.returns-else-passing
returns-else-passing c = sym (filter_true c.args.found) ∙ ap (λ b. filter (λ x. not b || all_pass x) c.args.found) (sym c.if-passing.false)
