use Rattle.std.proofs.Common.{rules, ◌∙◌, ap, filter}
use Rattle.std.proofs.lemmas.Fn.{filter_same}
use Rattle.cat_model.specs.Executions.{none_critical}
use Rattle.catalog_query.proofs.filters.not_critical.Goals as goal

pub returns : goal.returns
returns c = c.from.ensures ∙ filter_same _ none_critical _ (λ x b f' k. search rules) _ _ c.retain.ensures.filtered ∙ ap (filter none_critical) c.into_vec-found.ensures
