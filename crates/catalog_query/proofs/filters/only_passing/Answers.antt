use Rattle.std.proofs.Common.{rules, ◌∙◌, ap, filter}
use Rattle.std.proofs.lemmas.Fn.{filter_same}
use Rattle.cat_model.specs.Queries.{all_pass}
use Rattle.catalog_query.proofs.filters.only_passing.Goals as goal

pub returns : goal.returns
returns c = c.from.ensures ∙ filter_same _ all_pass _ (λ x b f' k. search rules) _ _ c.retain.ensures.filtered ∙ ap (filter all_pass) c.into_vec-found.ensures
