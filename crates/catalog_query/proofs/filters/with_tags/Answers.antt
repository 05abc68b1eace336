use Rattle.std.proofs.Common.{rules, ◌∙◌, ap, filter}
use Rattle.std.proofs.lemmas.Fn.{filter_same}
use Rattle.cat_model.specs.Queries.{has_all_tags}
use Rattle.catalog_query.proofs.filters.with_tags.Goals as goal

pub returns : goal.returns
returns c = c.from.ensures ∙ filter_same _ (has_all_tags c.args.tags.now) _ (λ x b f' k. search rules) _ _ c.retain.ensures.filtered ∙ ap (filter (has_all_tags c.args.tags.now)) c.into_vec-found.ensures
