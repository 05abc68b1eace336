use Rattle.std.proofs.Common.{rules, ◌∙◌, ap, filter}
use Rattle.std.proofs.lemmas.Fn.{filter_same}
use Rattle.cat_model.specs.Executions.{meets_all_tags}
use Rattle.catalog_query.proofs.filters.meeting_tags.Goals as goal

pub returns : goal.returns
returns c = c.from.ensures ∙ filter_same _ (meets_all_tags c.args.wanted.now) _ (λ x b f' k. search rules) _ _ c.retain.ensures.filtered ∙ ap (filter (meets_all_tags c.args.wanted.now)) c.into_vec-found.ensures
