use Rattle.std.proofs.Common.{rules, not, codes, ◌∙◌, ap, filter}
use Rattle.std.proofs.lemmas.Fn.{filter_same}
use Rattle.http_routes.specs.Params.{is_named}
use Rattle.http_routes.proofs.filters.without_filter.Goals as goal

pub returns : goal.returns
returns c = c.from.ensures ∙ filter_same _ (λ pair. not (is_named (codes "filter") pair)) _ (λ x b f' k. search rules) _ _ c.retain.ensures.filtered ∙ ap (filter (λ pair. not (is_named (codes "filter") pair))) c.into_vec-left.ensures
