use Rattle.std.proofs.Common.{rules, ◌∙◌, ap, filter}
use Rattle.std.proofs.lemmas.Fn.{filter_same}
use Rattle.dns_service.specs.Instances.{has_tag}
use Rattle.dns_service.proofs.matches.with_tag.Goals as goal

pub returns : goal.returns
returns c = c.from.ensures ∙ filter_same _ (has_tag c.args.tag.now) _ (λ x b f' k. search rules) _ _ c.retain.ensures.filtered ∙ ap (filter (has_tag c.args.tag.now)) c.into_vec-found.ensures
