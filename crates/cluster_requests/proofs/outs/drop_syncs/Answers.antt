use Rattle.std.proofs.Common.{rules, is_some}
use Rattle.std.proofs.lemmas.Fn.{filter_same}
use Rattle.cluster_rules.specs.Replies.{number_of}
use Rattle.cluster_requests.proofs.outs.drop_syncs.Goals as goal

pub returns-clause-items : goal.returns-clause-items
returns-clause-items c = filter_same _ (λ o. is_some (number_of o)) _ (λ x b f' k. search rules) _ _ c.retain.ensures.filtered
