use Rattle.std.proofs.Common.{rules, is_some}
use Rattle.std.proofs.lemmas.Fn.{filter_same}
use Rattle.cluster_requests.specs.Held.{pending_of}
use Rattle.cluster_requests.proofs.held.sweep.Goals as goal

pub returns-clause-items : goal.returns-clause-items
returns-clause-items c = filter_same _ (λ s. is_some (pending_of s)) _ (λ x b f' k. search rules) _ _ c.retain.ensures.filtered
