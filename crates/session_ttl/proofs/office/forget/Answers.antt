use Rattle.std.proofs.Common.{rules, ◌==◌, not}
use Rattle.std.proofs.lemmas.Fn.{filter_same}
use Rattle.session_ttl.proofs.office.forget.Goals as goal

pub returns : goal.returns
returns c = filter_same _ (λ p. not (p == c.args.position)) _ (λ x b f' k. search rules) _ _ c.retain.ensures.filtered
