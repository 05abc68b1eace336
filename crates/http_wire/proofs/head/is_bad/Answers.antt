use Rattle.std.proofs.Common.{List, ℕ, inr, subst}
use Rattle.httparse.specs.Grammar.{MayBecomeRequest}
use Rattle.http_wire.proofs.Heads.{may_have}
use Rattle.http_wire.proofs.head.is_bad.Goals as goal

pub returns-in-Partial : goal.returns-in-Partial
returns-in-Partial c = (λ t. absurd (cc t), λ never. absurd (may_have c.args.buf.now (inr (subst (λ (b : List ℕ). MayBecomeRequest b) c.judged.ensures c.in-Partial.ensures.parsed.1)) never))
