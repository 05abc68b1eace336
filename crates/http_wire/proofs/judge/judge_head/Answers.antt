use Rattle.std.proofs.Common.{◌∙◌, ap, map, subst, Result}
use Rattle.httparse.specs.Spans.{header_bytes}
use Rattle.http_wire.specs.declared.rejection.Rejection.{Rejection}
use Rattle.http_wire.specs.Judge.{Facts}
use Rattle.http_wire.specs.Reader.{Judges}
use Rattle.http_wire.proofs.Judgement.{judge_is}
use Rattle.http_wire.proofs.judge.judge_head.Goals as goal

pub returns : goal.returns
returns c = λ h at.
    subst (λ (j : Result Facts Rejection). Judges j c.judge_fields.result)
    (judge_is h _ _ _ _ (c.of.ensures ∙ at.method) (c.of-2.ensures ∙ at.path) at.version (ap (map (header_bytes c.args.buf.now)) c.first_of.ensures ∙ at.fields))
    c.judge_fields.ensures
