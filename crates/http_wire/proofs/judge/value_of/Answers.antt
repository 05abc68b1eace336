use Rattle.std.proofs.Common.{◌≡◌, ◌+◌, ◌-◌, ◌*◌, drop, get_or, arith}
use Rattle.std.proofs.lemmas.List.{at_drop_more}
use Rattle.http_wire.specs.Judge.{value_after}
use Rattle.http_wire.proofs.Judgement.{value_grows, below_none}
use Rattle.http_wire.proofs.judge.value_of.Goals as goal

pub returns-then-value-ge18446744073709551616 : goal.returns-then-value-ge18446744073709551616
returns-then-value-ge18446744073709551616 c =
    let text = c.args.text.now in
    let i = c.digits.byte-index in
    let v = c.digits.value in
    let step : value_after v (drop i text) ≡ value_after (v * 10 + (get_or text i 0 - 48)) (drop (i + 1) text) = at_drop_more (value_after v) text i 0 c.digits-test.true in
    let more = value_grows (v * 10 + (get_or text i 0 - 48)) (drop (i + 1) text) in
    below_none (value_after 0 text) (omega (arith, more, step, c.digits.invariant.0, c.if-value-ge18446744073709551616.true, c.from.ensures))
