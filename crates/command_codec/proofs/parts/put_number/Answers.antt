use Rattle.std.proofs.Common.{◌∙◌, arith}
use Rattle.std.proofs.lemmas.Result.{on_ok_weaker}
use Rattle.command_codec.proofs.NumberSteps.{start, goes_on, ends}
use Rattle.command_codec.proofs.parts.put_number.Goals as goal

pub loop-rest-init : goal.loop-rest-init
loop-rest-init g c = start _ _ c.args.number (omega arith)

pub loop-rest-preserved : goal.loop-rest-preserved
loop-rest-preserved g c = rw c.in_ok-put_byte.ensures (goes_on _ _ _ _ _ c.loop-rest.invariant c.loop-rest-test.true)

pub returns : goal.returns
returns g c = on_ok_weaker c.put_byte-2.result (λ e. e ∙ ends _ _ _ _ _ c.loop-rest.invariant c.loop-rest-test.false) c.put_byte-2.ensures
