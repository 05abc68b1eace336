use Rattle.std.proofs.Common.{◌∙◌, refl, arith}
use Rattle.cluster_requests.specs.Held.{held_in}
use Rattle.cluster_requests.proofs.Ending.{all_ended, ended_last, ended_next}
use Rattle.cluster_requests.proofs.held.end_among.Goals as goal

pub loop-number-init : goal.loop-number-init
loop-number-init c = (c.requires.rises, refl)

pub loop-number-preserved : goal.loop-number-preserved
loop-number-preserved c = (
  c.end_one.ensures.rises,
  ended_next c.args.server c.args.event c.args.numbers.now c.loop-number.number-index (held_in c.loop-number.slots) _ _ c.loop-number-test.true c.end_one.ensures.held c.loop-number.invariant.1,
)

pub returns-clause-held : goal.returns-clause-held
returns-clause-held c =
    ended_last c.args.server c.args.event c.args.numbers.now c.loop-number.number-index (held_in c.loop-number.slots) _ (omega (arith, c.loop-number-test.false)) c.loop-number.invariant.1
    ∙ all_ended c.args.server c.args.event c.args.numbers.now (held_in c.args.slots.now) c.requires.numbers
