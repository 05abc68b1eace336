use Rattle.std.proofs.Common.{◌+◌, ◌<◌, ◌^◌, arith}
use Rattle.load_player.proofs.Drawing.{opening_step, script_step, script_none}
use Rattle.load_player.proofs.Lengths.{opening_short, request_appended}
use Rattle.load_player.proofs.script.make_load.Goals as goal

pub loop-number-init : goal.loop-number-init
loop-number-init c =
    let short = opening_short c.args.seed _ c.ranges.seed.fits c.in_ok-script.ensures in
    (omega arith, omega (arith, short), opening_step _ _ _ _ c.seed_from_u64-words.ensures c.in_ok-script.ensures)

pub loop-number-preserved : goal.loop-number-preserved
loop-number-preserved c =
    let size : c.args.size < 2 ^ 32 = c.ranges.size.fits in
    let next : c.loop-number.number + 1 < 2 ^ 32 = omega (arith, size, c.loop-number-test.true) in
    let more = request_appended _ _ _ (c.loop-number.number + 1) c.next_word.result next c.in_ok-put_request.ensures in (
      omega (arith, c.loop-number-test.true),
      omega (arith, c.loop-number.invariant.1, more),
      script_step _ _ _ _ c.loop-number.number _ _ _ c.loop-number-test.true c.next_word.ensures c.in_ok-put_request.ensures c.loop-number.invariant.2,
    )

pub returns-clause-script : goal.returns-clause-script
returns-clause-script c = script_none _ _ _ c.loop-number.number _ c.loop-number-test.false c.loop-number.invariant.2
