use Rattle.std.proofs.Common.{◌∙◌}
use Rattle.cluster_works.proofs.Awake.{then_stay}
use Rattle.cluster_works.proofs.InLine.{then_leave}
use Rattle.cluster_works.proofs.wakes.wake_rounds.Goals as goal

pub loop-watch-preserved : goal.loop-watch-preserved
loop-watch-preserved g c =
    let i = c.loop-watch.invariant in (
      then_stay c.args.watch.now c.loop-watch.watch c.wake_first_round.new.self i.0 c.wake_first_round.ensures.kept,
      then_leave c.args.watch.now c.loop-watch.watch c.wake_first_round.new.self i.1 c.wake_first_round.ensures.kept c.wake_first_round.ensures.lines,
      c.wake_first_round.ensures.servers ∙ i.2,
      c.wake_first_round.ensures.seen ∙ i.3,
    )

pub returns-then-not-wake_first_round-clause-kept : goal.returns-then-not-wake_first_round-clause-kept
returns-then-not-wake_first_round-clause-kept g c = then_stay c.args.watch.now c.loop-watch.watch c.wake_first_round.new.self c.loop-watch.invariant.0 c.wake_first_round.ensures.kept

pub returns-then-not-wake_first_round-clause-lines : goal.returns-then-not-wake_first_round-clause-lines
returns-then-not-wake_first_round-clause-lines g c =
    then_leave c.args.watch.now c.loop-watch.watch c.wake_first_round.new.self c.loop-watch.invariant.1 c.wake_first_round.ensures.kept c.wake_first_round.ensures.lines
