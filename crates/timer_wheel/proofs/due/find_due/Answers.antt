use Rattle.std.proofs.Common.{arith}
use Rattle.timer_wheel.proofs.Finds.{noted_more, noted_due}
use Rattle.timer_wheel.proofs.due.find_due.Goals as goal

pub loop-turn-preserved : goal.loop-turn-preserved
loop-turn-preserved c = (
  c.note_slot.ensures.sound,
  noted_more c.args.places.now.entries c.args.list.now c.args.now c.args.low c.loop-turn.turn c.loop-turn.found.keys c.note_slot.new.found.keys c.requires.kept c.loop-turn.invariant.1 c.note_slot.ensures.keeps c.in_ok-note_slot.ensures.noted,
)

pub returns-clause-whole : goal.returns-clause-whole
returns-clause-whole c =
    noted_due c.args.places.now.entries c.args.list.now c.args.now c.args.low c.loop-turn.turn c.loop-turn.found.keys c.requires.kept c.loop-turn.invariant.1
    (λ at l m. omega (arith, c.slots_passed-turn-end.ensures.whole at l m, c.loop-turn-test.false))
