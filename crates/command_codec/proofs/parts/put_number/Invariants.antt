use Rattle.command_codec.proofs.NumberSteps.{Going}
use Rattle.command_codec.proofs.parts.put_number.Given as goal

abbrev pub invariant-loop-rest : goal.invariant-loop-rest
invariant-loop-rest g l = Going g.O.Out.after (g.O.Out.seen l.fn.out) (g.O.Out.seen l.out) l.number l.rest

abbrev pub decreases-loop-rest : goal.decreases-loop-rest
decreases-loop-rest g l = l.rest
