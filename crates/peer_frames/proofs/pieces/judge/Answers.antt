use Rattle.std.proofs.Common.{inr}
use Rattle.peer_frames.proofs.Joined.{part_of_length, no_length, part_of_body, whole_frame, stuck_in_body}
use Rattle.peer_frames.proofs.pieces.judge.Goals as goal

pub judge_body-requires-clause-within : goal.judge_body-requires-clause-within
judge_body-requires-clause-within c = c.requires.held.within c.in-Whole.size c.in-Whole.ensures

pub returns-in-Part-clause-tells : goal.returns-in-Part-clause-tells
returns-in-Part-clause-tells c = part_of_length c.args.peers c.args.head.now c.args.body.now c.in-Part.ensures (c.requires.held.first c.in-Part.ensures.few)

pub returns-in-Bad-clause-tells : goal.returns-in-Bad-clause-tells
returns-in-Bad-clause-tells c = no_length c.args.peers c.args.head.now c.args.body.now c.in-Bad.at c.in-Bad.ensures

pub returns-in-Ok-More-clause-tells : goal.returns-in-Ok-More-clause-tells
returns-in-Ok-More-clause-tells c = part_of_body c.args.peers c.args.head.now c.args.body.now c.in-Whole.size c.in-Whole.ensures (rw c.in-Ok-More.field-0-is at c.in-Ok-More.ensures)

pub returns-in-Ok-More-clause-more : goal.returns-in-Ok-More-clause-more
returns-in-Ok-More-clause-more c = λ _. inr (c.in-Whole.size, c.in-Whole.ensures, (rw c.in-Ok-More.field-0-is at c.in-Ok-More.ensures).less)

pub returns-in-Ok-Whole-clause-tells : goal.returns-in-Ok-Whole-clause-tells
returns-in-Ok-Whole-clause-tells c = whole_frame c.args.peers c.args.head.now c.args.body.now c.in-Whole.size c.in-Whole.ensures c.in-Ok-Whole.frame (rw c.in-Ok-Whole.field-0-is at c.in-Ok-Whole.ensures)

pub returns-in-Ok-Bad-clause-tells : goal.returns-in-Ok-Bad-clause-tells
returns-in-Ok-Bad-clause-tells c = stuck_in_body c.args.peers c.args.head.now c.args.body.now c.in-Whole.size c.in-Whole.ensures c.in-Ok-Bad.at (rw c.in-Ok-Bad.field-0-is at c.in-Ok-Bad.ensures)
