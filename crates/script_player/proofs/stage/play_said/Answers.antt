use Rattle.std.proofs.Common.{subst}
use Rattle.script_player.specs.Stage.{AreForAll, kept_in, through}
use Rattle.script_player.proofs.Turning.{turn_made, turn_made_first, turn_settled, turn_settled_first}
use Rattle.script_player.proofs.stage.play_said.Goals as goal

pub returns-in-Ok-clause-turns : goal.returns-in-Ok-clause-turns
returns-in-Ok-clause-turns g c = λ s f read a.
    let is = rw c.in-Makes.is at read in
    turn_made (through g.T.Taker.adds f) _ _ s c.in-Makes.event _ _ is.0 is.2 (c.in-Ok.ensures.made f (subst (AreForAll f (kept_in c.args.filters.now) _) is.0 a))

pub returns-in-Err-clause-part : goal.returns-in-Err-clause-part
returns-in-Err-clause-part g c = λ s f read a.
    let is = rw c.in-Makes.is at read in
    turn_made_first (through g.T.Taker.adds f) _ s c.in-Makes.event _ _ is.0 is.2 (c.in-Err.ensures.part f (subst (AreForAll f (kept_in c.args.filters.now) _) is.0 a))

pub returns-in-Ok-settle-clause-turns : goal.returns-in-Ok-settle-clause-turns
returns-in-Ok-settle-clause-turns g c = λ s f read a.
    let is = rw c.in-Settles.is at read in
    rw c.from.ensures (turn_settled (through g.T.Taker.adds f) _ _ s c.in-Settles.most c.in-Ok-settle.pairs _ _ is (c.in-Ok-settle.ensures.made f (subst (AreForAll f (kept_in c.args.filters.now) _) is a)))

pub returns-in-Err-settle-clause-part : goal.returns-in-Err-settle-clause-part
returns-in-Err-settle-clause-part g c = λ s f read a.
    let is = rw c.in-Settles.is at read in
    turn_settled_first (through g.T.Taker.adds f) _ s c.in-Settles.most _ _ is (c.in-Err-settle.ensures.part f (subst (AreForAll f (kept_in c.args.filters.now) _) is a))
