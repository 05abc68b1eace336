use Rattle.std.proofs.Common.{List, ◌≡◌, ◌++◌, length, drop, ap, subst, sym, ◌∙◌}
use Rattle.peer_frames.specs.Spelling.{Accepts}
use Rattle.turn_lock.specs.Lists.{Extends, numbers}
use Rattle.turn_lock.specs.Passes.{MayEnd}
use Rattle.node_connections.specs.Boards.{known}
use Rattle.node_connections.specs.Journals.{Shared, opens, takes}
use Rattle.node_connections.proofs.Journals.{may_frame, may_hand_in}
use Rattle.node_connections.proofs.turns.hand_in.Goals as goal

pub give-requires-clause-may : goal.give-requires-clause-may
give-requires-clause-may g c =
    let same = c.take-turn.ensures.seen ∙ ap (λ (s : Shared _). s.items) (sym c.state-shared.ensures.value) in
    subst (λ (l : List _). MayEnd opens takes l (known c.take-turn.new.pass).mine c.take_frame-answer.new.self.items) (sym same)
    (may_frame c.args.frame.now c.take_frame-answer.result (known c.take-turn.new.pass).mine _ _ c.take_frame-answer.ensures.taken)

pub returns-clause-handed : goal.returns-clause-handed
returns-clause-handed g c =
    let v = known c.args.pass.now in let w = known c.give.new.pass in let taken = known c.take-turn.new.pass in
    let old = c.state-shared.result.now.items in let new = c.take_frame-answer.new.self.items in
    let same = c.take-turn.ensures.seen ∙ ap (λ (s : Shared _). s.items) (sym c.state-shared.ensures.value) in
    let grown = subst (λ (s : Shared _). Extends opens takes v.mine v.seen s.items) (sym c.state-shared.ensures.value) c.take-turn.ensures.grown in
    let step : w.mine ≡ taken.mine ++ numbers opens (drop (length old) new) = subst (λ (l : List _). w.mine ≡ taken.mine ++ numbers opens (drop (length l) new)) same c.give.ensures.mine in
    may_hand_in c.args.frame.now c.take_frame-answer.result v w old new grown c.take_frame-answer.ensures.taken c.give.ensures.seen (subst (λ (l : List _). w.mine ≡ l ++ numbers opens (drop (length old) new)) c.take-turn.ensures.mine.0 step)
