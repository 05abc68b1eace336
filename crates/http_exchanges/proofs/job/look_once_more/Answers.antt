use Rattle.std.proofs.Common.{◌≡◌, ℕ, List, ◌++◌, length, drop, sym, ap, ◌∙◌, subst}
use Rattle.cat_model.specs.declared.reply.Mark.{Mark}
use Rattle.turn_lock.specs.Lists.{Extends, numbers}
use Rattle.turn_lock.specs.Passes.{MayEnd}
use Rattle.http_exchanges.specs.Knowing.{known_by}
use Rattle.http_exchanges.specs.Marks.{agreed_by, opens, takes}
use Rattle.http_exchanges.proofs.OwnTurns.{grows_looking, grows_none, held_looking, may_end_same, opened_looking}
use Rattle.http_exchanges.proofs.job.look_once_more.Goals as goal

pub give-requires-clause-may : goal.give-requires-clause-may
give-requires-clause-may g c =
    let C = g.C.SharedCluster in
    let marks = C.marks c.show-shown.new.self.cluster in
    let mine = c.take-turn.new.pass.seat.me.0.mine in
    let same : c.take-turn.new.pass.seat.me.0.seen ≡ marks = c.take-turn.ensures.seen ∙ ap (λ (s : _). C.marks s.cluster) (sym c.state.ensures.value ∙ sym c.show-shown.ensures.same) in
    subst (λ (l : List Mark). MayEnd opens takes l mine marks) (sym same) (may_end_same mine marks c.show-shown.ensures.kept)

pub returns-then-is_short-clause-grown : goal.returns-then-is_short-clause-grown
returns-then-is_short-clause-grown g c = grows_none (known_by c.args.pass.now c.args.viewer.now)

pub returns-then-is_short-clause-learned : goal.returns-then-is_short-clause-learned
returns-then-is_short-clause-learned g c = λ e. absurd (cc (sym e ∙ (sym c.is_short.ensures ∙ c.if-is_short.true)))

pub returns-in-Ok-clause-grown : goal.returns-in-Ok-clause-grown
returns-in-Ok-clause-grown g c =
    let C = g.C.SharedCluster in
    let marks = C.marks c.show-shown.new.self.cluster in
    let v = known_by c.args.pass.now c.args.viewer.now in
    let w = known_by c.give.new.pass c.show-shown.new.viewer in
    let shown = sym c.state.ensures.value ∙ sym c.show-shown.ensures.same in
    let same : c.take-turn.new.pass.seat.me.0.seen ≡ marks = c.take-turn.ensures.seen ∙ ap (λ (s : _). C.marks s.cluster) shown in
    let step : w.mine ≡ c.take-turn.new.pass.seat.me.0.mine ++ numbers opens (drop (length marks) marks) =
    subst (λ (l : List Mark). w.mine ≡ c.take-turn.new.pass.seat.me.0.mine ++ numbers opens (drop (length l) marks)) same c.give.ensures.mine in
    let mine : w.mine ≡ v.mine ++ numbers opens (drop (length marks) marks) =
    subst (λ (l : List ℕ). w.mine ≡ l ++ numbers opens (drop (length marks) marks)) c.take-turn.ensures.mine.0 step in
    let extends : Extends opens takes v.mine v.seen marks = subst (λ (s : _). Extends opens takes v.mine v.seen (C.marks s.cluster)) shown c.take-turn.ensures.grown in
    grows_looking v w marks extends c.give.ensures.seen mine (c.give.ensures.own.1 ∙ c.take-turn.ensures.own.1) c.show-shown.ensures.viewed

pub returns-in-Ok-clause-held : goal.returns-in-Ok-clause-held
returns-in-Ok-clause-held g c =
    let C = g.C.SharedCluster in
    let marks = C.marks c.show-shown.new.self.cluster in
    let v = known_by c.args.pass.now c.args.viewer.now in
    let w = known_by c.give.new.pass c.show-shown.new.viewer in
    let shown = sym c.state.ensures.value ∙ sym c.show-shown.ensures.same in
    let same : c.take-turn.new.pass.seat.me.0.seen ≡ marks = c.take-turn.ensures.seen ∙ ap (λ (s : _). C.marks s.cluster) shown in
    let step : w.mine ≡ c.take-turn.new.pass.seat.me.0.mine ++ numbers opens (drop (length marks) marks) =
    subst (λ (l : List Mark). w.mine ≡ c.take-turn.new.pass.seat.me.0.mine ++ numbers opens (drop (length l) marks)) same c.give.ensures.mine in
    let mine : w.mine ≡ v.mine ++ numbers opens (drop (length marks) marks) =
    subst (λ (l : List ℕ). w.mine ≡ l ++ numbers opens (drop (length marks) marks)) c.take-turn.ensures.mine.0 step in
    let extends : Extends opens takes v.mine v.seen marks = subst (λ (s : _). Extends opens takes v.mine v.seen (C.marks s.cluster)) shown c.take-turn.ensures.grown in
    held_looking v w marks extends c.give.ensures.seen mine

pub returns-in-Err-clause-grown : goal.returns-in-Err-clause-grown
returns-in-Err-clause-grown g c =
    let C = g.C.SharedCluster in
    let marks = C.marks c.show-shown.new.self.cluster in
    let v = known_by c.args.pass.now c.args.viewer.now in
    let w = known_by c.give.new.pass c.show-shown.new.viewer in
    let shown = sym c.state.ensures.value ∙ sym c.show-shown.ensures.same in
    let same : c.take-turn.new.pass.seat.me.0.seen ≡ marks = c.take-turn.ensures.seen ∙ ap (λ (s : _). C.marks s.cluster) shown in
    let step : w.mine ≡ c.take-turn.new.pass.seat.me.0.mine ++ numbers opens (drop (length marks) marks) =
    subst (λ (l : List Mark). w.mine ≡ c.take-turn.new.pass.seat.me.0.mine ++ numbers opens (drop (length l) marks)) same c.give.ensures.mine in
    let mine : w.mine ≡ v.mine ++ numbers opens (drop (length marks) marks) =
    subst (λ (l : List ℕ). w.mine ≡ l ++ numbers opens (drop (length marks) marks)) c.take-turn.ensures.mine.0 step in
    let extends : Extends opens takes v.mine v.seen marks = subst (λ (s : _). Extends opens takes v.mine v.seen (C.marks s.cluster)) shown c.take-turn.ensures.grown in
    grows_looking v w marks extends c.give.ensures.seen mine (c.give.ensures.own.1 ∙ c.take-turn.ensures.own.1) c.show-shown.ensures.viewed

pub returns-in-Err-clause-held : goal.returns-in-Err-clause-held
returns-in-Err-clause-held g c =
    let C = g.C.SharedCluster in
    let marks = C.marks c.show-shown.new.self.cluster in
    let v = known_by c.args.pass.now c.args.viewer.now in
    let w = known_by c.give.new.pass c.show-shown.new.viewer in
    let shown = sym c.state.ensures.value ∙ sym c.show-shown.ensures.same in
    let same : c.take-turn.new.pass.seat.me.0.seen ≡ marks = c.take-turn.ensures.seen ∙ ap (λ (s : _). C.marks s.cluster) shown in
    let step : w.mine ≡ c.take-turn.new.pass.seat.me.0.mine ++ numbers opens (drop (length marks) marks) =
    subst (λ (l : List Mark). w.mine ≡ c.take-turn.new.pass.seat.me.0.mine ++ numbers opens (drop (length l) marks)) same c.give.ensures.mine in
    let mine : w.mine ≡ v.mine ++ numbers opens (drop (length marks) marks) =
    subst (λ (l : List ℕ). w.mine ≡ l ++ numbers opens (drop (length marks) marks)) c.take-turn.ensures.mine.0 step in
    let extends : Extends opens takes v.mine v.seen marks = subst (λ (s : _). Extends opens takes v.mine v.seen (C.marks s.cluster)) shown c.take-turn.ensures.grown in
    held_looking v w marks extends c.give.ensures.seen mine

pub returns-in-Ok-clause-opened : goal.returns-in-Ok-clause-opened
returns-in-Ok-clause-opened g c =
    let C = g.C.SharedCluster in
    let marks = C.marks c.show-shown.new.self.cluster in
    let mine = c.args.pass.now.seat.me.0.mine in
    let mine' = c.give.new.pass.seat.me.0.mine in
    let same : c.take-turn.new.pass.seat.me.0.seen ≡ marks = c.take-turn.ensures.seen ∙ ap (λ (s : _). C.marks s.cluster) (sym c.state.ensures.value ∙ sym c.show-shown.ensures.same) in
    let step : mine' ≡ c.take-turn.new.pass.seat.me.0.mine ++ numbers opens (drop (length marks) marks) =
    subst (λ (l : List Mark). mine' ≡ c.take-turn.new.pass.seat.me.0.mine ++ numbers opens (drop (length l) marks)) same c.give.ensures.mine in
    opened_looking mine mine' marks (subst (λ (l : List ℕ). mine' ≡ l ++ numbers opens (drop (length marks) marks)) c.take-turn.ensures.mine.0 step)

pub returns-in-Err-clause-opened : goal.returns-in-Err-clause-opened
returns-in-Err-clause-opened g c =
    let C = g.C.SharedCluster in
    let marks = C.marks c.show-shown.new.self.cluster in
    let mine = c.args.pass.now.seat.me.0.mine in
    let mine' = c.give.new.pass.seat.me.0.mine in
    let same : c.take-turn.new.pass.seat.me.0.seen ≡ marks = c.take-turn.ensures.seen ∙ ap (λ (s : _). C.marks s.cluster) (sym c.state.ensures.value ∙ sym c.show-shown.ensures.same) in
    let step : mine' ≡ c.take-turn.new.pass.seat.me.0.mine ++ numbers opens (drop (length marks) marks) =
    subst (λ (l : List Mark). mine' ≡ c.take-turn.new.pass.seat.me.0.mine ++ numbers opens (drop (length l) marks)) same c.give.ensures.mine in
    opened_looking mine mine' marks (subst (λ (l : List ℕ). mine' ≡ l ++ numbers opens (drop (length marks) marks)) c.take-turn.ensures.mine.0 step)

pub returns-in-Ok-clause-learned : goal.returns-in-Ok-clause-learned
returns-in-Ok-clause-learned g c = λ e a. c.in-Ok.ensures.read a ∙ ap agreed_by (sym c.give.ensures.seen)

pub returns-in-Err-clause-learned : goal.returns-in-Err-clause-learned
returns-in-Err-clause-learned g c = λ e. absurd (cc e)
