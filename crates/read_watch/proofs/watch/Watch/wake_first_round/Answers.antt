use Rattle.std.proofs.Common.{◌∷◌, ◌∙◌, ap, sym, subst}
use Rattle.read_watch.specs.Lines.{Waiter, line_of}
use Rattle.read_watch.specs.Watch.{IsAwake}
use Rattle.read_watch.proofs.watch.Watch.wake_first_round.Goals as goal

pub returns-in-Some-clause-first : goal.returns-in-Some-clause-first
returns-in-Some-clause-first c = λ _.
    let p = c.in-Some.ensures.some in
    let e : Waiter = (p.0, p.1, c.in-Some.number) in
    (e, ap (λ w. line_of w.rounds c.args.server) (sym c.self.view_is) ∙ p.2 ∙ ap (λ l. e ∷ line_of l c.args.server) (sym c.wake.ensures.lines.1))

pub returns-in-Some-clause-kept : goal.returns-in-Some-clause-kept
returns-in-Some-clause-kept c = λ n h. c.wake.ensures.kept n (subst (IsAwake n) (sym c.self.view_is) h)
