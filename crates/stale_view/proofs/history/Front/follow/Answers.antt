use Rattle.std.proofs.Common.{◌≡◌, ap, sym, ◌∙◌, List, subst, arith}
use mathlib.Core.List.{IsPrefix}
use Rattle.cat_model.specs.declared.command.Command.{Command}
use Rattle.stale_view.proofs.Fronts.{prefix_shorter}
use Rattle.stale_view.proofs.history.Front.follow.Goals as goal

pub returns-clause-grown : goal.returns-clause-grown
returns-clause-grown c =
    let both = c.learn.new.self.log in let own = c.self.inside.seen.log in let theirs = c.other.inside.seen.log in
    let this : IsPrefix own both = subst (λ (l : List Command). IsPrefix l both) (ap (λ s. s.log) c.again-both.ensures) c.learn.ensures.2 in
    let grown : IsPrefix own theirs = prefix_shorter own theirs both this c.learn.ensures.3 (let a = c.if-other-self.false in let m = c.self.invariant in let n = c.other.invariant in omega arith) in
    let new : theirs ≡ c.drop.inside.seen.log = ap (λ b. b.list) c.other.view_is ∙ (sym (ap (λ b. b.list) c.again.ensures) ∙ sym (ap (λ b. b.list) c.drop.view_is)) in
    subst (λ (l : List Command). IsPrefix l c.drop.inside.seen.log) (ap (λ b. b.list) c.self.view_is) (subst (λ (l : List Command). IsPrefix own l) new grown)
