use Rattle.std.proofs.Common.{◌≡◌, ◌∙◌, sym, ap, arith}
use Rattle.std.proofs.lemmas.Fn.{says_at}
use Rattle.agent_state.specs.Replacing.{all_replaced, other_or}
use Rattle.agent_state.proofs.Replaced.{gone_through, next_kept, next_replaced}
use Rattle.agent_state.proofs.replacements.replacements.Goals.{in-Some+in_ok-push, in_default}
use Rattle.agent_state.proofs.replacements.replacements.Goals as goal

pub loop-at-preserved : goal.loop-at-preserved
loop-at-preserved g c = λ f h.
    let items = c.args.items.now in
    let x = c.index-items-at.result in
    let said : other_or x c.in_ok-other.field-0 ≡ f x = h x c.in_ok-other.field-0 (says_at g.F.Fn c.make.ensures c.in_ok-other.was) in
    elim c.match-branch-2.branch [
      | in-Some+in_ok-push w ↦
          ap (λ v. all_replaced v.items items) w.all-is ∙ ap (λ l. all_replaced l items) w.in_ok-push.ensures.items
          ∙ next_replaced f items c.loop-at.at x c.loop-at-test.true c.index-items-at.is c.loop-at.all.items (c.loop-at.invariant f h) w.in-Some.other (ap (other_or x) (sym w.in-Some.is) ∙ said)
      | in_default w ↦
          ap (λ v. all_replaced v.items items) w.all-is
          ∙ next_kept f items c.loop-at.at x c.loop-at-test.true c.index-items-at.is c.loop-at.all.items (c.loop-at.invariant f h) (ap (other_or x) (sym w.in_default.is) ∙ said)
    ]

pub returns : goal.returns
returns g c = λ f h. c.loop-at.invariant f h ∙ gone_through f c.args.items.now c.loop-at.at (omega (arith, c.loop-at-test.false))
