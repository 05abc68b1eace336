use Rattle.std.proofs.Common.{◌∷◌, ◌∙◌, List, ℕ, Some, ap, drop, get_or, subst, ◌+◌, suc, ◌≡◌, arith}
use Rattle.std.proofs.Math.Seq.{drop-cons}
use Rattle.session_ttl.specs.Timed.{AreTimedBut}
use Rattle.session_ttl.proofs.timers.timed_each.Goals as goal

pub loop-id-preserved : goal.loop-id-preserved
loop-id-preserved c =
    let ids : List ℕ = c.args.ids.now in let i = c.loop-id.id-index in
    let next : suc i ≡ i + 1 = omega arith in
    c.in_ok-wheel.ensures (drop (i + 1) ids)
    (subst (λ (l : List ℕ). AreTimedBut l (Some c.loop-id.wheel) c.args.clocks.now c.args.office.now c.args.sessions.now.now) (drop-cons ids i 0 c.loop-id-test.true ∙ ap (λ n. get_or ids i 0 ∷ drop n ids) next) c.loop-id.invariant)
