use Rattle.std.proofs.Common.{List, ℕ, subst, sym, ◌∙◌}
use Rattle.std.proofs.lemmas.Result.{IfOk-weaker}
use Rattle.timer_wheel.specs.Dues.{AreDue}
use Rattle.session_ttl.proofs.Timing.{due_one}
use Rattle.session_ttl.proofs.timers.due_ids.Goals as goal

pub returns-clause-whole : goal.returns-clause-whole
returns-clause-whole c =
    IfOk-weaker c.ascending.result _ _
    (λ v same id h. same id ∙ due_one c.args.wheel.now c.args.now c.deref.result.now id (subst (λ (keys : List ℕ). AreDue c.args.wheel.now c.args.now keys) (sym c.deref.ensures.value) c.in-Ok.ensures) h) c.ascending.ensures.same
