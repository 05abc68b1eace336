use Rattle.std.proofs.Common.{subst, refl}
use Rattle.std.proofs.lemmas.List.{take_all}
use Rattle.std.proofs.lemmas.List.Elements.{All-more, All-same}
use Rattle.std.proofs.Common.{sym}
use Rattle.cat_model.specs.Bounds.{IsCheck}
use Rattle.cat_model.proofs.bounds.all_are_checks.Goals as goal

pub loop-check-preserved : goal.loop-check-preserved
loop-check-preserved c =
    All-more IsCheck c.args.checks.now c.loop-check.check-index c.check-item.result c.loop-check-test.true c.loop-check.invariant
    (subst IsCheck c.check-item.is (c.is_check.ensures.0 c.if-not-is_check.false))

pub returns : goal.returns
returns c =
    (λ _. All-same IsCheck _ _ (sym (take_all c.loop-check.check-index c.args.checks.now c.loop-check-test.false)) c.loop-check.invariant, λ _. refl)
