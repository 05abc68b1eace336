use Rattle.std.proofs.Common.{subst, refl}
use Rattle.std.proofs.lemmas.List.{take_all}
use Rattle.std.proofs.lemmas.List.Elements.{All-more, All-same}
use Rattle.std.proofs.Common.{sym}
use Rattle.cat_model.specs.Bounds.{IsText}
use Rattle.cat_model.proofs.bounds.all_are_texts.Goals as goal

pub loop-text-preserved : goal.loop-text-preserved
loop-text-preserved c =
    All-more IsText c.args.texts.now c.loop-text.text-index c.text-item.result c.loop-text-test.true c.loop-text.invariant
    (subst IsText c.text-item.is (c.is_text.ensures.0 c.if-not-is_text.false))

pub returns : goal.returns
returns c =
    (λ _. All-same IsText _ _ (sym (take_all c.loop-text.text-index c.args.texts.now c.loop-text-test.false)) c.loop-text.invariant, λ _. refl)
