use Rattle.std.proofs.Common.{subst, refl}
use Rattle.std.proofs.lemmas.List.{take_all}
use Rattle.std.proofs.lemmas.List.Elements.{All-more, All-same}
use Rattle.std.proofs.Common.{sym}
use Rattle.cat_model.specs.Bounds.{IsOp}
use Rattle.cat_model.proofs.bounds.all_are_ops.Goals as goal

pub loop-op-preserved : goal.loop-op-preserved
loop-op-preserved c =
    All-more IsOp c.args.ops.now c.loop-op.op-index c.op-item.result c.loop-op-test.true c.loop-op.invariant
    (subst IsOp c.op-item.is (c.is_op.ensures.0 c.if-not-is_op.false))

pub returns : goal.returns
returns c =
    (λ _. All-same IsOp _ _ (sym (take_all c.loop-op.op-index c.args.ops.now c.loop-op-test.false)) c.loop-op.invariant, λ _. refl)
