use Rattle.std.proofs.Common.{take}
use Rattle.std.specs.List.{All}
use Rattle.cat_model.specs.Bounds.{IsOp}
use Rattle.cat_model.proofs.bounds.all_are_ops.Given as goal

abbrev pub invariant-loop-op : goal.invariant-loop-op
invariant-loop-op l = All IsOp (take l.op-index l.ops)
