use Rattle.std.proofs.Common.{◌≡◌, ◌++◌, length, take}
use Rattle.std.specs.List.{flat_map, fold}
use Rattle.cat_model.specs.Spelling.{number_bytes, op_bytes}
use Rattle.command_codec.proofs.records.put_ops.Given as goal

abbrev pub invariant-loop-op : goal.invariant-loop-op
invariant-loop-op g l =
    g.O.Out.seen l.out ≡ fold g.O.Out.after (g.O.Out.seen l.fn.out) (number_bytes (length l.ops) ++ flat_map op_bytes (take l.op-index l.ops))
