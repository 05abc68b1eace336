use Rattle.std.proofs.Common.{◌≡◌, ◌+◌, ◌++◌, length}
use Rattle.cat_model.specs.Tables.{Ascends}
use Rattle.node_rows.specs.Sides.{all_paired, strays}
use Rattle.node_rows.proofs.sides.side_by_side.Given as goal

abbrev pub invariant-loop-sides : goal.invariant-loop-sides
invariant-loop-sides g l =
    (l.sides.pairs.items ++ all_paired g.R.Row.cmp g.R.Row.key l.left.0.now l.left.1.now ≡ all_paired g.R.Row.cmp g.R.Row.key l.fn.own l.fn.there)
    × (l.sides.strays.items ++ strays g.R.Row.cmp g.R.Row.key l.left.0.now l.left.1.now ≡ strays g.R.Row.cmp g.R.Row.key l.fn.own l.fn.there)
    × Ascends g.R.Row.cmp g.R.Row.key l.left.0.now
    × Ascends g.R.Row.cmp g.R.Row.key l.left.1.now

abbrev pub decreases-loop-sides : goal.decreases-loop-sides
decreases-loop-sides g l = length l.left.0.now + length l.left.1.now
