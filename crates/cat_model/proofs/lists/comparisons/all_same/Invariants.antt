use Rattle.std.proofs.Common.{◌≡◌, Bool, length}
use Rattle.std.specs.Fn.{FnReturnsAtPair}
use Rattle.std.specs.Cmp.Lexicographic.{pointwise}
use Rattle.cat_model.proofs.lists.comparisons.all_same.Given as goal

abbrev pub invariant-loop-x : goal.invariant-loop-x
invariant-loop-x g l =
    (e : g.row.T.Denot → g.row.T.Denot → Bool) → ((x y : g.row.T.Denot) (b : Bool) → FnReturnsAtPair g.F.Fn l.same x y b → b ≡ e x y) → pointwise e l.left l.right ≡ pointwise e l.fn.first l.fn.second

abbrev pub decreases-loop-x : goal.decreases-loop-x
decreases-loop-x g l = length l.left
