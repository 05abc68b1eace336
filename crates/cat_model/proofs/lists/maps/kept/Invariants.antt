use Rattle.std.proofs.Common.{◌≡◌, Bool, filter, take}
use Rattle.std.specs.Fn.{FnReturnsAt}
use Rattle.cat_model.proofs.lists.maps.kept.Given as goal

abbrev pub invariant-loop-item : goal.invariant-loop-item
invariant-loop-item g l =
    (p : g.row.T.Denot → Bool) → ((x : g.row.T.Denot) (b : Bool) → FnReturnsAt g.F.Fn l.test x b → b ≡ p x) → l.found.items ≡ filter p (take l.item-index l.items)
