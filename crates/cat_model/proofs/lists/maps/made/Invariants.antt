use Rattle.std.proofs.Common.{◌≡◌, Ok, map, take}
use Rattle.std.specs.Fn.{FnReturnsAt}
use Rattle.cat_model.proofs.lists.maps.made.Given as goal

abbrev pub invariant-loop-item : goal.invariant-loop-item
invariant-loop-item g l =
    (f : g.row.T.Denot → g.row.U.Denot) → ((x : g.row.T.Denot) (y : g.row.U.Denot) → FnReturnsAt g.F.Fn l.make x (Ok y) → y ≡ f x) → l.all.items ≡ map f (take l.item-index l.items)
