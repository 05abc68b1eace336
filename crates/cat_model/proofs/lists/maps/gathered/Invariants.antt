use Rattle.std.proofs.Common.{◌≡◌, List, Ok, take}
use Rattle.std.specs.Fn.{FnReturnsAt}
use Rattle.cat_model.specs.Lists.{flat}
use Rattle.cat_model.proofs.lists.maps.gathered.Given as goal

abbrev pub invariant-loop-item : goal.invariant-loop-item
invariant-loop-item g l =
    (f : g.row.T.Denot → List g.row.U.Denot) → ((x : g.row.T.Denot) (y : List g.row.U.Denot) → FnReturnsAt g.F.Fn l.make x (Ok y) → y ≡ f x) → l.all.items ≡ flat f (take l.item-index l.items)
