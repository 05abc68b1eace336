use Rattle.std.proofs.Common.{◌≡◌, Ok, Option, take}
use Rattle.std.specs.List.{filter_map}
use Rattle.std.specs.Fn.{FnReturnsAt}
use Rattle.cat_model.proofs.lists.maps.chosen.Given as goal

abbrev pub invariant-loop-item : goal.invariant-loop-item
invariant-loop-item g l =
    (f : g.row.T.Denot → Option g.row.U.Denot) → ((x : g.row.T.Denot) (y : Option g.row.U.Denot) → FnReturnsAt g.F.Fn l.make x (Ok y) → y ≡ f x) → l.all.items ≡ filter_map f (take l.item-index l.items)
