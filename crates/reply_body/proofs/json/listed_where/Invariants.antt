use Rattle.std.proofs.Common.{◌≡◌, Ok, Bool, filter, map, take}
use Rattle.std.specs.Fn.{FnReturnsAt}
use Rattle.serde_json.specs.Data.{Data}
use Rattle.serde_json.specs.View.{view}
use Rattle.serde_json.specs.declared.value.Value.{Value}
use Rattle.reply_body.proofs.json.listed_where.Given as goal

abbrev pub invariant-loop-item : goal.invariant-loop-item
invariant-loop-item g l =
    (p : g.row.T.Denot → Bool) (f : g.row.T.Denot → Data) → ((x : g.row.T.Denot) (b : Bool) → FnReturnsAt g.P.Fn l.passes x b → b ≡ p x) → ((x : g.row.T.Denot) (y : Value) → FnReturnsAt g.F.Fn l.make x (Ok y) → view y ≡ f x) → map view l.kept.items ≡ map f (filter p (take l.item-index l.items))
