use Rattle.std.proofs.Common.{◌≡◌, ◌++◌, Ok, Option, drop, map, take}
use Rattle.std.specs.Fn.{FnReturnsAt}
use Rattle.agent_state.specs.Replacing.{all_replaced, other_or}
use Rattle.agent_state.proofs.replacements.replacements.Given as goal

abbrev pub invariant-loop-at : goal.invariant-loop-at
invariant-loop-at g l =
    (f : g.row.T.Denot → g.row.T.Denot) → ((x : g.row.T.Denot) (y : Option g.row.T.Denot) → FnReturnsAt g.F.Fn l.make x (Ok y) → other_or x y ≡ f x) → all_replaced l.all.items l.items ≡ map f (take l.at l.items) ++ drop l.at l.items
