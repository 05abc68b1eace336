use Rattle.std.proofs.Common.{◌≡◌, ◌∙◌, length, arith}
use Rattle.std.proofs.lemmas.Bool.Decides.{nat_tests}
use Rattle.node_rows.proofs.SideBySide.{strays_end}
use Rattle.node_rows.proofs.sides.side_by_side.Goals as goal

pub returns-clause-strays : goal.returns-clause-strays
returns-clause-strays g c =
    let none : length c.loop-sides.left.0.now ≡ 0 = grind (arith, nat_tests) in
    c.in_ok-add_all.ensures ∙ strays_end g.R.Row.cmp g.R.Row.key g.met.R.Row.total c.loop-sides.left.0.now c.loop-sides.left.1.now c.loop-sides.sides.strays.items _ none c.loop-sides.invariant.1
