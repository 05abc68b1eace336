use Rattle.std.proofs.Common.{sym, subst, [], get_or}
use Rattle.std.specs.List.{AllByRecursion}
use Rattle.timer_wheel.proofs.Finds.{IsShown, kept_same, noted_all}
use Rattle.timer_wheel.proofs.due.note_slot.Goals as goal

pub returns-clause-noted : goal.returns-clause-noted
returns-clause-noted c =
    noted_all c.args.places.now.entries c.args.now c.loop-node.found.keys c.args.list.now.items (get_or c.args.list.now.first c.args.slot [])
    (c.loop-node.invariant.rest c.loop-node.found.keys (kept_same c.loop-node.found.keys)
    (subst (AllByRecursion (IsShown c.args.places.now.entries c.args.now c.loop-node.found.keys)) (sym c.in-None.ensures.steps.0) tt))
