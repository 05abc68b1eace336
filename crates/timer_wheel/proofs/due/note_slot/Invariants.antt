use Rattle.std.proofs.Common.{[], get_or}
use Rattle.index_list.specs.Walks.{shown}
use Rattle.timer_wheel.proofs.Finds.{Noting}
use Rattle.timer_wheel.proofs.due.note_slot.Given as goal

abbrev pub invariant-loop-node : goal.invariant-loop-node
invariant-loop-node l = Noting l.places.entries l.now l.fn.found.keys l.found.keys (shown l.list.items (get_or l.list.first l.slot [])) l._node-iterator
