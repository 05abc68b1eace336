use Rattle.std.proofs.Common.{[], get_or}
use Rattle.index_list.specs.Nodes.{family_of}
use Rattle.index_list.specs.Walks.{shown}
use Rattle.read_watch.proofs.Hits.{Noting}
use Rattle.read_watch.proofs.hit.note_family.Given as goal

abbrev pub invariant-loop-node : goal.invariant-loop-node
invariant-loop-node l = Noting l.waiters.entries l.fired l.fn.found.keys l.found.keys (shown l.list.items (get_or (family_of l.fn.family l.list) l.number [])) l._node-iterator
