use Rattle.std.proofs.Common.{sym, subst, [], get_or}
use Rattle.std.specs.List.{AllByRecursion}
use Rattle.index_list.specs.Nodes.{family_of}
use Rattle.read_watch.proofs.Hits.{IsShown, kept_same, noted_all}
use Rattle.read_watch.proofs.hit.note_family.Goals as goal

pub returns-clause-noted : goal.returns-clause-noted
returns-clause-noted c = record {
  noted = noted_all c.args.waiters.now.entries c.args.fired.now c.loop-node.found.keys c.args.list.now.items (get_or (family_of c.args.family c.args.list.now) c.args.number [])
      (c.loop-node.invariant.rest c.loop-node.found.keys (kept_same c.loop-node.found.keys)
      (subst (AllByRecursion (IsShown c.args.waiters.now.entries c.args.fired.now c.loop-node.found.keys)) (sym c.in-None.ensures.steps.0) tt));
}
