use Rattle.std.proofs.Common.{◌≡◌, ℕ, true, List, [], sym, ◌∙◌, ap, length, get_or, arith}
use Rattle.index_list.specs.Nodes.{family_of}
use Rattle.index_list.specs.Places.{has}
use Rattle.index_list.proofs.Walking.{next_there, some_there, once_in, walk_step}
use Rattle.index_list.proofs.walk.WalkIterator.next.Goals as goal

pub invariant_of-self : goal.invariant_of-self
invariant_of-self g c =
    let l : List ℕ = get_or (family_of c.self.inside.family c.self.inside.nodes.now) c.self.inside.list [] in
    let here : has c.in_ok-node.node l ≡ true = some_there l c.in_ok-node.node c.self.inside.at c.in_ok-node.was c.self.invariant in
    next_there c.in_ok-node.node l c.next-self-inside.result (c.next-self-inside.ensures c.self.inside.list here)

pub returns-clause-steps : goal.returns-clause-steps
returns-clause-steps g c =
    let l : List ℕ = get_or (family_of c.self.inside.family c.self.inside.nodes.now) c.self.inside.list [] in
    let here : has c.in_ok-node.node l ≡ true = some_there l c.in_ok-node.node c.self.inside.at c.in_ok-node.was c.self.invariant in
    sym c.self.view_is ∙ walk_step c.self.inside.nodes.now.items l c.in_ok-node.node c.self.inside.at c.next-self-inside.result c.item.result.now c.in_ok-node.was
    (once_in c.self.inside.family c.self.inside.nodes.now c.placed.ensures.once_first c.placed.ensures.once_second c.self.inside.list) here
    (c.next-self-inside.ensures c.self.inside.list here) c.item.ensures

pub returns-clause-goes : goal.returns-clause-goes
returns-clause-goes g c = record {
  on = λ _. (tt, tt, omega (arith, ap length (returns-clause-steps g c)));
  keeps = tt;
  rests = λ _. tt;
}
