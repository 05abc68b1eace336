use Rattle.std.proofs.Common.{ℕ, List, [], Option, ◌∙◌, ap, get_or}
use Rattle.index_list.specs.Nodes.{family_of}
use Rattle.index_list.specs.Walks.{shown, nodes_left}
use Rattle.index_list.proofs.Walking.{head_there, left_first}
use Rattle.index_list.proofs.nodes.IndexList.walk.Goals as goal

pub invariant_of-result : goal.invariant_of-result
invariant_of-result g c = head_there (get_or (family_of c.args.family c.args.self.now) c.args.list []) c.head.result c.head.ensures.first

pub returns : goal.returns
returns g c =
    let l : List ℕ = get_or (family_of c.args.family c.args.self.now) c.args.list [] in
    ap (λ (r : Option ℕ). shown c.args.self.now.items (nodes_left r l)) c.head.ensures.first ∙ ap (shown c.args.self.now.items) (left_first l)
