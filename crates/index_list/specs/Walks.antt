-- What is left of a list on the way along it.
use Rattle.std.specs.Prelude.{ℕ, List, [], ◌∷◌, map, nat_eq, if◌then◌else◌, Option, Some, None}
use Rattle.index_list.specs.Nodes.{item_at}

-- the nodes of a list from one of them on
abbrev pub from_node : ℕ → List ℕ → List ℕ
from_node x [] = []
from_node x (y ∷ ys) = if nat_eq y x then y ∷ ys else from_node x ys

-- the nodes of a list from the next one on, if there is one
abbrev pub nodes_left : Option ℕ → List ℕ → List ℕ
nodes_left None l = []
nodes_left (Some x) l = from_node x l

-- nodes, each with its item
abbrev pub shown : {T : Type 0} → List (Option T) → List ℕ → List (ℕ × Option T)
shown items l = map (λ n. (n, item_at items n)) l
