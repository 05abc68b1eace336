-- The sessions of a node, and those that stand on one of its checks.
use Rattle.std.specs.Prelude.{ℕ, Bool, ◌&&◌, ◌||◌, List}
use Rattle.std.specs.List.{list_any}
use Rattle.cat_model.specs.Keys.{same_text, is_empty}
use Rattle.cat_model.specs.declared.row.SessionRow.{SessionRow}

abbrev pub is_of_node : List ℕ → SessionRow → Bool
is_of_node node s = same_text s.node node

abbrev pub has_check : List ℕ → List (List ℕ) → Bool
has_check check checks = list_any (λ c. same_text c check) checks

-- the session stands on the check, or on any where none is named
abbrev pub stands_on : List ℕ → SessionRow → Bool
stands_on check s = is_empty check || has_check check s.checks

-- the session is one of the node and stands on the check, or on any where none is named
abbrev pub is_on : List ℕ → List ℕ → SessionRow → Bool
is_on node check s = is_of_node node s && stands_on check s

-- the same of one of these checks
abbrev pub is_on_some : List ℕ → List (List ℕ) → SessionRow → Bool
is_on_some node checks s = list_any (λ check. is_on node check s) checks
