-- Lists made of lists.
use Rattle.std.specs.Prelude.{List, [], ◌∷◌, ◌++◌}

-- what f makes of each item, one behind the other
abbrev pub flat : {R S : Type 0} → (R → List S) → List R → List S
flat f [] = []
flat f (x ∷ xs) = f x ++ flat f xs
