-- What becomes of the stores where servers are to begin.
use Rattle.std.specs.Prelude.{◌≡◌, ℕ, List, [], ◌∷◌, ◌++◌, ◌⊎◌}
use Rattle.outside.specs.declared.faults.KeepFail.{KeepFail}
use Rattle.outside.specs.declared.faults.KeepFail.TheVariants.{Memory}
use Rattle.raft_model.specs.Node.{Node, Store}
use Rattle.raft_model.specs.Step.{CallWorks, as_before}
use Rattle.raft_model.specs.World.{StartAll}
use Rattle.raft_node.specs.Steps.{FailsToLoad}

-- The stores of servers that could not begin: those before one were read, that one was not, and those behind it were
-- not tried. Lack of memory for the world itself comes before any is read.
abbrev pub AreGivenBack : KeepFail → List Store → List Store → Type 0
AreGivenBack why [] [] = why ≡ Memory
AreGivenBack why [] (t ∷ ts) = ⊥
AreGivenBack why (s ∷ ss) [] = ⊥
AreGivenBack why (s ∷ ss) (t ∷ ts) = (FailsToLoad why s t × (ts ≡ ss)) ⊎ (CallWorks as_before s t × AreGivenBack why ss ts)

-- The servers of the first of these stores began, the next one could not be read, and the rest wait.
abbrev pub Stops : ℕ → List Store → List Node → KeepFail → Store → List Store → Type 0
Stops servers stores nodes why now rest =
    (front : List Store) × (store : Store) × (stores ≡ front ++ store ∷ rest) × StartAll servers 1 front nodes × FailsToLoad why store now
