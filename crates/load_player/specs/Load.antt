-- The words of the command line that ask for a load.
use Rattle.std.specs.Prelude.{◌≡◌, ℕ, List, [], ◌∷◌, Ok, codes}
use Rattle.script_lang.specs.Lines.{any64, between}
use Rattle.script_lang.specs.Numbers.{number_in}
use Rattle.load_player.specs.declared.load.Load.{Load}

-- the words write these numbers
pub record AreWritten (seed size : List ℕ) (load : Load) : Type 0 where
  pub seed_is : number_in any64 seed ≡ Ok load.seed
  pub size_is : number_in (between 1 100000) size ≡ Ok load.size

pub record AsksForLoad (words : List (List ℕ)) (load : Load) : Type 0 where
  pub seed : List ℕ
  pub size : List ℕ
  pub are : words ≡ codes "load" ∷ seed ∷ size ∷ []
  pub written : AreWritten seed size load
