-- What the words of the command line may ask for.
use Rattle.std.specs.Prelude.{◌≡◌, ℕ, List, [], ◌∷◌, codes}
use Rattle.load_player.specs.declared.load.Load.{Load}
use Rattle.load_player.specs.Load.{AsksForLoad}
use Rattle.http_front.specs.declared.options.Options.{Options}
use Rattle.http_front.specs.Options.{AsksFor}

abbrev pub AsksForScript : List (List ℕ) → Type 0
AsksForScript words = words ≡ codes "script" ∷ []

abbrev pub AsksForNoServer : List (List ℕ) → Type 0
AsksForNoServer words = (options : Options) → AsksFor words options → ⊥

-- neither for a script nor for a load
abbrev pub PlaysNothing : List (List ℕ) → Type 0
PlaysNothing words = (AsksForScript words → ⊥) × ((load : Load) → AsksForLoad words load → ⊥)

-- for a script, a load or a server, or for nothing that is known
pub data HasForm (words : List (List ℕ)) : Type 0 where
  asks_script : AsksForScript words → HasForm words
  asks_load : (load : Load) → AsksForLoad words load → HasForm words
  asks_server : (options : Options) → AsksFor words options → HasForm words
  asks_nothing : PlaysNothing words → AsksForNoServer words → HasForm words

-- the same of words that ask for no server
pub data HasPlainForm (words : List (List ℕ)) : Type 0 where
  plays_script : AsksForScript words → HasPlainForm words
  plays_load : (load : Load) → AsksForLoad words load → HasPlainForm words
  plays_nothing : PlaysNothing words → HasPlainForm words
