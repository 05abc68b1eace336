-- A request's line, by its words.
use Rattle.std.proofs.Common.{◌≡◌, ℕ, List, ◌∷◌, Option, Ok, refl}
use Rattle.script_lang.specs.Numbers.{number_in}
use Rattle.script_lang.specs.Words.{words_in}
use Rattle.script_lang.specs.Lines.{any32, asks, asking}
use Rattle.script_lang.proofs.Cuts.{rest_of-words_in}

pub asking_is : (number seed agent : ℕ) (w0 w1 w2 : List (List ℕ)) (a m t : List ℕ) (rest : Option (List ℕ)) →
    w0 ≡ a ∷ w1 → w1 ≡ m ∷ w2 → w2 ≡ t ∷ words_in rest → number_in any32 a ≡ Ok agent →
    asking number seed w0 ≡ asks number seed agent m t rest
asking_is number seed agent w0 w1 w2 a m t rest e0 e1 e2 n = rw (e0, e1, e2, n, rest_of-words_in rest) refl
