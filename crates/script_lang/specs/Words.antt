-- The words of a line.
use Rattle.std.specs.Prelude.{ℕ, ◌==◌, Bool, true, List, [], ◌∷◌, Option, None, Some}
use Rattle.std.specs.List.{slice_split, join_with_byte}

-- Words are parted by one space.
abbrev pub is_space : ℕ → Bool
is_space b = b == 32

abbrev pub words_of : List ℕ → List (List ℕ)
words_of bytes = slice_split is_space bytes

-- the words of what follows a word
abbrev pub words_in : Option (List ℕ) → List (List ℕ)
words_in None = []
words_in (Some bytes) = words_of bytes

-- what follows a word, by the words in it
abbrev pub rest_of : List (List ℕ) → Option (List ℕ)
rest_of [] = None
rest_of (word ∷ words) = Some (join_with_byte 32 (word ∷ words))

-- an empty line, and one that begins with `;`
abbrev pub is_nothing : List ℕ → Bool
is_nothing [] = true
is_nothing (b ∷ bs) = b == 59
