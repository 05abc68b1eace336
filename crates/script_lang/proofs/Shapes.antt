-- Lines with the wrong number of words.
use Rattle.std.proofs.Common.{◌≡◌, ℕ, List, [], ◌∷◌, Err, refl}
use Rattle.script_lang.specs.declared.bad_line.BadLine.TheVariants.{UnknownLine}
use Rattle.script_lang.specs.declared.numbers.Bounds.{Bounds}
use Rattle.script_lang.specs.Numbers.{one_number, two_numbers}
use Rattle.script_lang.specs.Lines.{opening}

pub not_one : (bounds : Bounds) (words : List (List ℕ)) → ((word : List ℕ) → words ≡ word ∷ [] → ⊥) → one_number bounds words ≡ Err UnknownLine
not_one bounds [] none = refl
not_one bounds (a ∷ []) none = absurd (none a refl)
not_one bounds (a ∷ b ∷ words) none = refl

pub not_two : (first second : Bounds) (a : List ℕ) (words : List (List ℕ)) → ((word : List ℕ) → words ≡ word ∷ [] → ⊥) → two_numbers first second (a ∷ words) ≡ Err UnknownLine
not_two first second a [] none = refl
not_two first second a (b ∷ []) none = absurd (none b refl)
not_two first second a (b ∷ c ∷ words) none = refl

pub not_three : (s a : List ℕ) (words : List (List ℕ)) → ((word : List ℕ) → words ≡ word ∷ [] → ⊥) → opening (s ∷ a ∷ words) ≡ Err UnknownLine
not_three s a [] none = refl
not_three s a (b ∷ []) none = absurd (none b refl)
not_three s a (b ∷ c ∷ words) none = refl
