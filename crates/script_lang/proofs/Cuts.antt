-- Words from the front.
use Rattle.std.proofs.Common.{◌≡◌, ℕ, zero, suc, ◌+◌, ◌-◌, ◌<◌, Bool, true, false, List, [], ◌∷◌, length, take, drop, get_or, Option, None, Some, refl, sym, ap, ◌∙◌, subst, arith, length-drop}
use Rattle.std.specs.List.{position_or_len, join_with_byte}
use Rattle.std.proofs.Math.Seq.{take-length}
use Rattle.std.proofs.lemmas.List.Sums.{position_or_len_is}
use Rattle.std.proofs.lemmas.List.Splits.{slice_split_none, slice_split_first, length-slice_split, join_with_byte-slice_split}
use Rattle.memchr.specs.Find.{IsFirstByte, is_byte}
use Rattle.script_lang.specs.Words.{is_space, words_of, words_in, rest_of}

not_true : (b : Bool) → (b ≡ true → ⊥) → b ≡ false
not_true true h = absurd (h refl)
not_true false h = refl

take-rest : (bs : List ℕ) (n : ℕ) → take (length bs - n) (drop n bs) ≡ drop n bs
take-rest bs n = subst (λ m. take m (drop n bs) ≡ drop n bs) (length-drop n bs) (take-length (drop n bs))

get_or_any : (bs : List ℕ) (k d : ℕ) → k < length bs → get_or bs k d ≡ get_or bs k 0
get_or_any [] k d below = absurd (omega arith)
get_or_any (b ∷ bs) zero d below = refl
get_or_any (b ∷ bs) (suc k) d below = get_or_any bs k d (omega arith)

-- the first word ends at the first space
pub words_of-some : (bs : List ℕ) (k : ℕ) → IsFirstByte (is_byte 32) bs (Some k) → words_of bs ≡ take k bs ∷ words_of (take (length bs - (k + 1)) (drop (k + 1) bs))
words_of-some bs k h =
    let at : position_or_len is_space bs ≡ k = position_or_len_is is_space bs k 0 (omega (arith, h.0.high)) (λ i below. not_true _ (h.0.before i (omega arith) below)) (λ _. h.1) in
    let split = slice_split_first is_space bs 0 (rw at h.0.high) in
    rw (take-rest bs (k + 1)) (subst (λ n. words_of bs ≡ take n bs ∷ words_of (drop (n + 1) bs)) at split)

-- bytes without a space are one word
pub words_of-none : (bs : List ℕ) → IsFirstByte (is_byte 32) bs None → words_of bs ≡ bs ∷ []
words_of-none bs h =
    slice_split_none is_space bs (λ k d below. ap is_space (get_or_any bs k d below) ∙ not_true _ (h k (omega arith) below))

rest_of-list : (words : List (List ℕ)) (bytes : List ℕ) → join_with_byte 32 words ≡ bytes → 0 < length words → rest_of words ≡ Some bytes
rest_of-list [] bytes e some = absurd (omega arith)
rest_of-list (word ∷ words) bytes e some = ap Some e

some_words : (bytes : List ℕ) → 0 < length (words_of bytes)
some_words bytes = omega (arith, length-slice_split is_space bytes)

-- what follows a word, back from the words in it
pub rest_of-words_in : (o : Option (List ℕ)) → rest_of (words_in o) ≡ o
rest_of-words_in None = refl
rest_of-words_in (Some bytes) = rest_of-list (words_of bytes) bytes (join_with_byte-slice_split 32 bytes) (some_words bytes)

-- a word that another follows isn't the last
pub not_last : (words : List (List ℕ)) (first bytes : List ℕ) → words ≡ first ∷ words_of bytes → (word : List ℕ) → words ≡ word ∷ [] → ⊥
not_last words first bytes e word one = omega (arith, some_words bytes, ap length (sym e ∙ one))
