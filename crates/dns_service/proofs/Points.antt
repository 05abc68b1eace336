-- Parts of a text between points.
use Rattle.std.proofs.Common.{◌≡◌, ℕ, zero, suc, ◌+◌, ◌-◌, ◌<◌, Bool, true, false, List, [], ◌∷◌, length, take, drop, get_or, None, Some, refl, ap, ◌∙◌, subst, arith, length-drop}
use Rattle.std.specs.List.{position_or_len}
use Rattle.std.proofs.Math.Seq.{take-length}
use Rattle.std.proofs.lemmas.List.Sums.{position_or_len_is}
use Rattle.std.proofs.lemmas.List.Splits.{slice_split_none, slice_split_first, length-slice_split}
use Rattle.memchr.specs.Find.{IsFirstByte, is_byte}
use Rattle.dns_service.specs.Instances.{is_point, parts_of, octets_of}

not_true : (b : Bool) → (b ≡ true → ⊥) → b ≡ false
not_true true h = absurd (h refl)
not_true false h = refl

-- the bytes from a place on
pub take-rest : (bs : List ℕ) (n : ℕ) → take (length bs - n) (drop n bs) ≡ drop n bs
take-rest bs n = subst (λ m. take m (drop n bs) ≡ drop n bs) (length-drop n bs) (take-length (drop n bs))

get_or_any : (bs : List ℕ) (k d : ℕ) → k < length bs → get_or bs k d ≡ get_or bs k 0
get_or_any [] k d below = absurd (omega arith)
get_or_any (b ∷ bs) zero d below = refl
get_or_any (b ∷ bs) (suc k) d below = get_or_any bs k d (omega arith)

-- the first part ends at the first point
pub parts_of-some : (bs : List ℕ) (k : ℕ) → IsFirstByte (is_byte 46) bs (Some k) → parts_of bs ≡ take k bs ∷ parts_of (take (length bs - (k + 1)) (drop (k + 1) bs))
parts_of-some bs k h =
    let at : position_or_len is_point bs ≡ k = position_or_len_is is_point bs k 0 (omega (arith, h.0.high)) (λ i below. not_true _ (h.0.before i (omega arith) below)) (λ _. h.1) in
    let split = slice_split_first is_point bs 0 (rw at h.0.high) in
    rw (take-rest bs (k + 1)) (subst (λ n. parts_of bs ≡ take n bs ∷ parts_of (drop (n + 1) bs)) at split)

-- bytes without a point are one part
pub parts_of-none : (bs : List ℕ) → IsFirstByte (is_byte 46) bs None → parts_of bs ≡ bs ∷ []
parts_of-none bs h =
    slice_split_none is_point bs (λ k d below. ap is_point (get_or_any bs k d below) ∙ not_true _ (h k (omega arith) below))

too_many : (w x y z : List ℕ) (more : List (List ℕ)) → 0 < length more → octets_of (w ∷ x ∷ y ∷ z ∷ more) ≡ None
too_many w x y z [] some = absurd (omega arith)
too_many w x y z (a ∷ more) some = refl

-- a fifth part is too many
pub octets_more : (w x y z bytes : List ℕ) → octets_of (w ∷ x ∷ y ∷ z ∷ parts_of bytes) ≡ None
octets_more w x y z bytes = too_many w x y z (parts_of bytes) (omega (arith, length-slice_split is_point bytes))
