-- Lines from the front.
use Rattle.std.proofs.Common.{◌≡◌, ℕ, suc, ◌+◌, ◌<◌, Bool, true, false, nat_eq, List, [], ◌∷◌, length, take, drop, length-drop, refl, arith}
use Rattle.std.specs.List.{before_first, after_first, position_or_len}
use Rattle.script_player.specs.Line.{lines_of, onto_line}

joined : (b : ℕ) (bs : List ℕ) (k : ℕ) → onto_line b (take k bs ∷ lines_of (drop (k + 1) bs)) ≡ take (1 + k) (b ∷ bs) ∷ lines_of (drop (1 + k + 1) (b ∷ bs))
joined b bs k =
    let f : 1 + k + 1 ≡ suc (k + 1) = omega arith in
    let e : 1 + k ≡ suc k = omega arith in
    rw f (rw e refl)

-- the first line, and the lines of what follows it
first_at : (b : ℕ) (bs : List ℕ) (lf : Bool) → nat_eq b 10 ≡ lf →
    ((c : ℕ) (cs : List ℕ) → bs ≡ c ∷ cs → lines_of bs ≡ before_first (λ x. nat_eq x 10) bs ∷ lines_of (after_first (λ x. nat_eq x 10) bs)) →
    lines_of (b ∷ bs) ≡ before_first (λ x. nat_eq x 10) (b ∷ bs) ∷ lines_of (after_first (λ x. nat_eq x 10) (b ∷ bs))
first_at b bs true e h = rw e refl
first_at b [] false e h = rw e refl
first_at b (c ∷ cs) false e h = rw (e, h c cs refl) (joined b (c ∷ cs) (position_or_len (λ x. nat_eq x 10) (c ∷ cs)))

pub lines_of-first : (b : ℕ) (bs : List ℕ) → lines_of (b ∷ bs) ≡ before_first (λ x. nat_eq x 10) (b ∷ bs) ∷ lines_of (after_first (λ x. nat_eq x 10) (b ∷ bs))
lines_of-first b [] = first_at b [] (nat_eq b 10) refl (λ c cs e. absurd cc)
lines_of-first b (d ∷ ds) = first_at b (d ∷ ds) (nat_eq b 10) refl (λ c cs e. lines_of-first d ds)

-- a text that isn't empty has a first line
pub lines_of-step : (bs : List ℕ) → 0 < length bs → lines_of bs ≡ before_first (λ x. nat_eq x 10) bs ∷ lines_of (after_first (λ x. nat_eq x 10) bs)
lines_of-step [] some = absurd (omega arith)
lines_of-step (b ∷ bs) some = lines_of-first b bs

pub length-after_first : (p : ℕ → Bool) (bs : List ℕ) → 0 < length bs → length (after_first p bs) < length bs
length-after_first p bs some = rw length-drop (omega arith)

pub some_byte : (bs : List ℕ) → false ≡ nat_eq (length bs) 0 → 0 < length bs
some_byte [] e = absurd cc
some_byte (b ∷ bs) e = omega arith
