-- Logs with more entries behind them, as code reads them in two parts.
use Rattle.std.proofs.Common.{◌≡◌, ℕ, zero, suc, ◌+◌, ◌-◌, ◌<◌, ◌≤◌, min, [], ◌∷◌, ◌++◌, length, take, drop, cond, nat_le, refl, ◌∙◌, ap, arith}
use Rattle.std.proofs.lemmas.List.{length-take, length-drop, take_all}
use Rattle.raft_model.specs.Log.{Log, term_at}
use Rattle.raft_model.specs.Limits.{batch, joining, command_bytes, most_sent_bytes}

term_before : (n : ℕ) (x y : Log) → n ≤ length x → term_at n x ≡ term_at n (x ++ y)
term_before zero x y l = refl
term_before (suc n) [] y l = absurd (omega arith)
term_before (suc zero) (e ∷ x) y l = refl
term_before (suc (suc n)) (e ∷ x) y l = term_before (suc n) x y (omega arith)

term_behind : (x y : Log) (n m : ℕ) → m ≡ length x + n → term_at (suc n) y ≡ term_at (suc m) (x ++ y)
term_behind [] y n m h = let e : n ≡ m = omega (arith, h) in ap (λ k. term_at (suc k) y) e
term_behind (e ∷ x) y n zero h = absurd (omega (arith, h))
term_behind (e ∷ x) y n (suc m) h = term_behind x y n m (omega (arith, h))

pub term_first : (n : ℕ) (x y : Log) → n ≤ length x → term_at n x ≡ term_at n (x ++ y)
term_first n x y l = term_before n x y l

pub term_more : (n : ℕ) (x y : Log) → length x < n → term_at (n - length x) y ≡ term_at n (x ++ y)
term_more n x y l =
    let k : ℕ = n - length x - 1 in
    let e : n - length x ≡ suc k = omega (arith, l) in
    let e' : suc (n - 1) ≡ n = omega (arith, l) in
    ap (λ m. term_at m y) e ∙ term_behind x y k (n - 1) (omega (arith, l)) ∙ ap (λ m. term_at m (x ++ y)) e'

-- the first entries of both parts behind an index
take_both : (k j : ℕ) (x y : Log) → j ≡ k - length x → take k x ++ take j y ≡ take k (x ++ y)
take_both zero j x y h = let e : j ≡ 0 = omega (arith, h) in ap (λ n. take n y) e
take_both (suc k) j [] y h = let e : j ≡ suc k = omega (arith, h) in ap (λ n. take n y) e
take_both (suc k) j (e ∷ x) y h = ap (λ (z : Log). e ∷ z) (take_both k j x y (omega (arith, h)))

drop_both : (k j : ℕ) (x y : Log) → j ≡ k - length x → drop k x ++ drop j y ≡ drop k (x ++ y)
drop_both zero j x y h = let e : j ≡ 0 = omega (arith, h) in ap (λ n. x ++ drop n y) e
drop_both (suc k) j [] y h = let e : j ≡ suc k = omega (arith, h) in ap (λ n. drop n y) e
drop_both (suc k) j (e ∷ x) y h = drop_both k j x y (omega (arith, h))

drop_min : (k j : ℕ) (x : Log) → j ≡ min k (length x) → drop j x ≡ drop k x
drop_min zero j x h = let e : j ≡ 0 = omega (arith, h) in ap (λ n. drop n x) e
drop_min (suc k) j [] h = let e : j ≡ 0 = omega (arith, h) in ap (λ n. drop n []) e
drop_min (suc k) zero (e ∷ x) h = absurd (omega (arith, h))
drop_min (suc k) (suc j) (e ∷ x) h = drop_min k j x (omega (arith, h))

take_short : (k : ℕ) (x : Log) → k - length (take k x) ≡ k - length x
take_short k x = omega (arith, length-take k x)

-- as the window is put together
pub window_is : (x y : Log) (prev start skipped : ℕ) → start ≡ min prev (length x) → skipped ≡ min (prev - start) (length y) →
    take 64 (drop start x) ++ take (64 - length (take 64 (drop start x))) (drop skipped y) ≡ take 64 (drop prev (x ++ y))
window_is x y prev start skipped e f =
    let first : drop start x ≡ drop prev x = drop_min prev start x e in
    let rest : drop skipped y ≡ drop (prev - length x) y = drop_min (prev - length x) skipped y (omega (arith, e, f)) in
    let short = take_short 64 (drop start x) in
    take_both 64 (64 - length (take 64 (drop start x))) (drop start x) (drop skipped y) short
    ∙ ap (λ (z : Log). take 64 (z ++ drop skipped y)) first
    ∙ ap (λ (z : Log). take 64 (drop prev x ++ z)) rest
    ∙ ap (take 64) (drop_both prev (prev - length x) x y refl)

rest_is : (k : ℕ) (x : Log) → take (length x - k) (drop k x) ≡ drop k x
rest_is k x = take_all (length x - k) (drop k x) (omega (arith, length-drop k x))

pub first_short : (k n : ℕ) (a x : Log) → a ≡ take 64 x → n ≡ length a → n ≤ 64
first_short k n a x e f = omega (arith, f, ap length e, length-take 64 x)

-- and from the parts that code takes
pub window_of : (x y : Log) (prev start skipped left : ℕ) (a b : Log) → start ≡ min prev (length x) → skipped ≡ min (prev - start) (length y) →
    a ≡ take 64 (take (length x - start) (drop start x)) → left ≡ 64 - length a → b ≡ take left (take (length y - skipped) (drop skipped y)) →
    a ++ b ≡ take 64 (drop prev (x ++ y))
window_of x y prev start skipped left a b e f g h k =
    let g' : a ≡ take 64 (drop start x) = g ∙ ap (take 64) (rest_is start x) in
    let h' : left ≡ 64 - length (take 64 (drop start x)) = h ∙ ap (λ (z : Log). 64 - length z) g' in
    let k' : b ≡ take (64 - length (take 64 (drop start x))) (drop skipped y) = k ∙ ap (take left) (rest_is skipped y) ∙ ap (λ n. take n (drop skipped y)) h' in
    ap (λ (z : Log). z ++ b) g' ∙ ap (λ (z : Log). take 64 (drop start x) ++ z) k' ∙ window_is x y prev start skipped e f

-- an Append's entries are among the first 64
joining_front : (room before : ℕ) (es : Log) → joining room before (take room es) ≡ joining room before es
joining_front zero before es = refl
joining_front (suc room) before [] = refl
joining_front (suc room) before (e ∷ es) =
    ap (λ (z : Log). cond (nat_le (before + command_bytes e.command) most_sent_bytes) (e ∷ z) []) (joining_front room (before + command_bytes e.command) es)

pub batch_front : (es : Log) → batch (take 64 es) ≡ batch es
batch_front [] = refl
batch_front (e ∷ es) = ap (λ (z : Log). e ∷ z) (joining_front 63 (command_bytes e.command) es)
