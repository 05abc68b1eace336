-- No log is more up to date than server 1's: another server's log changes by an Append of server 1 alone.
use Rattle.std.proofs.Common.{◌≡◌, ℕ, zero, suc, ◌+◌, ◌<◌, ◌≤◌, ◌⊎◌, inl, inr, cond, [], ◌∷◌, ◌++◌, length, take, drop, refl, sym, ◌∙◌, ap, subst, arith}
use Rattle.std.specs.Prelude.{◌==◌}
use Rattle.std.proofs.lemmas.List.{length-append, length-take}
use Rattle.cat_model.specs.declared.command.Entry.{Entry}
use Rattle.raft_model.specs.Log.{IsUpToDate, Log, accepted, last_term, merged, term_at}
use Rattle.std.proofs.Math.Seq.{take-length}
use Rattle.raft_model.proofs.Going.{longer_length}
use Rattle.raft_model.proofs.Logs.{agree_term, term_take}
use Rattle.raft_model.proofs.Tests.{at_bool}

-- the last term, behind other entries
last_more : (xs ys : Log) → 0 < length ys → last_term (xs ++ ys) ≡ last_term ys
last_more [] ys l = refl
last_more (x ∷ xs) ys l = last_cons x (xs ++ ys) (omega (arith, length-append xs ys)) ∙ last_more xs ys l
  where
    last_cons : (x : Entry) (ys : Log) → 0 < length ys → last_term (x ∷ ys) ≡ last_term ys
    last_cons x [] l = absurd (omega arith)
    last_cons x (y ∷ ys) l = refl

-- What comes of a log into which entries are merged: it is as before, or ends with them.
abbrev Ends : ℕ → Log → Log → Log → Type 0
Ends prev old es new = (new ≡ old) ⊎ ((0 < length es) × (length new ≡ prev + length es) × (last_term new ≡ last_term es))

merged_ends : (have es : Log) → Ends 0 have es (merged have es)
merged_ends have [] = inl (by have)
  where
    by : (have : Log) → merged have [] ≡ have
    by [] = refl
    by (x ∷ xs) = refl
merged_ends [] (e ∷ es) = inr (omega arith, omega arith, refl)
merged_ends (h ∷ hs) (e ∷ es) = at_bool (λ b. Ends 0 (h ∷ hs) (e ∷ es) (cond b (h ∷ merged hs es) (e ∷ es))) (h.term == e.term)
    (λ _. elim (merged_ends hs es) [
      | inl q ↦ inl (ap (λ (z : Log). h ∷ z) q)
      | inr q ↦ inr (omega arith, let n = q.1 in omega arith, last_more (h ∷ []) (merged hs es) (let n = q.1 in let p = q.0 in omega arith) ∙ q.2 ∙ sym (last_more (e ∷ []) es q.0))
    ])
    (λ _. inr (omega arith, omega arith, refl))

front_back : (n : ℕ) (xs : Log) → take n xs ++ drop n xs ≡ xs
front_back zero xs = refl
front_back (suc n) [] = refl
front_back (suc n) (x ∷ xs) = ap (λ (z : Log). x ∷ z) (front_back n xs)

accepted_ends : (log : Log) (prev : ℕ) (es : Log) → prev ≤ length log → Ends prev log es (accepted log prev es)
accepted_ends log prev es l = elim (merged_ends (drop prev log) es) [
  | inl q ↦ inl (ap (λ (z : Log). take prev log ++ z) q ∙ front_back prev log)
  | inr q ↦ inr (
    q.0,
    (let n = q.1 in let m = length-append (take prev log) (merged (drop prev log) es) in let k = length-take prev log in omega arith),
    last_more (take prev log) (merged (drop prev log) es) (let n = q.1 in let p = q.0 in omega arith) ∙ q.2,
  )
]

-- the last term of a piece of a log
term_behind : (prev n : ℕ) (xs : Log) → 0 < n → term_at n (drop prev xs) ≡ term_at (prev + n) xs
term_behind zero n xs l = ap (λ z. term_at z xs) (let e : n ≡ zero + n = omega arith in e)
term_behind (suc prev) n [] l = by n (suc prev + n)
  where
    by : (n m : ℕ) → term_at n [] ≡ term_at m []
    by zero zero = refl
    by zero (suc m) = refl
    by (suc n) zero = refl
    by (suc n) (suc m) = refl
term_behind (suc prev) n (x ∷ xs) l = term_behind prev n xs l ∙ up (prev + n) (omega arith) ∙ ap (λ z. term_at z (x ∷ xs)) (let e : suc (prev + n) ≡ suc prev + n = omega arith in e)
  where
    up : (m : ℕ) → 0 < m → term_at m xs ≡ term_at (suc m) (x ∷ xs)
    up zero l = absurd (omega arith)
    up (suc m) l = refl

piece_last : (prev : ℕ) (xs es : Log) → 0 < length es → es ≡ take (length es) (drop prev xs) → last_term es ≡ term_at (prev + length es) xs
piece_last prev xs es l e =
    ap (term_at (length es)) e ∙ term_take (length es) (length es) (drop prev xs) (omega arith) ∙ term_behind prev (length es) xs l

-- a log whose terms never fall
abbrev pub IsSorted : Log → Type 0
IsSorted log = (m n : ℕ) → 0 < m → m ≤ n → n ≤ length log → term_at m log ≤ term_at n log

-- no log is more up to date than it
abbrev pub Leads : Log → Log → Type 0
Leads first log = IsUpToDate (last_term first) (length first) log

-- its fronts are not
front_behind : (first log : Log) (k : ℕ) → IsSorted first → 0 < k → k ≤ length first → length log ≡ k → last_term log ≡ term_at k first → Leads first log
front_behind first log k s p l n t = (let q = s k (length first) p l (omega arith) in omega arith, λ _. omega arith)

-- and it only grows
pub grown_leads : (first first' log : Log) → IsSorted first' → take (length first) first' ≡ first → Leads first log → Leads first' log
grown_leads first first' log s g u = (let a = u.0 in let b = low in omega arith, λ e. let a = u.0 in let b = low in let c = u.1 (omega arith) in let n = longer_length first first' g in omega arith)
  where
    low : last_term first ≤ last_term first'
    low = at_zero (length first) refl
      where
        at_zero : (n : ℕ) → length first ≡ n → term_at n first ≤ last_term first'
        at_zero zero e = omega arith
        at_zero (suc n) e =
            let k = s (suc n) (length first') (omega arith) (let m = longer_length first first' g in omega arith) (omega arith) in
            let q = agree_term (suc n) (length first) first' first (omega arith) (g ∙ sym (take-length first)) in omega arith

-- What a follower takes of server 1's log.
pub accepted_leads : (first log : Log) (prev : ℕ) (es : Log) → IsSorted first → prev ≤ length log → prev + length es ≤ length first → es ≡ take (length es) (drop prev first) → Leads first log → Leads first (accepted log prev es)
accepted_leads first log prev es s l within are u = elim (accepted_ends log prev es l) [
  | inl q ↦ subst (Leads first) (sym q) u
  | inr q ↦ front_behind first (accepted log prev es) (prev + length es) s (let p = q.0 in omega arith) within q.1 (q.2 ∙ piece_last prev first es q.0 are)
]
