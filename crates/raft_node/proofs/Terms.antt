-- The term at an index, as code finds it.
use Rattle.std.proofs.Common.{◌≡◌, ℕ, zero, suc, ◌-◌, ◌<◌, ◌≤◌, [], ◌∷◌, length, get_or, Some, None, refl, sym, ◌∙◌, ap, arith}
use Rattle.cat_model.specs.declared.command.Entry.{Entry}
use Rattle.raft_model.specs.Log.{Log, term_at, entry_at}

pub term_in : (log : Log) (n : ℕ) (d : Entry) → n < length log → (get_or log n d).term ≡ term_at (suc n) log
term_in [] n d l = absurd (omega arith)
term_in (e ∷ es) zero d l = refl
term_in (e ∷ es) (suc n) d l = term_in es n d (omega arith)

pub term_is : (log : Log) (n : ℕ) (d : Entry) → 0 < n → n ≤ length log → (get_or log (n - 1) d).term ≡ term_at n log
term_is log zero d p l = absurd (omega arith)
term_is log (suc n) d p l = let e : suc n - 1 ≡ n = omega arith in let h = term_in log n d (omega arith) in ap (λ k. (get_or log k d).term) e ∙ h

pub term_past : (n : ℕ) (log : Log) → length log < n → term_at n log ≡ 0
term_past zero log l = absurd (omega arith)
term_past (suc n) [] l = refl
term_past (suc zero) (e ∷ es) l = absurd (omega arith)
term_past (suc (suc n)) (e ∷ es) l = term_past (suc n) es (omega arith)

pub term_none : (n : ℕ) (log : Log) → n ≡ 0 → term_at n log ≡ 0
term_none n log e = ap (λ k. term_at k log) e

-- the same of the entry
entry_in : (log : Log) (n : ℕ) (d : Entry) → n < length log → Some (get_or log n d) ≡ entry_at (suc n) log
entry_in [] n d l = absurd (omega arith)
entry_in (e ∷ es) zero d l = refl
entry_in (e ∷ es) (suc n) d l = entry_in es n d (omega arith)

pub entry_is : (log : Log) (n : ℕ) (d : Entry) → 0 < n → n ≤ length log → Some (get_or log (n - 1) d) ≡ entry_at n log
entry_is log zero d p l = absurd (omega arith)
entry_is log (suc n) d p l = let e : suc n - 1 ≡ n = omega arith in let h = entry_in log n d (omega arith) in ap (λ k. Some (get_or log k d)) e ∙ h

pub entry_past : (n : ℕ) (log : Log) → length log < n → None ≡ entry_at n log
entry_past zero log l = absurd (omega arith)
entry_past (suc n) [] l = refl
entry_past (suc zero) (e ∷ es) l = absurd (omega arith)
entry_past (suc (suc n)) (e ∷ es) l = entry_past (suc n) es (omega arith)

pub entry_none : (n : ℕ) (log : Log) → n ≡ 0 → None ≡ entry_at n log
entry_none n log e = ap (λ k. entry_at k log) (sym e)
