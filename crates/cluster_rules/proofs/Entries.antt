-- Entries by their index.
use Rattle.std.proofs.Common.{◌≡◌, ℕ, zero, suc, ◌<◌, ◌≤◌, [], ◌∷◌, ◌++◌, length, take, refl, sym, ◌∙◌, ap, arith, Some}
use Rattle.cat_model.specs.declared.command.Entry.{Entry}
use Rattle.raft_model.specs.Log.{Log, entry_at, term_at, number_at}

some_is : (a b : Entry) → Some a ≡ Some b → a ≡ b
some_is a b p = cc p

pub entry_term : (m : ℕ) (a : Log) (e : Entry) → entry_at m a ≡ Some e → term_at m a ≡ e.term
entry_term zero a e p = absurd (cc p)
entry_term (suc n) [] e p = absurd (cc p)
entry_term (suc zero) (x ∷ a) e p = ap (λ (z : Entry). z.term) (some_is x e p)
entry_term (suc (suc n)) (x ∷ a) e p = entry_term (suc n) a e p

pub entry_number : (m : ℕ) (a : Log) (e : Entry) → entry_at m a ≡ Some e → number_at m a ≡ e.number
entry_number zero a e p = absurd (cc p)
entry_number (suc n) [] e p = absurd (cc p)
entry_number (suc zero) (x ∷ a) e p = ap (λ (z : Entry). z.number) (some_is x e p)
entry_number (suc (suc n)) (x ∷ a) e p = entry_number (suc n) a e p

pub entry_within : (m : ℕ) (a : Log) (e : Entry) → entry_at m a ≡ Some e → (0 < m) × (m ≤ length a)
entry_within zero a e p = absurd (cc p)
entry_within (suc n) [] e p = absurd (cc p)
entry_within (suc zero) (x ∷ a) e p = (omega arith, omega arith)
entry_within (suc (suc n)) (x ∷ a) e p = let q = entry_within (suc n) a e p in (omega arith, omega (arith, q.1))

pub entry_there : (m : ℕ) (a : Log) → 0 < m → m ≤ length a → (e : Entry) × (entry_at m a ≡ Some e)
entry_there zero a p l = absurd (omega arith)
entry_there (suc n) [] p l = absurd (omega arith)
entry_there (suc zero) (x ∷ a) p l = (x, refl)
entry_there (suc (suc n)) (x ∷ a) p l = entry_there (suc n) a (omega arith) (omega arith)

pub entry_take : (n m : ℕ) (x : Log) → n ≤ m → entry_at n (take m x) ≡ entry_at n x
entry_take zero m x h = refl
entry_take (suc n) zero x h = absurd (omega arith)
entry_take (suc n) (suc m) [] h = refl
entry_take (suc zero) (suc m) (e ∷ es) h = refl
entry_take (suc (suc n)) (suc m) (e ∷ es) h = entry_take (suc n) m es (omega arith)

pub agree_entry : (k n : ℕ) (x y : Log) → k ≤ n → take n x ≡ take n y → entry_at k x ≡ entry_at k y
agree_entry k n x y h e = sym (entry_take k n x h) ∙ ap (entry_at k) e ∙ entry_take k n y h

-- a log and its next entry
pub take_next : (n : ℕ) (a : Log) (e : Entry) → entry_at (suc n) a ≡ Some e → take (suc n) a ≡ take n a ++ e ∷ []
take_next n [] e p = absurd (cc p)
take_next zero (x ∷ a) e p = ap (λ (z : Entry). z ∷ []) (some_is x e p)
take_next (suc n) (x ∷ a) e p = ap (λ z. x ∷ z) (take_next n a e p)

-- the entry behind a log's end
pub entry_last : (a : Log) (e : Entry) → entry_at (suc (length a)) (a ++ e ∷ []) ≡ Some e
entry_last [] e = refl
entry_last (x ∷ a) e = entry_last a e
