-- What tests tell, and what holds of an item after a write.
use Rattle.std.proofs.Common.{◌≡◌, ℕ, zero, suc, ◌+◌, ◌<◌, ◌≤◌, Bool, true, false, cond, not, ◌⊎◌, List, [], ◌∷◌, length, take, get_or, set, replicate, refl, ap, arith}
use Rattle.std.specs.Prelude.{◌==◌, nat_le, nat_lt, ◌&&◌, ◌||◌}
use Rattle.std.proofs.lemmas.Bool.Decides.{nat_tests}
use Rattle.std.proofs.lemmas.List.{length-take}
use Rattle.raft_model.specs.Log.{Log, term_at, IsUpToDate}
use Rattle.raft_model.specs.Rules.{is_up_to_date, keeps_front}
use Rattle.raft_model.specs.Limits.{batch, command_bytes, joining, most_sent_bytes}
use Rattle.raft_model.specs.Node.{of_server, set_server}

-- an element after a write is the new one or an old one
pub at_set : (P : ℕ → Type 0) (xs : List ℕ) (i x p : ℕ) → (p ≡ i → P x) → P (get_or xs p 0) → P (get_or (set xs i x) p 0)
at_set P [] i x p same old = old
at_set P (a ∷ xs) zero x zero same old = same refl
at_set P (a ∷ xs) zero x (suc p) same old = old
at_set P (a ∷ xs) (suc i) x zero same old = old
at_set P (a ∷ xs) (suc i) x (suc p) same old = at_set P xs i x p (λ e. same (ap suc e)) old

-- an element of a list of one number
pub at_replicate : (P : ℕ → Type 0) (n x p : ℕ) → P x → P 0 → P (get_or (replicate n x) p 0)
at_replicate P zero x p a b = b
at_replicate P (suc n) x zero a b = a
at_replicate P (suc n) x (suc p) a b = at_replicate P n x p a b

pub at_bool : (P : Bool → Type 0) (b : Bool) → (b ≡ true → P true) → (b ≡ false → P false) → P b
at_bool P true f g = f refl
at_bool P false f g = g refl

pub lt_tells : (a b : ℕ) → nat_lt a b ≡ true → a < b
lt_tells a b e = grind (arith, nat_tests)

pub lt_tells_not : (a b : ℕ) → nat_lt a b ≡ false → b ≤ a
lt_tells_not a b e = grind (arith, nat_tests)

pub le_tells : (a b : ℕ) → nat_le a b ≡ true → a ≤ b
le_tells a b e = grind (arith, nat_tests)

pub le_is : (a b : ℕ) → a ≤ b → nat_le a b ≡ true
le_is a b e = grind (arith, nat_tests)

pub eq_tells : (a b : ℕ) → (a == b) ≡ true → a ≡ b
eq_tells a b e = grind (arith, nat_tests)

pub and_tells : (a b : Bool) → (a && b) ≡ true → (a ≡ true) × (b ≡ true)
and_tells a b h = grind arith

pub or_tells : (a b : Bool) → (a || b) ≡ true → (a ≡ true) ⊎ (b ≡ true)
or_tells a b h = grind arith

pub up_tells : (t n : ℕ) (log : Log) → is_up_to_date t n log ≡ true → IsUpToDate t n log
up_tells t n log e = grind (arith, nat_tests)

pub keeps_tells : (k : ℕ) (old new : Log) → k ≤ length old → keeps_front k old new ≡ true → (k ≤ length new) × (term_at k old ≡ term_at k new)
keeps_tells zero old new l e = (omega arith, refl)
keeps_tells (suc k) [] new l e = absurd (omega arith)
keeps_tells (suc k) (a ∷ old) [] l e = cc e
keeps_tells (suc zero) (a ∷ old) (b ∷ new) l e = let q = and_tells (a.term == b.term) (keeps_front zero old new) e in (omega arith, eq_tells a.term b.term q.0)
keeps_tells (suc (suc k)) (a ∷ old) (b ∷ new) l e =
    let q = and_tells (a.term == b.term) (keeps_front (suc k) old new) e in
    let r = keeps_tells (suc k) old new (omega arith) q.1 in (omega (arith, r.0), r.1)

pub not_tells : (b : Bool) → not b ≡ false → b ≡ true
not_tells true e = refl
not_tells false e = cc e

pub or_false : (a b : Bool) → (a || b) ≡ false → (a ≡ false) × (b ≡ false)
or_false a b h = grind arith

-- the same of a list by server
pub at_server : (P : ℕ → Type 0) (xs : List ℕ) (i x p : ℕ) → (p ≡ i → P x) → P (of_server xs p) → P (of_server (set_server xs i x) p)
at_server P xs zero x p same old = old
at_server P xs (suc i) x zero same old = old
at_server P xs (suc i) x (suc p) same old = at_set P xs i x p (λ e. same (ap suc e)) old

pub at_all : (P : ℕ → Type 0) (n x p : ℕ) → P x → P 0 → P (of_server (replicate n x) p)
at_all P n x zero a b = b
at_all P n x (suc p) a b = at_replicate P n x p a b

pub lt_is : (a b : ℕ) → a < b → nat_lt a b ≡ true
lt_is a b e = grind (arith, nat_tests)

pub eq_is : (a b : ℕ) → a ≡ b → (a == b) ≡ true
eq_is a b e = grind (arith, nat_tests)

pub or_left : (a b : Bool) → a ≡ true → (a || b) ≡ true
or_left a b h = grind arith

pub and_is : (a b : Bool) → a ≡ true → b ≡ true → (a && b) ≡ true
and_is a b h k = grind arith

pub no_bool : (b : Bool) → b ≡ true → b ≡ false → ⊥
no_bool b e f = cc (e, f)

-- a batch is a front of what it is taken from
joining_front : (room before : ℕ) (es : Log) → joining room before es ≡ take (length (joining room before es)) es
joining_front zero before es = refl
joining_front (suc room) before [] = refl
joining_front (suc room) before (e ∷ es) = at_bool (λ b. cond b (e ∷ joining room (before + command_bytes e.command) es) [] ≡ take (length (cond b (e ∷ joining room (before + command_bytes e.command) es) [])) (e ∷ es))
    (nat_le (before + command_bytes e.command) most_sent_bytes) (λ _. ap (λ x. e ∷ x) (joining_front room (before + command_bytes e.command) es)) (λ _. refl)

pub batch_front : (es : Log) → batch es ≡ take (length (batch es)) es
batch_front [] = refl
batch_front (e ∷ es) = ap (λ x. e ∷ x) (joining_front 63 (command_bytes e.command) es)

pub batch_short : (es : Log) → length (batch es) ≤ length es
batch_short es = omega (arith, ap length (batch_front es), length-take (length (batch es)) es)
