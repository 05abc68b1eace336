-- A well-formed log by places, and by pairs of entries.
use Rattle.std.proofs.Common.{◌≡◌, ◌≢◌, ℕ, zero, suc, ◌+◌, ◌<◌, ◌≤◌, List, [], ◌∷◌, length, refl, sym, subst, arith}
use Rattle.std.specs.List.{AllByRecursion}
use Rattle.cat_model.specs.declared.command.Entry.{Entry}
use Rattle.cat_model.specs.Log.{InPairs, IsNoLaterTerm, IsOtherInTerm, IsOther, IsEnteredOnce}
use Rattle.cat_model.specs.Log as catalog
use Rattle.cat_model.specs.declared.command.Command.TheVariants.{Noop}
use Rattle.raft_model.specs.Log.{Log, term_at, number_at}

-- the first entry, if there is one, is a leader's own
abbrev pub OpensWithNoop : Log → Type 0
OpensWithNoop [] = Unit {0}
OpensWithNoop (e ∷ es) = (e.number ≡ 0) × (e.command ≡ Noop)

-- The same as a well-formed log, by places: the first entry is a Noop with number 0, terms never fall, and no two
-- entries of one term have the same number other than 0.
pub record IsOrdered (log : Log) : Type 0 where
  pub opens : OpensWithNoop log
  pub rises : (m n : ℕ) → 0 < m → m ≤ n → n ≤ length log → term_at m log ≤ term_at n log
  pub numbers : (m n : ℕ) → 0 < m → m < n → n ≤ length log → term_at m log ≡ term_at n log → number_at m log ≡ number_at n log → number_at m log ≡ 0

-- no two entries have the same number other than 0
abbrev pub HasNumbersOnce : Log → Type 0
HasNumbersOnce log = (m n : ℕ) → 0 < m → m < n → n ≤ length log → number_at m log ≡ number_at n log → number_at m log ≡ 0

-- behind the first entry
term_behind : (e : Entry) (es : Log) (n : ℕ) → 0 < n → term_at (suc n) (e ∷ es) ≡ term_at n es
term_behind e es zero some = absurd (omega arith)
term_behind e es (suc n) some = refl

number_behind : (e : Entry) (es : Log) (n : ℕ) → 0 < n → number_at (suc n) (e ∷ es) ≡ number_at n es
number_behind e es zero some = absurd (omega arith)
number_behind e es (suc n) some = refl

-- a fact of term and number at each place is one of each entry
each : (P : ℕ → ℕ → Type 0) (es : Log) → ((n : ℕ) → 0 < n → n ≤ length es → P (term_at n es) (number_at n es)) → AllByRecursion (λ e. P e.term e.number) es
each P [] h = tt
each P (e ∷ es) h = (
  h (suc zero) (omega arith) (omega arith),
  each P es (λ n some le. subst (λ (t : ℕ). P t (number_at n es)) (term_behind e es n some)
      (subst (λ (k : ℕ). P (term_at (suc n) (e ∷ es)) k) (number_behind e es n some) (h (suc n) (omega arith) (omega arith)))),
)

-- a fact of the terms and numbers of each two places is one of each two entries
pairs : (R : ℕ → ℕ → ℕ → ℕ → Type 0) (log : Log) →
    ((m n : ℕ) → 0 < m → m < n → n ≤ length log → R (term_at m log) (number_at m log) (term_at n log) (number_at n log)) →
    InPairs (λ e later. R e.term e.number later.term later.number) log
pairs R [] h = tt
pairs R (e ∷ es) h = (
  each (R e.term e.number) es (λ n some le. subst (λ (t : ℕ). R e.term e.number t (number_at n es)) (term_behind e es n some)
      (subst (λ (k : ℕ). R e.term e.number (term_at (suc n) (e ∷ es)) k) (number_behind e es n some) (h (suc zero) (suc n) (omega arith) (omega arith) (omega arith)))),
  pairs R es (λ m n some less le.
      let later : 0 < n = omega arith in
      let here = h (suc m) (suc n) (omega arith) (omega arith) (omega arith) in
      rw (term_behind e es m some, number_behind e es m some, term_behind e es n later, number_behind e es n later) at here),
)

opens : (log : Log) → OpensWithNoop log → catalog.Opens log
opens [] h = tt
opens (e ∷ es) h = (h.1, h.0)

-- an ordered log is well formed
pub ordered-well_formed : (log : Log) → IsOrdered log → catalog.IsWellFormed log
ordered-well_formed log h = record {
  opens = opens log h.opens;
  terms = pairs (λ t k u l. t ≤ u) log (λ m n some less le. h.rises m n some (omega arith) le);
  numbers = pairs (λ t k u l. u ≡ t → k ≢ 0 → l ≢ k) log (λ m n some less le same other equal. other (h.numbers m n some less le (sym same) (sym equal)));
}

pub numbers-entered_once : (log : Log) → HasNumbersOnce log → IsEnteredOnce log
numbers-entered_once log h = record {
  numbers = pairs (λ t k u l. k ≢ 0 → l ≢ k) log (λ m n some less le other equal. other (h m n some less le (sym equal)));
}
