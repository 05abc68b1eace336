-- How logs begin.
use Rattle.std.proofs.Common.{ℕ, [], arith, inl, inr, length, subst, sym, take, ◌++◌, ◌<◌, ◌∷◌, ◌≡◌}
use Rattle.cat_model.specs.declared.command.Command.TheVariants.{Noop}
use Rattle.cat_model.specs.declared.command.Entry.{Entry}
use Rattle.raft_model.proofs.History.{Follows, MayFollow}
use Rattle.raft_model.specs.Log.{Log, term_at}
use Rattle.raft_model.proofs.Pairs.{OpensWithNoop}

pub opens_push : (x : Log) (e : Entry) → OpensWithNoop x → MayFollow x e → OpensWithNoop (x ++ e ∷ [])
opens_push [] e o (inl l) = absurd (omega arith)
opens_push [] e o (inr p) = p
opens_push (a ∷ x) e o m = o

opens_front : (x y : Log) → 0 < length x → take 1 x ≡ take 1 y → OpensWithNoop y → OpensWithNoop x
opens_front [] y l e o = tt
opens_front (a ∷ x) [] l e o = cc e
opens_front (a ∷ x) (b ∷ y) l e o = let q : a ≡ b = cc e in subst (λ (z : Entry). (z.number ≡ 0) × (z.command ≡ Noop)) (sym q) o

-- a log that follows ledgers begins as they do
pub opens_follows : (ledger : ℕ → Log) → ((t : ℕ) → OpensWithNoop (ledger t)) → (x : Log) → Follows ledger x → OpensWithNoop x
opens_follows ledger o [] f = tt
opens_follows ledger o (a ∷ x) f = opens_front (a ∷ x) (ledger (term_at 1 (a ∷ x))) (omega arith) (f 1 (omega arith)) (o (term_at 1 (a ∷ x)))
