-- Bytes counted onto a total.
use Rattle.std.proofs.Common.{◌≡◌, ℕ, zero, suc, ◌+◌, ◌<◌, List, [], ◌∷◌, length, take, get_or, ap, arith, add-one}
use Rattle.cat_model.specs.declared.command.Entry.{Entry}
use Rattle.raft_model.specs.Limits.{command_bytes, entries_bytes}

more : (es : List Entry) (i : ℕ) (e : Entry) → i < length es → e ≡ get_or es i e → entries_bytes (take (suc i) es) ≡ entries_bytes (take i es) + command_bytes e.command
more [] i e h is = absurd (omega arith)
more (x ∷ xs) zero e h is = let same : command_bytes e.command ≡ command_bytes x.command = ap (λ y. command_bytes y.command) is in omega arith
more (x ∷ xs) (suc i) e h is = let ih = more xs i e (omega arith) is in omega arith

pub entries_more : (es : List Entry) (i : ℕ) (e : Entry) → i < length es → e ≡ get_or es i e → entries_bytes (take (i + 1) es) ≡ entries_bytes (take i es) + command_bytes e.command
entries_more es i e h is = rw (add-one i) (more es i e h is)
