-- The first key to be locked whose lock delay is not over.
use Rattle.std.proofs.Common.{◌≡◌, ℕ, ◌+◌, ◌<◌, true, List, ◌∷◌, length, drop, get_or, Some, sym, ap, ◌∙◌}
use Rattle.std.specs.Prelude.{if◌then◌else◌, nat_lt, ◌&&◌}
use Rattle.std.proofs.lemmas.List.{drop_more}
use Rattle.cat_model.specs.declared.command.TxnOp.{TxnOp}
use Rattle.cluster_rules.specs.Locks.{first_delayed, is_lock}

-- what is left begins with the operation at its place
from_here : (until : List ℕ → ℕ) (now : ℕ) (ops : List TxnOp) (i : ℕ) (o : TxnOp) → o ≡ get_or ops i o → i < length ops
    → first_delayed until now (drop i ops) ≡ (if is_lock o.verb && nat_lt now (until o.key) then Some o.key else first_delayed until now (drop (i + 1) ops))
from_here until now ops i o is less = ap (first_delayed until now) (drop_more ops i o less ∙ ap (λ (p : TxnOp). p ∷ drop (i + 1) ops) (sym is))

pub waits_here : (until : List ℕ → ℕ) (now : ℕ) (ops : List TxnOp) (i : ℕ) (o : TxnOp) → o ≡ get_or ops i o → i < length ops → is_lock o.verb ≡ true → nat_lt now (until o.key) ≡ true
    → Some o.key ≡ first_delayed until now (drop i ops)
waits_here until now ops i o is less locks waits =
    sym (from_here until now ops i o is less ∙ ap (λ b. if b && nat_lt now (until o.key) then Some o.key else first_delayed until now (drop (i + 1) ops)) locks ∙ ap (λ b. if b then Some o.key else first_delayed until now (drop (i + 1) ops)) waits)
