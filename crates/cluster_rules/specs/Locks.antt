-- Writes that acquire locks, which a lock delay may refuse.
-- Consul, Sessions: "Session Design" (lock-delay).
use Rattle.std.specs.Prelude.{◌≡◌, ℕ, nat_lt, ◌&&◌, ◌⊎◌, Bool, true, false, if◌then◌else◌, List, [], ◌∷◌, Option, Some, None}
use Rattle.cat_model.specs.declared.command.Command.{Command}
use Rattle.cat_model.specs.declared.command.Command.TheVariants.{KvLock, Txn}
use Rattle.cat_model.specs.declared.command.TxnOp.{TxnOp}
use Rattle.cat_model.specs.declared.command.Verb.{Verb}
use Rattle.cat_model.specs.declared.command.Verb.TheVariants.{Lock}

abbrev pub is_lock : Verb → Bool
is_lock Lock = true
is_lock verb = false

-- an operation of a transaction locks this key
abbrev pub OneLocks : List ℕ → List TxnOp → Type 0
OneLocks key [] = ⊥
OneLocks key (o ∷ ops) = ((is_lock o.verb ≡ true) × (o.key ≡ key)) ⊎ OneLocks key ops

-- the command locks this key
abbrev pub LocksKey : List ℕ → Command → Type 0
LocksKey key (KvLock k flags value session) = k ≡ key
LocksKey key (Txn ops) = OneLocks key ops
LocksKey key other = ⊥

-- the first key to be locked whose delay is not over
abbrev pub first_delayed : (List ℕ → ℕ) → ℕ → List TxnOp → Option (List ℕ)
first_delayed until now [] = None
first_delayed until now (o ∷ ops) = if is_lock o.verb && nat_lt now (until o.key) then Some o.key else first_delayed until now ops

abbrev pub delayed : (List ℕ → ℕ) → ℕ → Command → Option (List ℕ)
delayed until now (KvLock key flags value session) = if nat_lt now (until key) then Some key else None
delayed until now (Txn ops) = first_delayed until now ops
delayed until now other = None
