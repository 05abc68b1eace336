-- Locks: what a step may do to the holder and the lock index of a key's row.
use Rattle.std.specs.Prelude.{◌≡◌, ℕ, ◌+◌, Bool, true, false, List, [], ◌∷◌, ◌++◌, Option, Some, None, ◌⊎◌, is_some, length}
use Rattle.std.specs.List.{AllByRecursion}
use Rattle.cat_model.specs.Catalog.{Catalog, kv_at, session_at}
use Rattle.cat_model.specs.Kv.{Outcome, holder, locks}
use Rattle.cat_model.specs.Machine.{act, broken, catalog_at}
use Rattle.cat_model.specs.declared.row.KvRow.{KvRow}
use Rattle.cat_model.specs.declared.row.SessionRow.{SessionRow}
use Rattle.cat_model.specs.declared.command.TxnOp.{TxnOp}
use Rattle.cat_model.specs.declared.command.Command.{Command}
use Rattle.cat_model.specs.declared.command.Command.TheVariants.{Txn}

-- holder and lock index stay
abbrev pub Stays : Option ℕ → ℕ → Option ℕ → ℕ → Type 0
Stays old lock new lock' = (new ≡ old) × (lock' ≡ lock)

-- none held it, one does, and the lock index rose by one
abbrev pub Acquired : Option ℕ → ℕ → Option ℕ → ℕ → Type 0
Acquired old lock new lock' = (old ≡ None) × ((id : ℕ) × (new ≡ Some id)) × (lock' ≡ lock + 1)

-- one held it, none does, and the lock index stays
abbrev pub Released : Option ℕ → ℕ → Option ℕ → ℕ → Type 0
Released old lock new lock' = ((id : ℕ) × (old ≡ Some id)) × (new ≡ None) × (lock' ≡ lock)

abbrev pub MovesTo : Option ℕ → ℕ → Option ℕ → ℕ → Type 0
MovesTo old lock new lock' = Stays old lock new lock' ⊎ (Acquired old lock new lock' ⊎ Released old lock new lock')

-- from the row of a key to the row of that key: a new row counts as one that was not held, with lock index 0
abbrev pub LockMove : Option KvRow → Option KvRow → Type 0
LockMove old None = Unit {0}
LockMove old (Some new) = MovesTo (holder old) (locks old) new.session new.lock_index

pub record IsLockStep (before after : List KvRow) : Type 0 where
  pub moves : (key : List ℕ) → LockMove (kv_at key before) (kv_at key after)

-- the session is none or one that is there
abbrev pub known : List SessionRow → Option ℕ → Bool
known sessions None = true
known sessions (Some id) = is_some (session_at id sessions)

-- each holder is a session that is there, and no session is broken
pub record HoldersStand (k : Catalog) : Type 0 where
  pub holders : AllByRecursion (λ r. known k.sessions r.session ≡ true) k.kv
  pub whole : AllByRecursion (λ s. broken k s ≡ false) k.sessions

abbrev pub is_txn : Command → Bool
is_txn (Txn ops) = true
is_txn other = false

-- an operation of a transaction that does not fail
abbrev pub IfDone : List KvRow → Outcome → Type 0
IfDone before None = Unit {0}
IfDone before (Some done) = IsLockStep before done.0

-- The lock law. After every log the holders stand. Each command but a transaction is a lock step, and so is each
-- operation of a transaction (a law of its own); of the sessions that a transaction ends none is left, since it changes
-- no node and no check: the keys after it are those that its operations made.
pub record LockLaw (log : List Command) : Type 0 where
  pub stand : HoldersStand (catalog_at log)
  pub commands : (c : Command) → is_txn c ≡ false → IsLockStep (catalog_at log).kv (catalog_at (log ++ c ∷ [])).kv
  pub transactions : (ops : List TxnOp) → (catalog_at (log ++ Txn ops ∷ [])).kv ≡ (act (length log + 1) (Txn ops) (catalog_at log)).0.kv
