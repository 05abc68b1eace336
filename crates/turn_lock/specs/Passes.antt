-- What clauses see of a lock's passes.
use Rattle.std.specs.Prelude.{◌≡◌, ℕ, List, [], ◌∷◌, ◌++◌, Option, None, true, false}
use Rattle.atomic_table.specs.declared.shared.Seat.{Seat}
use Rattle.turn_lock.specs.declared.knowledge.Knowledge.{Knowledge}
use Rattle.turn_lock.specs.Lists.{Among, EachOnce, numbers}

module _ {S I : Type 0} where
  -- of one lock, and the same pass
  abbrev pub IsSame : Seat (Option S) (Knowledge I) → Seat (Option S) (Knowledge I) → Type 0
  IsSame p q = (q.table_id ≡ p.table_id) × (q.id ≡ p.id)

  -- without a turn
  abbrev pub IsFree : Seat (Option S) (Knowledge I) → Type 0
  IsFree p = (p.me.1 ≡ []) × (p.me.0.waits ≡ 0) × (p.me.0.turn ≡ false)

  -- with the turn
  abbrev pub HasTurn : Seat (Option S) (Knowledge I) → Type 0
  HasTurn p = (p.me.1 ≡ (0, None) ∷ []) × (p.me.0.turn ≡ true)

module _ {I : Type 0} (opens takes : I → Option ℕ) where
  -- the list xs begins with what was seen, opens no number twice, and newly takes only numbers that this pass opened
  abbrev pub MayEnd : List I → List ℕ → List I → Type 0
  MayEnd seen mine xs = (rest : List I) × (xs ≡ seen ++ rest) × EachOnce (numbers opens xs) × ((n : ℕ) → Among n (numbers takes rest) → Among n (mine ++ numbers opens rest))
