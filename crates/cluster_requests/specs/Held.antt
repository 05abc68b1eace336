-- Held requests as they are kept: in slots, each with its number. That of a request that was dropped stays empty
-- until it is swept out.
use Rattle.std.specs.Prelude.{◌≡◌, ◌≢◌, ◌==◌, ℕ, ◌<◌, if◌then◌else◌, Contains, List, [], ◌∷◌, length, get_or, Option, Some, None}
use Rattle.std.specs.List.{AllByRecursion as Each, filter_map}
use Rattle.cluster_rules.specs.Cluster.{Pending, Stand}
use Rattle.cluster_rules.specs.Step.{ended}
use Rattle.cluster_requests.specs.declared.slot.HeldSlot.{HeldSlot}
use Rattle.cluster_requests.specs.declared.slot.HeldSlot.TheVariants.{Held, LetGo}
use Rattle.cluster_requests.specs.Requests.{restood}

-- `room` is for how many more there is room
pub record HeldRequests : Type 0 where
  pub requests : List Pending  -- in the order of their numbers
  pub room : ℕ

-- no request is held
abbrev pub none_held : HeldRequests
none_held = record { requests = []; room = 0 }

-- the request of a slot
abbrev pub pending_of : HeldSlot → Option Pending
pending_of (Held h) = Some h
pending_of (LetGo number) = None

-- the requests of these slots
abbrev pub held_in : List HeldSlot → List Pending
held_in slots = filter_map pending_of slots

-- the number of a slot's request, also of one that was dropped
abbrev pub slot_number : HeldSlot → ℕ
slot_number (Held h) = h.question.number
slot_number (LetGo number) = number

-- the number of the request that a slot holds
abbrev pub number_held : HeldSlot → Option ℕ
number_held (Held h) = Some h.question.number
number_held (LetGo number) = None

-- the slots stand in the order of their numbers
abbrev pub Rises : List HeldSlot → Type 0
Rises [] = Unit {0}
Rises (s ∷ slots) = Each (λ (t : HeldSlot). slot_number s < slot_number t) slots × Rises slots

-- where the slot of a number stands, if there is one
abbrev pub IsPlace : ℕ → List HeldSlot → Option ℕ → Type 0
IsPlace number slots (Some at) = (at < length slots) × ((d : HeldSlot) → slot_number (get_or slots at d) ≡ number)
IsPlace number slots None = (k : ℕ) (d : HeldSlot) → k < length slots → slot_number (get_or slots k d) ≢ number

-- the slot whose request has another stand, where it has this number
abbrev pub slot_restood : ℕ → Stand → HeldSlot → HeldSlot
slot_restood number stand (Held h) = Held (restood number stand h)
slot_restood number stand (LetGo own) = LetGo own

-- the slot whose request is to be closed, where this server holds it
abbrev pub slot_ended : ℕ → ℕ → HeldSlot → HeldSlot
slot_ended server event (Held h) = Held (ended server event h)
slot_ended server event (LetGo own) = LetGo own

-- the request is to be closed, where it has this number and this server holds it
abbrev pub ended_numbered : ℕ → ℕ → ℕ → Pending → Pending
ended_numbered number server event h = if h.question.number == number then ended server event h else h

-- these are the numbers of all that a server holds, and maybe others
abbrev pub NumbersAll : ℕ → List ℕ → List Pending → Type 0
NumbersAll server numbers held = Each (λ (h : Pending). h.server ≡ server → Contains numbers h.question.number) held
