-- Tests of held requests, at the slots that they stand in.
use Rattle.std.proofs.Common.{◌≡◌, Bool, true, false, cond, List, [], ◌∷◌, Option, Some, None, refl}
use Rattle.std.specs.List.{find}
use Rattle.cluster_rules.specs.Cluster.{Pending}
use Rattle.cluster_requests.specs.declared.slot.HeldSlot.{HeldSlot}
use Rattle.cluster_requests.specs.declared.slot.HeldSlot.TheVariants.{Held, LetGo}
use Rattle.cluster_requests.specs.Held.{held_in, pending_of}
use Rattle.cluster_works.specs.Looking.{test_held}

-- a request that a slot holds, or none
abbrev pub slot_request : Option HeldSlot → Option Pending
slot_request None = None
slot_request (Some slot) = pending_of slot

found_step : (b : Bool) (h : Pending) (slot : Option HeldSlot) (rest : Option Pending) → slot_request slot ≡ rest → slot_request (cond b (Some (Held h)) slot) ≡ cond b (Some h) rest
found_step true h slot rest e = refl
found_step false h slot rest e = e

-- the first request that passes is that of the first slot that does
pub found_there : (test : Pending → Bool) (slots : List HeldSlot) → slot_request (find (λ (s : HeldSlot). test_held test (pending_of s)) slots) ≡ find test (held_in slots)
found_there test [] = refl
found_there test (Held h ∷ slots) = found_step (test h) h _ _ (found_there test slots)
found_there test (LetGo number ∷ slots) = found_there test slots
