-- How many held requests wait for an index, by the numbers of servers.
use Rattle.std.specs.Prelude.{◌≡◌, ℕ, ◌+◌, ◌<◌, Bool, false, List, [], ◌∷◌, length, slice_index_or}
use Rattle.cluster_rules.specs.Cluster.{Pending}
use Rattle.cluster_rules.specs.Due.{waiting, waits}
use Rattle.cluster_requests.specs.declared.slot.HeldSlot.{HeldSlot}
use Rattle.cluster_requests.specs.declared.slot.HeldSlot.TheVariants.{Held, LetGo}
use Rattle.cluster_requests.specs.Held.{held_in}

-- the slot's request waits at server i
abbrev pub slot_waits : ℕ → HeldSlot → Bool
slot_waits i (Held h) = waits i h
slot_waits i (LetGo number) = false

-- 1 where it does, and else 0
abbrev pub counted : ℕ → HeldSlot → ℕ
counted i slot = waiting i (held_in (slot ∷ []))

-- each server's count is of those that wait there
abbrev pub AreCounts : List ℕ → List Pending → Type 0
AreCounts counts held = (i : ℕ) → i < length counts → slice_index_or counts i 0 ≡ waiting i held

-- the slot's request joins those that are counted
pub record Joins (slot : HeldSlot) (before after : List ℕ) : Type 0 where
  pub len : length after ≡ length before
  pub each : (i : ℕ) → i < length before → slice_index_or after i 0 ≡ slice_index_or before i 0 + counted i slot
