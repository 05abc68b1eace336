-- The messages in a bag, in the order of their numbers.
use Rattle.std.specs.Prelude.{◌≡◌, ℕ, ◌<◌, ◌≤◌, List, [], ◌∷◌, Option, Some, None, IsSome, length, get_or}
use Rattle.raft_model.specs.World.{Packet, numbered, packets_bytes}

-- the packets' numbers rise, from above this one up to the last
abbrev pub Rises : ℕ → List Packet → ℕ → Type 0
Rises low [] last = low ≤ last
Rises low (p ∷ ps) last = (low < p.number) × Rises p.number ps last

-- what a bag keeps: how many bytes its messages take, within the limit, and their order
pub record InOrder (bytes last : ℕ) (packets : List Packet) : Type 0 where
  pub counted : bytes ≡ packets_bytes packets
  pub within : bytes ≤ 67108864
  pub rises : Rises 0 packets last

-- the message of this number stands here
pub record HasPlace (number : ℕ) (packets : List Packet) (at : ℕ) : Type 0 where
  pub within : at < length packets
  pub is : (p : Packet) → (get_or packets at p).number ≡ number
  pub below : (i : ℕ) (p : Packet) → i < at → (get_or packets i p).number < number

-- the first of the packets, which has the lowest number
abbrev pub first_of : List Packet → Option Packet
first_of [] = None
first_of (p ∷ ps) = Some p

-- the lowest number of a message, where there is one
abbrev pub IsLowest : Option ℕ → List Packet → Type 0
IsLowest None packets = packets ≡ []
IsLowest (Some k) packets = IsSome (numbered k packets) × ((j : ℕ) → IsSome (numbered j packets) → k ≤ j)
