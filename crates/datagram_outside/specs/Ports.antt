-- What a port of datagrams tells, and what its calls do to that.
use Rattle.std.specs.Prelude.{◌≡◌, ℕ, ◌+◌, ◌≤◌, List, [], ◌∷◌, ◌++◌, length, take, Option, option_map, Result, MatchResult, OnOk, IsErrOf}
use Rattle.outside.specs.Causes.{Rose}
use Rattle.outside.specs.declared.faults.KeepFail.{KeepFail}
use Rattle.outside.specs.declared.faults.KeepFail.TheVariants as k

-- a packet, with the number of the peer that it came from or went to
pub record Datagram : Type 0 where
  pub peer : ℕ
  pub packet : List ℕ

-- What a port tells: how many packets it gave, how many calls failed, and, where it tells them, the packets that came and
-- those that went, in order.
pub record PortState : Type 0 where
  pub given : ℕ
  pub faults : ℕ
  pub came : Option (List Datagram)
  pub went : Option (List Datagram)

-- these datagrams behind those that are told, where they are told
abbrev pub append_told : Option (List Datagram) → List Datagram → Option (List Datagram)
append_told told more = option_map (λ before. before ++ more) told

-- a port of which nothing was received and to which nothing was given
pub record IsNew (port : PortState) : Type 0 where
  pub none_given : port.given ≡ 0
  pub no_faults : port.faults ≡ 0

-- a packet came whole into the front of a buffer, from a peer of this number
pub record Came (old : PortState) (into : List ℕ) (size peer : ℕ) (new : PortState) : Type 0 where
  pub bound : size ≤ length into
  pub given : new.given ≡ old.given + 1
  pub came : new.came ≡ append_told old.came (record { peer = peer; packet = take size into } ∷ [])

-- nothing came
pub record Waited (old new : PortState) : Type 0 where
  pub given : new.given ≡ old.given
  pub came : new.came ≡ old.came

-- a packet was sent whole to a peer of this number, or nothing was; it failed only where the faults are one more
pub record Sends (old : PortState) (peer : ℕ) (packet : List ℕ) (result : Result Unit KeepFail) (new : PortState) : Type 0 where
  pub went : MatchResult result (λ _. new.went ≡ append_told old.went (record { peer = peer; packet = packet } ∷ [])) (λ _. new.went ≡ old.went)
  pub sent : OnOk result (new.faults ≡ old.faults)
  pub failed : IsErrOf result k.Failed → Rose old.faults new.faults
  pub memory : IsErrOf result k.Memory → new.faults ≡ old.faults
  pub later : old.faults ≤ new.faults
  pub at_most_one : new.faults ≤ old.faults + 1
  pub given : new.given ≡ old.given
  pub came : new.came ≡ old.came
