-- What was served: which packets came and which replies went, and of which catalogs.
use Rattle.std.specs.Prelude.{◌≡◌, ◌⊎◌, ℕ, ◌+◌, ◌≤◌, List, [], ◌∷◌, ◌++◌, length, Option, None, Some}
use mathlib.Core.List.{IsPrefix}
use Rattle.cat_model.specs.declared.command.Command.{Command}
use Rattle.outside.specs.Causes.{Rose}
use Rattle.outside.specs.declared.faults.KeepFail.{KeepFail}
use Rattle.outside.specs.declared.faults.KeepFail.TheVariants as k
use Rattle.datagram_outside.specs.Ports.{Datagram, PortState, append_told}
use Rattle.dns_service.specs.Reading.{answers_at}
use Rattle.dns_service.specs.Replies.{dns_reply}
use Rattle.dns_server.specs.declared.packets.DnsCause.{DnsCause}
use Rattle.dns_server.specs.declared.packets.DnsCause.TheVariants as c

-- to the peer, if there is a reply
abbrev pub sent_to : ℕ → Option (List ℕ) → List Datagram
sent_to peer None = []
sent_to peer (Some reply) = record { peer = peer; packet = reply } ∷ []

-- the reply to a packet by the catalog that these commands make, to whom it came from
abbrev pub reply_by : List Command → Datagram → List Datagram
reply_by commands d = sent_to d.peer (dns_reply (answers_at commands) d.packet)

-- The replies to the packets, in order, are what went. Each is by the commands at its time, which only go on, from the
-- first of these lists to the last.
abbrev pub Answered : List Command → List Datagram → List Datagram → List Command → Type 0
Answered first [] went last = (went ≡ []) × IsPrefix first last
Answered first (d ∷ packets) went last =
    (now : List Command) × (later : List Datagram)
    × IsPrefix first now × (went ≡ reply_by now d ++ later) × Answered now packets later last

-- ... but for the reply to the last packet
pub record AllButLast (first : List Command) (packets went : List Datagram) (last : List Command) : Type 0 where
  pub before : List Datagram
  pub unanswered : Datagram
  pub packets_are : packets ≡ before ++ unanswered ∷ []
  pub answered : Answered first before went last

-- between these two states of a port those packets came, and those went
pub record Passed (old new : PortState) (came went : List Datagram) : Type 0 where
  pub given : new.given ≡ old.given + length came
  pub came_told : new.came ≡ append_told old.came came
  pub went_told : new.went ≡ append_told old.went went

-- All replies went where the work was done. Else the last one may lack, whose call failed or found no memory.
abbrev pub RepliesWent : DnsCause → List Command → List Datagram → List Datagram → List Command → Type 0
RepliesWent c.Done first packets went last = Answered first packets went last
RepliesWent c.Fault first packets went last = Answered first packets went last ⊎ AllButLast first packets went last
RepliesWent c.Memory first packets went last = Answered first packets went last ⊎ AllButLast first packets went last

-- what one run of the server did
pub record Served (old new : PortState) (first last : List Command) (taken : ℕ) (cause : DnsCause) : Type 0 where
  pub packets : List Datagram
  pub went : List Datagram
  pub passed : Passed old new packets went
  pub taken_is : taken ≡ length packets
  pub replies : RepliesWent cause first packets went last

-- a call of the port failed, or found no memory
abbrev pub cause_of : KeepFail → DnsCause
cause_of k.Failed = c.Fault
cause_of k.Memory = c.Memory

-- why it ended: all packets that it was to take are taken and no call failed, or a call failed, or none did
abbrev pub IsReason : DnsCause → PortState → PortState → ℕ → ℕ → Type 0
IsReason c.Done old new packets taken = (taken ≡ packets) × (new.faults ≡ old.faults)
IsReason c.Fault old new packets taken = Rose old.faults new.faults
IsReason c.Memory old new packets taken = new.faults ≡ old.faults

pub record HasReason (old new : PortState) (packets taken : ℕ) (cause : DnsCause) : Type 0 where
  pub few : taken ≤ packets
  pub reason : IsReason cause old new packets taken
