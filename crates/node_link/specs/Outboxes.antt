-- The messages that a node made and that links have still to send.
use Rattle.std.specs.Prelude.{ℕ, ◌+◌, ◌-◌, ◌^◌, min, nat_lt, List, [], ◌∷◌, ◌++◌, length, if◌then◌else◌}
use Rattle.raft_model.specs.declared.message.Sent.{Sent}

-- `lost` messages found no room, counted up to 2^64 - 1
pub record Unsent : Type 0 where
  pub messages : List Sent
  pub lost : ℕ

abbrev pub no_messages : Unsent
no_messages = record { messages = []; lost = 0 }

-- There is room for 256 messages. One more is lost, as a network may lose it.
abbrev pub posted : Sent → Unsent → Unsent
posted m box =
    if nat_lt (length box.messages) 256
    then record { messages = box.messages ++ m ∷ []; lost = box.lost }
    else record { messages = box.messages; lost = min (box.lost + 1) (2 ^ 64 - 1) }

abbrev pub posted_all : List Sent → Unsent → Unsent
posted_all [] box = box
posted_all (m ∷ ms) box = posted_all ms (posted m box)
