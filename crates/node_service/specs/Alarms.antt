-- When a node's alarm is due, and what is done then. Times are in milliseconds.
use Rattle.std.specs.Prelude.{◌≡◌, ℕ, ◌+◌, ◌-◌, ◌%◌, ◌==◌, nat_le, max, Bool, true, false, ◌&&◌, ◌||◌, if◌then◌else◌, Option, Some, None, Result, Ok, Err}
use Rattle.cat_model.specs.declared.memory.Memory.{Memory}
use Rattle.cat_model.specs.declared.reply.Role.{Role}
use Rattle.cat_model.specs.declared.reply.Role.TheVariants.{Candidate, Follower, Leader}
use Rattle.raft_model.specs.declared.message.Message.TheVariants.{Append}
use Rattle.raft_model.specs.Rules.{Beat, Timeout}
use Rattle.raft_model.specs.Step.{NodeStep, Works}
use Rattle.raft_node.specs.Steps.{Steps}
use Rattle.node_link.specs.Hosts.{Hosted, FindsNoMemory, Makes}
use Rattle.peer_frames.specs.declared.frame.Frame.{Frame}
use Rattle.peer_frames.specs.declared.frame.Frame.TheVariants.{Peer}
use Rattle.node_service.specs.declared.alarm.Alarm.{Alarm}

-- The alarm as it is set at a time: an election timeout is 300 to 599 milliseconds, by a drawn word.
abbrev pub set_at : ℕ → ℕ → Alarm
set_at now word = record { since_ms = now; election_ms = 300 + word % 300 }

-- A leader waits 100 milliseconds, and any other server its election timeout.
abbrev pub wait_of : Role → Alarm → ℕ
wait_of Leader alarm = 100
wait_of Candidate alarm = alarm.election_ms
wait_of Follower alarm = alarm.election_ms

-- That wait is over. Where the clock shows less than when the alarm was set, no time has passed.
abbrev pub is_due : Alarm → Role → ℕ → Bool
is_due alarm role now = nat_le (wait_of role alarm) (now - alarm.since_ms)

-- a leader's heartbeat, or the timeout of any other
abbrev pub IsDone : Role → Hosted → Result Unit Memory → Hosted → Type 0
IsDone Leader old (Ok done) new = Makes (NodeStep Works) old Beat new
IsDone Leader old (Err e) new = new ≡ old
IsDone Candidate old (Ok done) new = Makes Steps old Timeout new
IsDone Candidate old (Err e) new = FindsNoMemory old Timeout new
IsDone Follower old (Ok done) new = Makes Steps old Timeout new
IsDone Follower old (Err e) new = FindsNoMemory old Timeout new

-- An alarm that is due is set anew, also where memory ran out. One that is not does nothing.
abbrev pub Rings : Bool → Alarm → Hosted → ℕ → ℕ → Result Unit Memory → Alarm → Hosted → Type 0
Rings true alarm old now word result next new = IsDone old.node.role old result new × (next ≡ set_at now word)
Rings false alarm old now word result next new = (result ≡ Ok tt) × (new ≡ old) × (next ≡ alarm)

abbrev pub is_known : Option ℕ → ℕ → Bool
is_known None server = false
is_known (Some leader) server = leader == server

-- an Append of the host's term by the leader that it knows
abbrev pub is_from_leader : Hosted → Frame → Bool
is_from_leader h (Peer sender (Append term prev_index prev_term entries commit round)) =
    (term == h.node.term) && is_known h.node.leader sender
is_from_leader h other = false

-- The election timeout begins anew with each word of the leader, and with each vote that is granted.
abbrev pub heard : Hosted → Frame → Bool → ℕ → ℕ → Alarm → Alarm
heard h frame granted now word alarm = if granted || is_from_leader h frame then set_at (max alarm.since_ms now) word else alarm
