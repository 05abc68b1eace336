-- The bytes of a frame between the servers of a cluster, and of one between a server and its client: a length of four
-- bytes, the most significant first, and a body of so many bytes, which is a kind byte and fields.
use Rattle.std.specs.Prelude.{◌≡◌, ◌≢◌, ℕ, ◌<◌, ◌≤◌, ◌+◌, nat_le, ◌&&◌, ◌||◌, Bool, true, false, List, [], ◌∷◌, ◌++◌, length}
use Rattle.std.specs.List.{concat}
use Rattle.std.specs.Int.{to_be_bytes, w32}
use Rattle.cat_model.specs.declared.command.Entry.{Entry}
use Rattle.cat_model.specs.declared.reply.Role.{Role}
use Rattle.cat_model.specs.declared.reply.Role.TheVariants.{Follower, Candidate, Leader}
use Rattle.cat_model.specs.Spelling.{number_bytes, flag_bytes, list_bytes, spelling}
use Rattle.cat_model.specs.Bounds.{InBounds, IsNumber, IsListOf}
use Rattle.cat_model.specs.LogLimits.{keeps_limits, entries_bytes}
use Rattle.store_records.specs.Records.{entry_bytes, IsEntry}
use Rattle.raft_model.specs.Limits.{most_sent_bytes}
use Rattle.raft_model.specs.declared.message.Message.{Message}
use Rattle.raft_model.specs.declared.message.Message.TheVariants.{AskVote, Vote, Append, Yes, No}
use Rattle.peer_frames.specs.declared.frame.Frame.{Frame}
use Rattle.peer_frames.specs.declared.frame.Frame.TheVariants as frames
use Rattle.peer_frames.specs.declared.frame.Peers.{Peers}
use Rattle.peer_frames.specs.declared.frame.Why.{Why}
use Rattle.peer_frames.specs.declared.frame.Why.TheVariants as whys

abbrev pub role_bytes : Role → List ℕ
role_bytes Follower = 0 ∷ []
role_bytes Candidate = 1 ∷ []
role_bytes Leader = 2 ∷ []

abbrev pub why_bytes : Why → List ℕ
why_bytes whys.NotLeader = 1 ∷ []
why_bytes whys.Full = 2 ∷ []
why_bytes whys.Halted = 3 ∷ []

abbrev pub message_kind : Message → ℕ
message_kind (AskVote term last_index last_term) = 1
message_kind (Vote term granted) = 2
message_kind (Append term prev_index prev_term entries commit round) = 3
message_kind (Yes term matched round) = 4
message_kind (No term last) = 5

abbrev pub message_fields : Message → List (List ℕ)
message_fields (AskVote term last_index last_term) = number_bytes term ∷ number_bytes last_index ∷ number_bytes last_term ∷ []
message_fields (Vote term granted) = number_bytes term ∷ flag_bytes granted ∷ []
message_fields (Append term prev_index prev_term entries commit round) =
    number_bytes term ∷ number_bytes prev_index ∷ number_bytes prev_term ∷ list_bytes entry_bytes entries ∷ number_bytes commit ∷ number_bytes round ∷ []
message_fields (Yes term matched round) = number_bytes term ∷ number_bytes matched ∷ number_bytes round ∷ []
message_fields (No term last) = number_bytes term ∷ number_bytes last ∷ []

-- what follows the length
abbrev pub kind_of : Frame → ℕ
kind_of (frames.Peer sender message) = message_kind message
kind_of (frames.Propose command) = 6
kind_of frames.Status = 7
kind_of (frames.Placed index term) = 8
kind_of (frames.Refused why) = 9
kind_of (frames.State term role commit last) = 10

abbrev pub fields_of : Frame → List (List ℕ)
fields_of (frames.Peer sender message) = number_bytes sender ∷ message_fields message
fields_of (frames.Propose command) = spelling command ∷ []
fields_of frames.Status = []
fields_of (frames.Placed index term) = number_bytes index ∷ number_bytes term ∷ []
fields_of (frames.Refused why) = why_bytes why ∷ []
fields_of (frames.State term role commit last) = number_bytes term ∷ role_bytes role ∷ number_bytes commit ∷ number_bytes last ∷ []

abbrev pub body_bytes : Frame → List ℕ
body_bytes frame = kind_of frame ∷ concat (fields_of frame)

-- how many bytes a body has at most
abbrev pub most_body : ℕ
most_body = 68157440

abbrev pub length_bytes : ℕ → List ℕ
length_bytes n = to_be_bytes w32 n

abbrev pub frame_bytes : Frame → List ℕ
frame_bytes frame = length_bytes (length (body_bytes frame)) ++ body_bytes frame

-- ---- what a server reads
-- a server's number and how many servers there are
pub record ArePeers (peers : Peers) : Type 0 where
  pub own : 1 ≤ peers.id
  pub one_of : peers.id ≤ peers.servers
  pub few : peers.servers ≤ 7

pub record IsSender (peers : Peers) (n : ℕ) : Type 0 where
  pub from : 1 ≤ n
  pub to : n ≤ peers.servers
  pub other : n ≢ peers.id

-- a log has at most so many entries
abbrev pub IsIndex : ℕ → Type 0
IsIndex n = n ≤ 262144

abbrev pub IsMessage : Message → Type 0
IsMessage (AskVote term last_index last_term) = IsNumber term × IsIndex last_index × IsNumber last_term
IsMessage (Vote term granted) = IsNumber term
IsMessage (Append term prev_index prev_term entries commit round) =
    IsNumber term × IsNumber prev_index × IsNumber prev_term × IsListOf 64 IsEntry entries × IsNumber commit × IsNumber round
IsMessage (Yes term matched round) = IsNumber term × IsNumber matched × IsNumber round
IsMessage (No term last) = IsNumber term × IsNumber last

-- a frame that a server may be sent. Answers are read by clients alone.
abbrev pub Fits : Peers → Frame → Type 0
Fits peers (frames.Peer sender message) = IsSender peers sender × IsMessage message
Fits peers (frames.Propose command) = InBounds command
Fits peers frames.Status = Unit {0}
Fits peers (frames.Placed index term) = ⊥
Fits peers (frames.Refused why) = ⊥
Fits peers (frames.State term role commit last) = ⊥

-- an Append of one entry keeps the limits of a log, and one of more those of an Append
abbrev pub may_carry : List Entry → Bool
may_carry entries = keeps_limits entries && (nat_le (length entries) 1 || nat_le (entries_bytes entries) most_sent_bytes)

abbrev pub message_allowed : Message → Bool
message_allowed (Append term prev_index prev_term entries commit round) = may_carry entries
message_allowed (AskVote term last_index last_term) = true
message_allowed (Vote term granted) = true
message_allowed (Yes term matched round) = true
message_allowed (No term last) = true

abbrev pub is_allowed : Frame → Bool
is_allowed (frames.Peer sender message) = message_allowed message
is_allowed (frames.Propose command) = true
is_allowed frames.Status = true
is_allowed (frames.Placed index term) = true
is_allowed (frames.Refused why) = true
is_allowed (frames.State term role commit last) = true

-- a frame that a server takes
pub record Accepts (peers : Peers) (frame : Frame) : Type 0 where
  pub fits : Fits peers frame
  pub allowed : is_allowed frame ≡ true
  pub short : length (body_bytes frame) ≤ most_body
