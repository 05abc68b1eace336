-- Reading the body of a frame from the left, field after field, with the first fault that is met.
use Rattle.std.specs.Prelude.{◌≡◌, ℕ, zero, suc, nat_lt, ◌==◌, List, [], ◌∷◌, length, Result, Ok, Err, if◌then◌else◌}
use Rattle.command_codec.specs.declared.fault.Fault.{Fault}
use Rattle.command_codec.specs.declared.fault.Fault.TheVariants.{Cut, Bad}
use Rattle.command_codec.specs.Reading.{Read, ◌>>=◌, number_at, any_number_at, flag_at, list_at, command_at}
use Rattle.store_records.specs.RecordReading.{entry_at}
use Rattle.raft_model.specs.declared.message.Message.TheVariants.{AskVote, Vote, Append, Yes, No}
use Rattle.peer_frames.specs.declared.frame.Frame.{Frame}
use Rattle.peer_frames.specs.declared.frame.Frame.TheVariants as frames
use Rattle.peer_frames.specs.declared.frame.Peers.{Peers}

abbrev pub sender_at : Peers → List ℕ → Read ℕ
sender_at peers [] = Err Cut
sender_at peers (b ∷ rest) =
    if nat_lt b 1 then Err (Bad (suc (length rest)))
    else (if nat_lt peers.servers b then Err (Bad (suc (length rest))) else (if b == peers.id then Err (Bad (suc (length rest))) else Ok (b, rest)))

unfoldable pub ask_vote_at : Peers → List ℕ → Read Frame
ask_vote_at peers bytes = do
  sender ← sender_at peers bytes
  term ← any_number_at sender.1
  last_index ← number_at 0 262144 term.1
  last_term ← any_number_at last_index.1
  Ok (frames.Peer sender.0 (AskVote term.0 last_index.0 last_term.0), last_term.1)

unfoldable pub vote_at : Peers → List ℕ → Read Frame
vote_at peers bytes = do
  sender ← sender_at peers bytes
  term ← any_number_at sender.1
  granted ← flag_at term.1
  Ok (frames.Peer sender.0 (Vote term.0 granted.0), granted.1)

unfoldable pub append_at : Peers → List ℕ → Read Frame
append_at peers bytes = do
  sender ← sender_at peers bytes
  term ← any_number_at sender.1
  prev_index ← any_number_at term.1
  prev_term ← any_number_at prev_index.1
  entries ← list_at 64 entry_at prev_term.1
  commit ← any_number_at entries.1
  round ← any_number_at commit.1
  Ok (frames.Peer sender.0 (Append term.0 prev_index.0 prev_term.0 entries.0 commit.0 round.0), round.1)

unfoldable pub yes_at : Peers → List ℕ → Read Frame
yes_at peers bytes = do
  sender ← sender_at peers bytes
  term ← any_number_at sender.1
  matched ← any_number_at term.1
  round ← any_number_at matched.1
  Ok (frames.Peer sender.0 (Yes term.0 matched.0 round.0), round.1)

unfoldable pub no_at : Peers → List ℕ → Read Frame
no_at peers bytes = do
  sender ← sender_at peers bytes
  term ← any_number_at sender.1
  last ← any_number_at term.1
  Ok (frames.Peer sender.0 (No term.0 last.0), last.1)

unfoldable pub propose_at : List ℕ → Read Frame
propose_at bytes = do
  command ← command_at bytes
  Ok (frames.Propose command.0, command.1)

-- a message, where there are other servers
abbrev pub of_peer : Peers → List ℕ → Read Frame → Read Frame
of_peer peers rest read = if nat_lt peers.servers 2 then Err (Bad (suc (length rest))) else read

-- the fields of the frame with this kind
abbrev pub by_kind : ℕ → Peers → List ℕ → Read Frame
by_kind zero peers rest = Err (Bad (suc (length rest)))
by_kind (suc zero) peers rest = of_peer peers rest (ask_vote_at peers rest)
by_kind (suc (suc zero)) peers rest = of_peer peers rest (vote_at peers rest)
by_kind (suc (suc (suc zero))) peers rest = of_peer peers rest (append_at peers rest)
by_kind (suc (suc (suc (suc zero)))) peers rest = of_peer peers rest (yes_at peers rest)
by_kind (suc (suc (suc (suc (suc zero))))) peers rest = of_peer peers rest (no_at peers rest)
by_kind (suc (suc (suc (suc (suc (suc zero)))))) peers rest = propose_at rest
by_kind (suc (suc (suc (suc (suc (suc (suc zero))))))) peers rest = Ok (frames.Status, rest)
by_kind (suc (suc (suc (suc (suc (suc (suc (suc n)))))))) peers rest = Err (Bad (suc (length rest)))

-- the kind and the fields
abbrev pub body_at : Peers → List ℕ → Read Frame
body_at peers [] = Err Cut
body_at peers (kind ∷ rest) = by_kind kind peers rest
