-- What a line of a script says, or the first reason for which it is refused. Two things hang on other lines and are
-- left to them: that the first line that says something opens a cluster, and that no later one does.
use Rattle.std.specs.Prelude.{ℕ, ◌-◌, ◌^◌, Bool, ◌&&◌, if◌then◌else◌, List, [], ◌∷◌, Option, None, Some, Result, Ok, Err, codes}
use Rattle.std.specs.Str.{bytes_eq}
use Rattle.cat_model.specs.declared.request.Event.TheVariants.{Timeout, Beat, Tick, Deliver, Drop, Restart, FailKeep, Ask, Sync, AgentTick}
use Rattle.script_lang.specs.declared.bad_line.BadLine.{BadLine}
use Rattle.script_lang.specs.declared.bad_line.BadLine.TheVariants.{UnknownLine}
use Rattle.script_lang.specs.declared.form.Form.{Form}
use Rattle.script_lang.specs.declared.form.Form.TheVariants as form
use Rattle.script_lang.specs.declared.line.Line.{Line}
use Rattle.script_lang.specs.declared.line.Line.TheVariants.{Nothing, Cluster, Event, Settle}
use Rattle.script_lang.specs.declared.numbers.Bounds.{Bounds}
use Rattle.script_lang.specs.Words.{words_of, rest_of, is_nothing}
use Rattle.script_lang.specs.Answers.{◌>>=◌}
use Rattle.script_lang.specs.Numbers.{number_in, is_filled, one_number, two_numbers}
use Rattle.script_lang.specs.Requests.{asked_of}
use Rattle.filter_expr.specs.Expressions.{Expression}
use Rattle.http_routes.specs.Filters.{filter_at}

-- a line whose first word is `cluster`
abbrev pub first_of : List (List ℕ) → List ℕ
first_of [] = []
first_of (word ∷ words) = word

abbrev pub opens_cluster : List ℕ → Bool
opens_cluster line = bytes_eq (first_of (words_of line)) (codes "cluster")

-- The forms of lines, by their first words.
abbrev pub form_of : List ℕ → Option Form
form_of name =
    if bytes_eq name (codes "cluster") then Some form.Cluster
    else if bytes_eq name (codes "timeout") then Some form.Timeout
    else if bytes_eq name (codes "beat") then Some form.Beat
    else if bytes_eq name (codes "restart") then Some form.Restart
    else if bytes_eq name (codes "tick") then Some form.Tick
    else if bytes_eq name (codes "agenttick") then Some form.AgentTick
    else if bytes_eq name (codes "deliver") then Some form.Deliver
    else if bytes_eq name (codes "drop") then Some form.Drop
    else if bytes_eq name (codes "settle") then Some form.Settle
    else if bytes_eq name (codes "failkeep") then Some form.FailKeep
    else if bytes_eq name (codes "sync") then Some form.Sync
    else if bytes_eq name (codes "http") then Some form.Http
    else None

-- The bounds of numbers: any of 32 and of 64 bits, the servers and the agents of a cluster, milliseconds of one tick,
-- messages to settle, and calls of a durable store.
abbrev pub between : ℕ → ℕ → Bounds
between least most = record { least = least; most = most }

abbrev pub any32 : Bounds
any32 = between 0 (2 ^ 32 - 1)

abbrev pub any64 : Bounds
any64 = between 0 (2 ^ 64 - 1)

abbrev pub servers : Bounds
servers = between 1 7

abbrev pub agents : Bounds
agents = between 0 64

abbrev pub tick_ms : Bounds
tick_ms = between 1 86400000

abbrev pub messages : Bounds
messages = between 1 1000000

abbrev pub calls : Bounds
calls = between 1 (2 ^ 32 - 1)

-- `cluster S A SEED`
abbrev pub opening : List (List ℕ) → Result Line BadLine
opening (s ∷ a ∷ seed ∷ []) =
    if is_filled s && is_filled a && is_filled seed then (do
      m ← number_in servers s
      n ← number_in agents a
      k ← number_in any64 seed
      Ok (Cluster m n k))
    else Err UnknownLine
opening words = Err UnknownLine

-- `http A METHOD TARGET`, with more for a body; the draw is the script's seed and the request's number
abbrev pub asks : ℕ → ℕ → ℕ → List ℕ → List ℕ → Option (List ℕ) → Result Line BadLine
asks number seed agent method target rest = do
  asked ← asked_of method target rest
  Ok (Event (Ask agent asked (record { hi = seed; lo = number })))

abbrev pub asking : ℕ → ℕ → List (List ℕ) → Result Line BadLine
asking number seed (a ∷ method ∷ target ∷ rest) = do
  agent ← number_in any32 a
  asks number seed agent method target (rest_of rest)
asking number seed words = Err UnknownLine

-- a line of the form with these words after the first one
abbrev pub said : ℕ → ℕ → Form → List (List ℕ) → Result Line BadLine
said number seed form.Cluster words = opening words
said number seed form.Timeout words = do
  server ← one_number any32 words
  Ok (Event (Timeout server))
said number seed form.Beat words = do
  server ← one_number any32 words
  Ok (Event (Beat server))
said number seed form.Restart words = do
  server ← one_number any32 words
  Ok (Event (Restart server))
said number seed form.Tick words = do
  n ← two_numbers any32 tick_ms words
  Ok (Event (Tick n.0 n.1))
said number seed form.AgentTick words = do
  n ← two_numbers any32 tick_ms words
  Ok (Event (AgentTick n.0 n.1))
said number seed form.Deliver words = do
  message ← one_number any64 words
  Ok (Event (Deliver message))
said number seed form.Drop words = do
  message ← one_number any64 words
  Ok (Event (Drop message))
said number seed form.Settle words = do
  most ← one_number messages words
  Ok (Settle most)
said number seed form.FailKeep words = do
  n ← two_numbers any32 calls words
  Ok (Event (FailKeep n.0 n.1))
said number seed form.Sync words = do
  agent ← one_number any32 words
  Ok (Event (Sync agent))
said number seed form.Http words = asking number seed words

abbrev pub formed : ℕ → ℕ → Option Form → List (List ℕ) → Result Line BadLine
formed number seed None words = Err UnknownLine
formed number seed (Some form) words = said number seed form words

abbrev pub worded : ℕ → ℕ → List (List ℕ) → Result Line BadLine
worded number seed [] = Err UnknownLine
worded number seed (name ∷ words) = formed number seed (form_of name) words

-- the line, where the script has this seed, and the next request this number
abbrev pub line_of : ℕ → ℕ → List ℕ → Result Line BadLine
line_of number seed line = if is_nothing line then Ok Nothing else worded number seed (words_of line)

-- ---- the filter of the request that a line asks for, through which its reply is shown: that of its target

abbrev pub filter_asked : List (List ℕ) → Option Expression
filter_asked (a ∷ method ∷ target ∷ rest) = filter_at target
filter_asked words = None

abbrev pub filter_said : Form → List (List ℕ) → Option Expression
filter_said form.Http words = filter_asked words
filter_said other words = None

abbrev pub filter_formed : Option Form → List (List ℕ) → Option Expression
filter_formed None words = None
filter_formed (Some form) words = filter_said form words

abbrev pub filter_worded : List (List ℕ) → Option Expression
filter_worded [] = None
filter_worded (name ∷ words) = filter_formed (form_of name) words

abbrev pub filter_of_line : List ℕ → Option Expression
filter_of_line line = if is_nothing line then None else filter_worded (words_of line)
