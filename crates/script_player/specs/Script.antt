-- A script: the line that opens its cluster, and what each later line says.
use Rattle.std.specs.Prelude.{ℕ, ◌+◌, if◌then◌else◌, List, [], ◌∷◌, None, Result, Ok, Err, codes}
use Rattle.run_rules.specs.declared.misfit.Misfit.{Misfit}
use Rattle.run_rules.specs.declared.misfit.Misfit.TheVariants.{NoServer, NoAgent, NoMessage, Clock}
use Rattle.script_lang.specs.declared.bad_line.BadLine.{BadLine}
use Rattle.script_lang.specs.declared.bad_line.BadLine.TheVariants as bad
use Rattle.script_lang.specs.declared.line.Line.{Line}
use Rattle.script_lang.specs.declared.line.Line.TheVariants as line
use Rattle.script_lang.specs.Lines.{line_of, opens_cluster}
use Rattle.script_lang.specs.Text.{reason_text}
use Rattle.run_rules.specs.Lines.{Said, Nothing, Makes, Settles, Refuses}
use Rattle.script_player.specs.declared.openings.Opening.{Opening}
use Rattle.script_player.specs.Line.{lines_of, is_nothing}
use Rattle.script_player.specs.Filters.{Filters, filter_in}

-- what a line after the opening says
abbrev pub said_of : Result Line BadLine → Said
said_of (Ok line.Nothing) = Nothing
said_of (Ok (line.Cluster servers agents seed)) = Refuses (codes "unknown line")
said_of (Ok (line.Event made)) = Makes made
said_of (Ok (line.Settle most)) = Settles most
said_of (Err why) = Refuses (reason_text why)

-- A later line that begins with `cluster` is unknown, whatever follows.
abbrev pub said : ℕ → ℕ → List ℕ → Said
said seed number line =
    if opens_cluster line then Refuses (codes "unknown line") else said_of (line_of number seed line)

-- the reason of an event that does not fit
abbrev pub bad_of : Misfit → BadLine
bad_of NoServer = bad.NoSuchServer
bad_of NoAgent = bad.NoSuchAgent
bad_of NoMessage = bad.NoSuchMessage
bad_of Clock = bad.ClockTooFar

-- A script whose cluster is opened, with the number of the next line and the lines from there on; or one that is
-- refused before.
pub data Script : Type 0 where
  Opened : (opening : Opening) (next : ℕ) (lines : List (List ℕ)) → Script
  Closed : (line : ℕ) (why : List ℕ) → Script

-- what a line says that begins with `cluster`
abbrev pub opened_by : Result Line BadLine → Result Opening BadLine
opened_by (Ok (line.Cluster servers agents seed)) = Ok (record { servers = servers; agents = agents; seed = seed })
opened_by (Ok line.Nothing) = Err bad.UnknownLine
opened_by (Ok (line.Event made)) = Err bad.UnknownLine
opened_by (Ok (line.Settle most)) = Err bad.UnknownLine
opened_by (Err why) = Err why

-- the opening by the first line that says something, or why it is refused
abbrev pub opening_of : List ℕ → Result Opening BadLine
opening_of line = if opens_cluster line then opened_by (line_of 0 0 line) else Err bad.ExpectedCluster

abbrev pub opened_at : ℕ → List (List ℕ) → Result Opening BadLine → Script
opened_at number lines (Ok opening) = Opened opening (number + 1) lines
opened_at number lines (Err why) = Closed number (reason_text why)

-- the lines, the first of them with this number
abbrev pub script_from : ℕ → List (List ℕ) → Script
script_from number [] = Closed number (codes "expected cluster")
script_from number (line ∷ lines) =
    if is_nothing line then script_from (number + 1) lines else opened_at number lines (opening_of line)

abbrev pub script_of : List ℕ → Script
script_of bytes = script_from 1 (lines_of bytes)

-- the filters of its requests, which are numbered from 1
abbrev pub filters_of : Script → Filters
filters_of (Opened opening next lines) = filter_in (said opening.seed) 1 lines
filters_of (Closed line why) = λ k. None
