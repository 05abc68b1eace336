-- What a script's run did: what it took of its input, what it wrote, and what it reports. Each is seen before the run and,
-- primed, after it.
use Rattle.std.specs.Prelude.{◌≡◌, ◌⊎◌, ℕ, ◌<◌, ◌≤◌, true, false, List, [], length, Option}
use Rattle.std.specs.Io.KnownBytes.{Consumes, Appends, IsAtEnd}
use Rattle.outside.specs.Causes.{Rose}
use Rattle.run_rules.specs.Plays.{Refused}
use Rattle.script_player.specs.declared.report.Report.{Report}
use Rattle.script_player.specs.Script.{Script, script_of}
use Rattle.script_player.specs.Run.{PartOfRun, RefusedRun, WholeRun, Writes, WritesPart}
use Rattle.catalog_top.specs.Limits.{is_too_long}
use Rattle.catalog_top.specs.Outside.{Input, Output}
use Rattle.catalog_top.specs.Text.{limit_text}

-- The bytes that were taken are all that there was, up to an end that was found, and they pass no limit.
pub record TookScript (i i' : Input) : Type 0 where
  pub bytes : List ℕ
  pub consumed : Consumes i.left i'.left bytes
  pub at_end : IsAtEnd i'.left
  pub found : Rose i.ends i'.ends
  pub within : is_too_long bytes ≡ false

-- A script was taken whole, and this is reported of its whole run: its lines lead the cluster from its start to its end,
-- the text of all their outs was written, each server has applied a front of one agreed log, and what holds of every run
-- holds of this one.
pub record Ran (i i' : Input) (o o' : Output) (report : Report) : Type 0 where
  pub took : TookScript i i'
  pub run : WholeRun (script_of took.bytes) o.held o'.held report

-- A script was taken whole, and a line of it is refused. The outs of the lines before it were written, and then its
-- number with the reason.
pub record RefusesLine (i i' : Input) (o o' : Output) : Type 0 where
  pub took : TookScript i i'
  pub run : RefusedRun (script_of took.bytes) o.held o'.held

-- however a script is played, no line of it is refused
abbrev pub NeverRefuses : Script → Type 0
NeverRefuses script = (line : ℕ) (why text : List ℕ) → Writes script (Refused line why) text → ⊥

-- The bytes that were taken pass a limit, the first one by at most one byte.
pub record PassesLimit (i i' : Input) (o o' : Output) : Type 0 where
  pub bytes : List ℕ
  pub consumed : Consumes i.left i'.left bytes
  pub too_long : is_too_long bytes ≡ true
  pub most : length bytes ≤ 16777217
  pub written : Appends o.held o'.held limit_text

-- all of the input was taken, up to an end that was found, or it is too long
abbrev pub IsReadOut : Input → Input → List ℕ → Type 0
IsReadOut i i' bytes = (IsAtEnd i'.left × Rose i.ends i'.ends) ⊎ (16777216 < length bytes)

-- Nothing was written, or a first part: of the line on a limit that is passed, or of the script's run.
pub data WritesFirst (bytes : List ℕ) (held held' : Option (List ℕ)) : Type 0 where
  nothing : Appends held held' [] → WritesFirst bytes held held'
  of_limit : is_too_long bytes ≡ true → WritesPart held held' limit_text → WritesFirst bytes held held'
  of_run : is_too_long bytes ≡ false → PartOfRun (script_of bytes) held held' → WritesFirst bytes held held'

-- A first part of the run's text was written, and nothing before the input was read out.
pub record StopsShort (i i' : Input) (o o' : Output) : Type 0 where
  pub bytes : List ℕ
  pub consumed : Consumes i.left i'.left bytes
  pub part : WritesFirst bytes o.held o'.held
  pub read : Appends o.held o'.held [] ⊎ IsReadOut i i' bytes
