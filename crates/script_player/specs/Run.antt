-- What a run did: what it wrote, and what it reports. `held` is what the sink holds before the run and, primed, after
-- it.
use Rattle.std.specs.Prelude.{◌≡◌, ℕ, suc, ◌+◌, ◌*◌, ◌<◌, true, List, [], ◌∷◌, ◌++◌, length, Option}
use Rattle.std.specs.Io.KnownBytes.{Appends}
use Rattle.std.specs.List.{AllByRecursion as Each}
use Rattle.cluster_rules.specs.Replies.{Out}
use Rattle.cluster_rules.specs.Cluster.{Cluster}
use Rattle.cluster_rules.specs.Reached.{Reached, moves_of}
use Rattle.run_rules.specs.Lines.{Said}
use Rattle.run_rules.specs.Plays.{Ending, Whole, Refused, Plays, over, breaks, skips, makes, settles, refuses, misfits, emptied, settled}
use Rattle.run_rules.specs.Holds.{IsFirstStart, Holds}
use Rattle.run_rules.specs.Legal.{RunIsLegal}
use Rattle.script_player.specs.declared.openings.Opening.{Opening}
use Rattle.script_player.specs.declared.report.Report.{Report}
use Rattle.script_player.specs.Script.{Script, Opened, Closed, said, filters_of}
use Rattle.cluster_interface.specs.Interface.{held_numbers, applied_lengths}
use Rattle.script_player.specs.Text.{outs_text, refused_text, last_text}

-- how many events the lines made, a delivery and a loss for each pair of a settling
abbrev pub made_in : (says : ℕ → List ℕ → Said) (number : ℕ) (lines : List (List ℕ)) (c : Cluster) (outs : List Out) (end : Ending) (c' : Cluster) → Plays says number lines c outs end c' → ℕ
made_in says number lines c outs end c' over = 0
made_in says number lines c outs end c' breaks = 0
made_in says number lines c outs end c' (skips {lines = more} is p) = made_in says (suc number) more c outs end c' p
made_in says number lines c outs end c' (makes {lines = more} {outs = later} made c₁ is fits s p) =
    1 + made_in says (suc number) more (emptied c₁) later end c' p
made_in says number lines c outs end c' (settles {lines = more} {outs = later} most pairs c₁ is s few stops p) =
    2 * pairs + made_in says (suc number) more (emptied (settled pairs c₁)) later end c' p
made_in says number lines c outs end c' (refuses why is) = 0
made_in says number lines c outs end c' (misfits made why is fits) = 0

-- A run of an opened script on a first start of as many servers and agents as the opening says: its lines lead to this
-- cluster, and these are all the outs on the way. What holds of it, and that each reply is legal, is so of each run.
pub record Played (script : Script) (outs : List Out) (end : Ending) : Type 0 where
  pub opening : Opening
  pub next : ℕ
  pub lines : List (List ℕ)
  pub opened : script ≡ Opened opening next lines
  pub start : Cluster
  pub first : IsFirstStart start
  pub servers : length start.servers ≡ opening.servers
  pub agents : length start.agents ≡ opening.agents
  pub reached : Cluster
  pub plays : Plays (said opening.seed) next lines start outs end reached
  pub holds : Holds start outs reached
  pub legal : RunIsLegal (said opening.seed) next lines start outs end reached plays

-- in ascending order
abbrev pub Ascend : List ℕ → Type 0
Ascend [] = Unit {0}
Ascend (n ∷ ns) = Each (λ m. n < m) ns × Ascend ns

-- the numbers and lists of a report, at a cluster that so many events have led to
pub record IsReportOf (c : Cluster) (made : ℕ) (report : Report) : Type 0 where
  pub events : report.events ≡ made
  pub requests : report.requests ≡ c.asked
  pub agreed : report.agreed ≡ c.world.agreed
  pub applied : report.applied ≡ applied_lengths c
  pub unanswered : report.unanswered ≡ held_numbers c

-- A whole run of which this is reported, where `Shows` holds of its outs and the cluster at its end. What has happened,
-- taken as moves, leads from the start to the end.
pub record RunOf (script : Script) (Shows : List Out → Cluster → Type 0) (report : Report) : Type 0 where
  pub outs : List Out
  pub run : Played script outs Whole
  pub shows : Shows outs run.reached
  pub tells : IsReportOf run.reached (made_in (said run.opening.seed) run.next run.lines run.start outs Whole run.reached run.plays) report
  pub ascending : Ascend report.unanswered
  pub leads : Reached run.start true (moves_of run.reached.past) run.reached

-- a whole run whose text was written
abbrev pub WholeRun : Script → Option (List ℕ) → Option (List ℕ) → Report → Type 0
WholeRun script held held' report =
    RunOf script (λ outs c. Appends held held' (outs_text (filters_of script) outs ++ last_text Whole c)) report

-- What a script's run writes in all, by how its lines end.
pub data Writes (script : Script) : Ending → List ℕ → Type 0 where
  closed : (line : ℕ) (why : List ℕ) → script ≡ Closed line why → Writes script (Refused line why) (refused_text line why)
  played : (outs : List Out) (end : Ending) (run : Played script outs end) → Writes script end (outs_text (filters_of script) outs ++ last_text end run.reached)

-- a line of the script is refused
abbrev pub IsRefused : Script → Type 0
IsRefused script = (line : ℕ) × (why : List ℕ) × (text : List ℕ) × Writes script (Refused line why) text

-- A line is refused: what was written is all that the lines before it gave, and its number with the reason.
pub record RefusedRun (script : Script) (held held' : Option (List ℕ)) : Type 0 where
  pub line : ℕ
  pub why : List ℕ
  pub text : List ℕ
  pub writes : Writes script (Refused line why) text
  pub written : Appends held held' text

-- a first part of a text was written
pub record WritesPart (held held' : Option (List ℕ)) (text : List ℕ) : Type 0 where
  pub front : List ℕ
  pub rest : List ℕ
  pub written : Appends held held' front
  pub splits : text ≡ front ++ rest

-- A first part was written of what a run writes whose lines may break off anywhere.
pub record PartOfRun (script : Script) (held held' : Option (List ℕ)) : Type 0 where
  pub end : Ending
  pub text : List ℕ
  pub writes : Writes script end text
  pub part : WritesPart held held' text
