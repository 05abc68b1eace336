-- How the run of an opened script ends.
use Rattle.std.proofs.Common.{◌≡◌, ◌⊎◌, inr, ℕ, List, [], ◌++◌, flat_map, length, ap, ◌∙◌, Option, None, Some, Result, Ok, Err, IfOk, OnOk, OnErr, IfSome, MatchOption}
use Rattle.std.specs.Io.KnownBytes.{Appends}
use Rattle.cluster_rules.specs.Cluster.{Cluster}
use Rattle.script_lang.specs.Text.{reason_text}
use Rattle.run_rules.specs.Plays.{Refused as RefusedEnd}
use Rattle.run_rules.specs.Holds.{IsFirstStart}
use Rattle.script_player.specs.declared.openings.Opening.{Opening}
use Rattle.script_player.specs.declared.refused.Refused.{Refused}
use Rattle.script_player.specs.declared.report.Report.{Report}
use Rattle.script_player.specs.Script.{Script, Opened, said}
use Rattle.script_player.specs.Text.{last_text}
use Rattle.script_player.specs.Stage.{PlaysTo, PlaysPart, ending_of}
use Rattle.script_player.specs.declared.found.Found.{Found}
use Rattle.script_player.specs.Found.{found_in}
use Rattle.script_player.specs.Run.{IsRefused, RunOf, played, WholeRun, RefusedRun, PartOfRun, WritesPart, IsReportOf}
use Rattle.script_player.proofs.Runs.{line_through, played_from, run_from, whole_from, refused_from, part_playing, part_ending}

-- the run of a script, by whether there is a report
abbrev pub IsRun : Script → Option (List ℕ) → Option (List ℕ) → Option Report → Type 0
IsRun script held held' r = MatchOption r (RefusedRun script held held') (WholeRun script held held')

ended : (opening : Opening) (next : ℕ) (lines : List (List ℕ)) (start c : Cluster) (made : ℕ) (held held' held'' : Option (List ℕ)) (refused : Option Refused) (r : Option Report) →
    IsFirstStart start → length start.servers ≡ opening.servers → length start.agents ≡ opening.agents →
    PlaysTo (line_through opening lines) (said opening.seed) next lines start (ending_of refused) c made held held' → Appends held' held'' (last_text (ending_of refused) c) →
    IfSome r (IsReportOf c made) → MatchOption r ((why : Refused) × (refused ≡ Some why)) (λ _. refused ≡ None) →
    IsRun (Opened opening next lines) held held'' r
ended opening next lines start c made held held' held'' None None first servers agents p w reports (why, e) = absurd cc
ended opening next lines start c made held held' held'' (Some why) (Some report) first servers agents p w reports e = absurd cc
ended opening next lines start c made held held' held'' None (Some report) first servers agents p w reports e =
    whole_from opening next lines start c made held held' held'' report first servers agents p w reports
ended opening next lines start c made held held' held'' (Some why) None first servers agents p w reports e =
    refused_from opening next lines start c made _ _ held held' held'' first servers agents p w

pub run_ended : {E : Type 0} (result : Result (Option Report) E) (opening : Opening) (next : ℕ) (lines : List (List ℕ)) (start c : Cluster) (made : ℕ) (held held' held'' : Option (List ℕ)) (refused : Option Refused) →
    IsFirstStart start → length start.servers ≡ opening.servers → length start.agents ≡ opening.agents →
    PlaysTo (line_through opening lines) (said opening.seed) next lines start (ending_of refused) c made held held' → OnOk result (Appends held' held'' (last_text (ending_of refused) c)) →
    IfOk result (λ r. IfSome r (IsReportOf c made)) → IfOk result (λ r. MatchOption r ((why : Refused) × (refused ≡ Some why)) (λ _. refused ≡ None)) →
    IfOk result (IsRun (Opened opening next lines) held held'')
run_ended (Ok r) opening next lines start c made held held' held'' refused first servers agents p w reports whether =
    ended opening next lines start c made held held' held'' refused r first servers agents p w reports whether
run_ended (Err fail) opening next lines start c made held held' held'' refused first servers agents p w reports whether = tt

pub run_broke : {E : Type 0} (result : Result (Option Report) E) (opening : Opening) (next : ℕ) (lines : List (List ℕ)) (start c : Cluster) (made : ℕ) (held held' held'' : Option (List ℕ)) (refused : Option Refused) →
    IsFirstStart start → length start.servers ≡ opening.servers → length start.agents ≡ opening.agents →
    PlaysTo (line_through opening lines) (said opening.seed) next lines start (ending_of refused) c made held held' → OnErr result (WritesPart held' held'' (last_text (ending_of refused) c)) →
    OnErr result (Appends held held'' [] ⊎ PartOfRun (Opened opening next lines) held held'')
run_broke (Ok r) opening next lines start c made held held' held'' refused first servers agents p part = tt
run_broke (Err fail) opening next lines start c made held held' held'' refused first servers agents p part =
    inr (part_ending opening next lines start c (ending_of refused) made held held' held'' first servers agents p part)

pub play_broke : (opening : Opening) (next : ℕ) (lines : List (List ℕ)) (start : Cluster) (held held' : Option (List ℕ)) →
    IsFirstStart start → length start.servers ≡ opening.servers → length start.agents ≡ opening.agents →
    PlaysPart (line_through opening lines) (said opening.seed) next lines start held held' → Appends held held' [] ⊎ PartOfRun (Opened opening next lines) held held'
play_broke opening next lines start held held' first servers agents p = inr (part_playing opening next lines start held held' first servers agents p)

-- a run whose outs went to what finds reads
finding : (opening : Opening) (next : ℕ) (lines : List (List ℕ)) (start c : Cluster) (made : ℕ) (before : List ℕ) (found : Found) (refused : Option Refused) (r : Option (Report × Found)) →
    IsFirstStart start → length start.servers ≡ opening.servers → length start.agents ≡ opening.agents → before ≡ [] →
    PlaysTo found_in (said opening.seed) next lines start (ending_of refused) c made (Some before) (Some found.numbers) →
    IfSome r (λ ran. IsReportOf c made ran.0 × (ran.1 ≡ found)) → MatchOption r ((why : Refused) × (refused ≡ Some why)) (λ _. refused ≡ None) →
    MatchOption r (IsRefused (Opened opening next lines)) (λ ran. RunOf (Opened opening next lines) (λ outs d. ran.1.numbers ≡ flat_map found_in outs) ran.0)
finding opening next lines start c made before found None None first servers agents none p reports (why, e) = absurd cc
finding opening next lines start c made before found (Some why) (Some ran) first servers agents none p reports e = absurd cc
finding opening next lines start c made before found None (Some ran) first servers agents none p reports e =
    let numbers : found.numbers ≡ flat_map found_in p.outs = p.taken ∙ ap (λ (l : List ℕ). l ++ flat_map found_in p.outs) none in
    run_from found_in opening next lines start c made (Some before) (Some found.numbers) ran.0 (λ outs d. ran.1.numbers ≡ flat_map found_in outs) first servers agents p
    (ap (λ (f : Found). f.numbers) reports.1 ∙ numbers) reports.0
finding opening next lines start c made before found (Some why) None first servers agents none p reports e =
    let end = RefusedEnd why.line (reason_text why.reason) in
    (why.line, reason_text why.reason, _, played p.outs end (played_from opening next lines start c p.outs end first servers agents p.plays))

pub finding_ended : {E : Type 0} (result : Result (Option (Report × Found)) E) (opening : Opening) (next : ℕ) (lines : List (List ℕ)) (start c : Cluster) (made : ℕ) (before : List ℕ) (found : Found) (refused : Option Refused) →
    IsFirstStart start → length start.servers ≡ opening.servers → length start.agents ≡ opening.agents → before ≡ [] →
    PlaysTo found_in (said opening.seed) next lines start (ending_of refused) c made (Some before) (Some found.numbers) →
    IfOk result (λ r. IfSome r (λ ran. IsReportOf c made ran.0 × (ran.1 ≡ found))) → IfOk result (λ r. MatchOption r ((why : Refused) × (refused ≡ Some why)) (λ _. refused ≡ None)) →
    IfOk result (λ r. MatchOption r (IsRefused (Opened opening next lines)) (λ ran. RunOf (Opened opening next lines) (λ outs d. ran.1.numbers ≡ flat_map found_in outs) ran.0))
finding_ended (Ok r) opening next lines start c made before found refused first servers agents none p reports whether =
    finding opening next lines start c made before found refused r first servers agents none p reports whether
finding_ended (Err fail) opening next lines start c made before found refused first servers agents none p reports whether = tt
