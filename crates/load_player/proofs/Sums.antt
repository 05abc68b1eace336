-- What is written of a load's run.
use Rattle.std.proofs.Common.{◌≡◌, inr, ℕ, List, length, flat_map, Option, ap, ◌∙◌, subst}
use Rattle.std.specs.Io.KnownBytes.{Appends}
use Rattle.cluster_rules.specs.Replies.{Out}
use Rattle.cluster_rules.specs.Cluster.{Cluster}
use Rattle.load_player.specs.Summary.{summary_text}
use Rattle.script_player.specs.declared.report.Report.{Report}
use Rattle.script_player.specs.Found.{found_in}
use Rattle.script_player.specs.Run.{RunOf, WritesPart}
use Rattle.script_player.specs.Script.{Script}
use Rattle.load_player.specs.declared.load.Load.{Load}
use Rattle.load_player.specs.Played.{script_of_load, summary_of, PlayedLoad, WritesLoadPart}

-- a run of the load whose reads found these requests' keys
abbrev Finds : Load → List ℕ → Report → Type 0
Finds load numbers report = RunOf (script_of_load load) (λ outs c. numbers ≡ flat_map found_in outs) report

abbrev told : Load → List ℕ → Report → List ℕ
told load numbers report = summary_text load.seed load.size (length numbers) (length report.agreed)

-- what else is so of the run's outs and its end
shown : (script : Script) (A B : List Out → Cluster → Type 0) (report : Report) (r : RunOf script A report) → B r.outs r.run.reached → RunOf script B report
shown script A B report r b =
    record { outs = r.outs; run = r.run; shows = b; tells = r.tells; ascending = r.ascending; leads = r.leads }

summed : (load : Load) (numbers : List ℕ) (report : Report) (P : List ℕ → Type 0) → Finds load numbers report → P (told load numbers report) →
    RunOf (script_of_load load) (λ outs c. P (summary_of load outs c)) report
summed load numbers report P r is =
    let text : told load numbers report ≡ summary_of load r.outs r.run.reached =
    ap (λ (l : List ℕ). summary_text load.seed load.size (length l) (length report.agreed)) r.shows
    ∙ ap (λ (l : _). summary_text load.seed load.size (length (flat_map found_in r.outs)) (length l)) r.tells.agreed in
    shown (script_of_load load) (λ outs c. numbers ≡ flat_map found_in outs) (λ outs c. P (summary_of load outs c)) report r (subst P text is)

pub load_played : (load : Load) (numbers : List ℕ) (report : Report) (held held' : Option (List ℕ)) → Finds load numbers report →
    Appends held held' (told load numbers report) → PlayedLoad load held held' report
load_played load numbers report held held' r is = summed load numbers report (λ (t : List ℕ). Appends held held' t) r is

pub load_part : (load : Load) (numbers : List ℕ) (report : Report) (held held' : Option (List ℕ)) → Finds load numbers report →
    WritesPart held held' (told load numbers report) → WritesLoadPart load held held'
load_part load numbers report held held' r is = inr (report, summed load numbers report (λ (t : List ℕ). WritesPart held held' t) r is)
