-- How a run ends, from its parts.
use Rattle.std.proofs.Common.{◌≡◌, ℕ, ◌<◌, List, [], ◌∷◌, ◌++◌, map, length, Option, refl, sym, ◌∙◌, subst}
use Rattle.std.specs.List.{AllByRecursion as Each}
use Rattle.std.specs.Io.KnownBytes.{Appends}
use Rattle.std.proofs.KnownBytes.{Appends-trans}
use Rattle.cluster_rules.specs.Replies.{Out}
use Rattle.cluster_rules.specs.Cluster.{Cluster, Pending}
use Rattle.cluster_rules.specs.Sound.{Ascends}
use Rattle.run_rules.specs.Plays.{Ending, Whole, Refused, Broken, Plays}
use Rattle.run_rules.specs.Holds.{IsFirstStart}
use Rattle.run_rules.proofs.Holding.{a_start, run_is_sound, start_run, run_holds}
use Rattle.run_rules.proofs.Reaching.{plays_run}
use Rattle.run_rules.proofs.Legality.{first_run_legal}
use Rattle.script_player.specs.declared.openings.Opening.{Opening}
use Rattle.script_player.specs.declared.report.Report.{Report}
use Rattle.script_player.specs.Script.{Script, Opened, Closed, said}
use Rattle.script_player.specs.Text.{outs_text, line_of_out, last_text, refused_text}
use Rattle.script_player.specs.Filters.{filter_in}
use Rattle.script_player.specs.Stage.{PlaysTo, PlaysPart, through}
use Rattle.script_player.specs.Run.{Played, Ascend, IsReportOf, RunOf, WholeRun, closed, played, RefusedRun, PartOfRun, WritesPart}
use Rattle.script_player.proofs.Written.{part_front, part_after}

-- the line of an out, through its request's filter
abbrev pub line_through : Opening → List (List ℕ) → Out → List ℕ
line_through opening lines = through line_of_out (filter_in (said opening.seed) 1 lines)

-- a run of lines that a script opens
pub played_from : (opening : Opening) (next : ℕ) (lines : List (List ℕ)) (start c : Cluster) (outs : List Out) (end : Ending) →
    IsFirstStart start → length start.servers ≡ opening.servers → length start.agents ≡ opening.agents →
    Plays (said opening.seed) next lines start outs end c → Played (Opened opening next lines) outs end
played_from opening next lines start c outs end first servers agents p = record {
  opening = opening;
  next = next;
  lines = lines;
  opened = refl;
  start = start;
  first = first;
  servers = servers;
  agents = agents;
  reached = c;
  plays = p;
  holds = run_holds (said opening.seed) next lines start c outs end first p;
  legal = first_run_legal (said opening.seed) next lines start c outs end first p;
}

each_number : (n : ℕ) (hs : List Pending) → Each (λ (h : Pending). n < h.question.number) hs → Each (λ m. n < m) (map (λ (h : Pending). h.question.number) hs)
each_number n [] all = tt
each_number n (h ∷ hs) all = (all.0, each_number n hs all.1)

held_ascend : (hs : List Pending) → Ascends hs → Ascend (map (λ (h : Pending). h.question.number) hs)
held_ascend [] a = tt
held_ascend (h ∷ hs) a = (each_number h.question.number hs a.0, held_ascend hs a.1)

pub run_from : (adds : Out → List ℕ) (opening : Opening) (next : ℕ) (lines : List (List ℕ)) (start c : Cluster) (made : ℕ) (held held' : Option (List ℕ)) (report : Report) (Shows : List Out → Cluster → Type 0) →
    IsFirstStart start → length start.servers ≡ opening.servers → length start.agents ≡ opening.agents →
    (p : PlaysTo adds (said opening.seed) next lines start Whole c made held held') → Shows p.outs c → IsReportOf c made report →
    RunOf (Opened opening next lines) Shows report
unfolding played_from
run_from adds opening next lines start c made held held' report Shows first servers agents p shows r =
    let run = played_from opening next lines start c p.outs Whole first servers agents p.plays in
    let sound = run_is_sound start (a_start start first) c (plays_run (said opening.seed) next lines start start p.outs Whole c p.plays (start_run start)) in
    record {
      outs = p.outs;
      run = run;
      shows = shows;
      tells = record { events = r.events ∙ sym p.counts; requests = r.requests; agreed = r.agreed; applied = r.applied; unanswered = r.unanswered };
      ascending = subst Ascend (sym r.unanswered) (held_ascend c.held sound.parts.ascends);
      leads = run.holds.leads;
    }

pub whole_from : (opening : Opening) (next : ℕ) (lines : List (List ℕ)) (start c : Cluster) (made : ℕ) (held held' held'' : Option (List ℕ)) (report : Report) →
    IsFirstStart start → length start.servers ≡ opening.servers → length start.agents ≡ opening.agents →
    PlaysTo (line_through opening lines) (said opening.seed) next lines start Whole c made held held' → Appends held' held'' (last_text Whole c) → IsReportOf c made report →
    WholeRun (Opened opening next lines) held held'' report
whole_from opening next lines start c made held held' held'' report first servers agents p written r =
    run_from (line_through opening lines) opening next lines start c made held held' report (λ outs d. Appends held held'' (outs_text (filter_in (said opening.seed) 1 lines) outs ++ last_text Whole d)) first servers agents p
    (Appends-trans held held' held'' (outs_text (filter_in (said opening.seed) 1 lines) p.outs) (last_text Whole c) p.taken written) r

pub refused_from : (opening : Opening) (next : ℕ) (lines : List (List ℕ)) (start c : Cluster) (made line : ℕ) (why : List ℕ) (held held' held'' : Option (List ℕ)) →
    IsFirstStart start → length start.servers ≡ opening.servers → length start.agents ≡ opening.agents →
    PlaysTo (line_through opening lines) (said opening.seed) next lines start (Refused line why) c made held held' → Appends held' held'' (refused_text line why) →
    RefusedRun (Opened opening next lines) held held''
refused_from opening next lines start c made line why held held' held'' first servers agents p written =
    let run = played_from opening next lines start c p.outs (Refused line why) first servers agents p.plays in
    record {
      line = line;
      why = why;
      text = outs_text (filter_in (said opening.seed) 1 lines) p.outs ++ refused_text line why;
      writes = played p.outs (Refused line why) run;
      written = Appends-trans held held' held'' (outs_text (filter_in (said opening.seed) 1 lines) p.outs) (refused_text line why) p.taken written;
    }

pub closed_from : (script : Script) (line : ℕ) (why : List ℕ) (held held' : Option (List ℕ)) → script ≡ Closed line why → Appends held held' (refused_text line why) → RefusedRun script held held'
closed_from script line why held held' e written =
    record { line = line; why = why; text = refused_text line why; writes = closed line why e; written = written }

pub part_closed : (script : Script) (line : ℕ) (why : List ℕ) (held held' : Option (List ℕ)) → script ≡ Closed line why → WritesPart held held' (refused_text line why) → PartOfRun script held held'
part_closed script line why held held' e part =
    record { end = Refused line why; text = refused_text line why; writes = closed line why e; part = part }

pub part_playing : (opening : Opening) (next : ℕ) (lines : List (List ℕ)) (start : Cluster) (held held' : Option (List ℕ)) →
    IsFirstStart start → length start.servers ≡ opening.servers → length start.agents ≡ opening.agents →
    PlaysPart (line_through opening lines) (said opening.seed) next lines start held held' → PartOfRun (Opened opening next lines) held held'
part_playing opening next lines start held held' first servers agents p =
    let run = played_from opening next lines start p.reached p.outs Broken first servers agents p.plays in
    record { end = Broken; text = outs_text (filter_in (said opening.seed) 1 lines) p.outs ++ []; writes = played p.outs Broken run; part = part_front held held' (outs_text (filter_in (said opening.seed) 1 lines) p.outs) [] p.part }

pub part_ending : (opening : Opening) (next : ℕ) (lines : List (List ℕ)) (start c : Cluster) (end : Ending) (made : ℕ) (held held' held'' : Option (List ℕ)) →
    IsFirstStart start → length start.servers ≡ opening.servers → length start.agents ≡ opening.agents →
    PlaysTo (line_through opening lines) (said opening.seed) next lines start end c made held held' → WritesPart held' held'' (last_text end c) →
    PartOfRun (Opened opening next lines) held held''
unfolding played_from
part_ending opening next lines start c end made held held' held'' first servers agents p part =
    let run = played_from opening next lines start c p.outs end first servers agents p.plays in
    record {
      end = end;
      text = outs_text (filter_in (said opening.seed) 1 lines) p.outs ++ last_text end c;
      writes = played p.outs end run;
      part = part_after held held' held'' (outs_text (filter_in (said opening.seed) 1 lines) p.outs) (last_text end c) p.taken part;
    }
