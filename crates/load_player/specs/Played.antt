-- What playing a load does. `held` is what the sink holds before it and, primed, after it.
use Rattle.std.specs.Prelude.{◌⊎◌, ℕ, List, [], flat_map, length, Option}
use Rattle.std.specs.Io.KnownBytes.{Appends}
use Rattle.cluster_rules.specs.Replies.{Out}
use Rattle.cluster_rules.specs.Cluster.{Cluster}
use Rattle.load_player.specs.LoadScript.{load_script}
use Rattle.load_player.specs.Summary.{summary_text}
use Rattle.script_player.specs.declared.report.Report.{Report}
use Rattle.script_player.specs.Found.{found_in}
use Rattle.script_player.specs.Run.{RunOf, WritesPart}
use Rattle.script_player.specs.Script.{Script, script_of}
use Rattle.load_player.specs.declared.load.Load.{Load}

abbrev pub script_of_load : Load → Script
script_of_load load = script_of (load_script load.seed load.size)

-- what is said of the load's run with these outs and this cluster at its end: how many reads found their key, and how
-- long the agreed log is
abbrev pub summary_of : Load → List Out → Cluster → List ℕ
summary_of load outs c = summary_text load.seed load.size (length (flat_map found_in outs)) (length c.world.agreed)

-- the load's script was played whole, and its summary was written
abbrev pub PlayedLoad : Load → Option (List ℕ) → Option (List ℕ) → Report → Type 0
PlayedLoad load held held' report =
    RunOf (script_of_load load) (λ outs c. Appends held held' (summary_of load outs c)) report

-- nothing was written, or a first part of the summary of a whole run
abbrev pub WritesLoadPart : Load → Option (List ℕ) → Option (List ℕ) → Type 0
WritesLoadPart load held held' =
    Appends held held' []
    ⊎ ((report : Report) × RunOf (script_of_load load) (λ outs c. WritesPart held held' (summary_of load outs c)) report)
