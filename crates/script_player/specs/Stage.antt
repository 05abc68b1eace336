-- What playing a script does, line by line.
use Rattle.std.specs.Prelude.{◌≡◌, ◌⊎◌, ◌<◌, ◌≤◌, ℕ, ◌*◌, ◌^◌, ◌==◌, true, if◌then◌else◌, List, [], Option, Some, None, option_map, Result, Ok, Err}
use Rattle.std.specs.List.{flat_map}
use Rattle.std.specs.BTreeMap.{get}
use Rattle.std.specs.Ordering.{nat_cmp}
use Rattle.std.specs.Io.KnownBytes.{Appends}
use Rattle.outside.specs.Causes.{Rose}
use Rattle.outside.specs.declared.faults.KeepFail.{KeepFail}
use Rattle.outside.specs.declared.faults.KeepFail.TheVariants as keep_fail
use Rattle.cat_model.specs.declared.request.Event.{Event}
use Rattle.run_rules.specs.declared.misfit.Misfit.{Misfit}
use Rattle.cluster_rules.specs.Replies.{Out}
use Rattle.cluster_rules.specs.Cluster.{Cluster}
use Rattle.cluster_rules.specs.Step.{ClusterStep}
use Rattle.cluster_rules.specs.Reached.{Settling}
use Rattle.script_lang.specs.declared.bad_line.BadLine.{BadLine}
use Rattle.script_lang.specs.declared.line.Line.{Line}
use Rattle.script_lang.specs.declared.line.Line.TheVariants as line
use Rattle.script_lang.specs.Text.{reason_text}
use Rattle.script_lang.specs.Lines.{filter_of_line}
use Rattle.filter_expr.specs.Expressions.{Expression, expression_of}
use Rattle.cat_model.specs.declared.reply.Mark.{Mark}
use Rattle.cluster_rules.specs.Sound.{out_times, taken_times}
use Rattle.run_rules.specs.Lines.{Said, Nothing, Makes, Settles, Refuses, misfit, misfit_text}
use Rattle.run_rules.specs.Plays.{Ending, Whole, Refused, Broken, Plays, emptied, settled}
use Rattle.script_player.specs.declared.openings.Opening.{Opening}
use Rattle.script_player.specs.declared.openings.NotOpened.{NotOpened}
use Rattle.script_player.specs.declared.openings.NotOpened.TheVariants as not_opened
use Rattle.script_player.specs.declared.reader.Says.{Says}
use Rattle.script_player.specs.declared.reader.Says.TheVariants as says
use Rattle.script_player.specs.declared.stage.Turn.{Turn}
use Rattle.script_player.specs.declared.stage.Turn.TheVariants as turn
use Rattle.script_player.specs.declared.refused.Refused as refused
use Rattle.script_player.specs.Script.{Script, Closed}
use Rattle.cluster_interface.specs.Interface.{IsPlayed}
use Rattle.script_player.specs.Run.{WritesPart, made_in}
use Rattle.script_player.specs.Filters.{Filters, asks, filter_of}
use Rattle.script_player.specs.declared.filters.Filters as kept_code

-- the sink's count of faults rose where it failed, and nowhere else
abbrev pub CountsWrite : KeepFail → ℕ → ℕ → Type 0
CountsWrite keep_fail.Failed before now = Rose before now
CountsWrite keep_fail.Memory before now = now ≡ before

-- the script is refused before a cluster is opened
abbrev pub IsClosed : Script → NotOpened → Type 0
IsClosed script (not_opened.Refused why) = script ≡ Closed why.line (reason_text why.reason)
IsClosed script not_opened.Memory = Unit {0}

-- the opening of a cluster is within its bounds
pub record IsOpening (opening : Opening) : Type 0 where
  pub some : 0 < opening.servers
  pub most : opening.servers ≤ 7
  pub few : opening.agents ≤ 64

-- What a line says is within its bounds, and a request is one that the cluster takes.
abbrev pub IsFine : Result Line BadLine → Type 0
IsFine (Ok line.Nothing) = Unit {0}
IsFine (Ok (line.Cluster servers agents seed)) = IsOpening (record { servers = servers; agents = agents; seed = seed })
IsFine (Ok (line.Event made)) = IsPlayed made
IsFine (Ok (line.Settle most)) = Unit {0}
IsFine (Err why) = Unit {0}

-- ---- the filters that are kept, by their requests' numbers

abbrev pub kept_in : kept_code.Filters → Filters
kept_in kept k = option_map expression_of (get nat_cmp kept.by_number k)

-- with one more, where a request has one
abbrev pub put_for : ℕ → Option Expression → Filters → Filters
put_for number None kept k = kept k
put_for number (Some f) kept k = if number == k then Some f else kept k

-- the filter of a line that says a request
abbrev pub filter_said : Said → List ℕ → Option Expression
filter_said says line = if asks says then filter_of_line line else None

-- what is taken of an out, through the filter of its request
abbrev pub through : (Option Expression → Out → List ℕ) → Filters → Out → List ℕ
through adds filters out = adds (filter_of filters out) out

-- no two outs are of one request, and for each of their requests these filters are the same
abbrev pub AreFor : (filters kept : Filters) → List Out → Type 0
AreFor filters kept outs = ((k : ℕ) → out_times k outs ≤ 1) × ((k : ℕ) → 0 < out_times k outs → kept k ≡ filters k)

-- where what a line says may lead
abbrev pub LeadsTo : Cluster → Said → Cluster → Type 0
LeadsTo c (Makes made) c' = (misfit c made ≡ None) × ClusterStep c made c' true
LeadsTo c (Settles most) c' = (pairs : ℕ) × (mid : Cluster) × Settling pairs c mid × (c' ≡ settled pairs mid)
LeadsTo c other c' = ⊥

-- wherever it leads, the outs that wait then have the filters that are kept
abbrev pub AreForAll : (filters kept : Filters) → Cluster → Said → Type 0
AreForAll filters kept c says = (c' : Cluster) → LeadsTo c says c' → AreFor filters kept c'.tray

-- only filters are gone whose request's out was taken
abbrev pub KeepsWaiting : (kept kept' : Filters) → List Mark → Type 0
KeepsWaiting kept kept' past = ((k : ℕ) → taken_times k past ≡ 0 → kept' k ≡ kept k) × ((k : ℕ) → kept k ≡ None → kept' k ≡ None)

abbrev pub IfMade : Turn → Type 0 → Type 0
IfMade (turn.Made events) P = P
IfMade (turn.Refused bad) P = Unit {0}

-- what the words of a line say, in the program's own types
abbrev pub IsWorded : Said → Says → Type 0
IsWorded said says.Nothing = said ≡ Nothing
IsWorded said (says.Makes made) = (said ≡ Makes made) × IsPlayed made
IsWorded said (says.Settles most) = said ≡ Settles most
IsWorded said (says.Refuses why) = said ≡ Refuses (reason_text why)

-- an event does not fit, for this reason
abbrev pub IsMisfit : Cluster → Said → BadLine → Type 0
IsMisfit c said why =
    (made : Event) × (miss : Misfit) × (said ≡ Makes made) × (misfit c made ≡ Some miss) × (reason_text why ≡ misfit_text miss)

-- what a line says where the cluster stands so: an event that does not fit is refused
abbrev pub IsRead : Cluster → Said → Says → Type 0
IsRead c said says.Nothing = said ≡ Nothing
IsRead c said (says.Makes made) = (said ≡ Makes made) × IsPlayed made × (misfit c made ≡ None)
IsRead c said (says.Settles most) = said ≡ Settles most
IsRead c said (says.Refuses why) = (said ≡ Refuses (reason_text why)) ⊎ IsMisfit c said why

-- an event's step, after which all outs are taken
abbrev pub MakesTo : Cluster → Event → Cluster → List Out → Type 0
MakesTo c made c' outs = (c₁ : Cluster) × ClusterStep c made c₁ true × (c' ≡ emptied c₁) × (outs ≡ c₁.tray)

-- a settling of so many pairs, after which all outs are taken
abbrev pub SettlesAll : Cluster → ℕ → ℕ → Cluster → List Out → Type 0
SettlesAll c most pairs c' outs =
    (c₁ : Cluster) × Settling pairs c c₁ × (pairs ≤ most) × ((pairs ≡ most) ⊎ (c₁.world.bag.packets ≡ []))
    × (c' ≡ emptied (settled pairs c₁)) × (outs ≡ c₁.tray)

-- What a line that says this does: it leads to this cluster and gives these outs by so many events, or it is refused.
abbrev pub Turns : Cluster → Said → Cluster → List Out → Turn → Type 0
Turns c Nothing c' outs (turn.Made events) = (c' ≡ c) × (outs ≡ []) × (events ≡ 0)
Turns c (Makes made) c' outs (turn.Made events) = (misfit c made ≡ None) × MakesTo c made c' outs × (events ≡ 1)
Turns c (Settles most) c' outs (turn.Made events) = (pairs : ℕ) × SettlesAll c most pairs c' outs × (events ≡ 2 * pairs)
Turns c (Refuses why) c' outs (turn.Refused bad) = (c' ≡ c) × (outs ≡ []) × (why ≡ reason_text bad)
Turns c (Makes made) c' outs (turn.Refused bad) =
    (miss : Misfit) × (misfit c made ≡ Some miss) × (reason_text bad ≡ misfit_text miss) × (c' ≡ c) × (outs ≡ [])
Turns c says c' outs turn = ⊥

-- at most two events for each message that is asked for
abbrev pub IsFew : Turn → Type 0
IsFew (turn.Made events) = events ≤ 2 ^ 33
IsFew (turn.Refused bad) = Unit {0}

-- all outs that are given were taken, each of which adds so much to what is held
abbrev pub TakesAll : (Out → List ℕ) → (List Out → Type 0) → Option (List ℕ) → Option (List ℕ) → Type 0
TakesAll adds Gives held held' = (outs : List Out) × Gives outs × Appends held held' (flat_map adds outs)

-- nothing was taken, or a first part of the outs that are given
abbrev pub TakesFirst : (Out → List ℕ) → (List Out → Type 0) → Option (List ℕ) → Option (List ℕ) → Type 0
TakesFirst adds Gives held held' = Appends held held' [] ⊎ ((outs : List Out) × Gives outs × WritesPart held held' (flat_map adds outs))

-- what a line does that doesn't end the run
abbrev pub GoesOn : Cluster → Said → List Out → Type 0
GoesOn c said outs = (c' : Cluster) × (events : ℕ) × Turns c said c' outs (turn.Made events)

-- how the lines ended
abbrev pub ending_of : Option refused.Refused → Ending
ending_of None = Whole
ending_of (Some why) = Refused why.line (reason_text why.reason)

-- The lines lead to this cluster by so many events, and all their outs were taken.
pub record PlaysTo (adds : Out → List ℕ) (says : ℕ → List ℕ → Said) (number : ℕ) (lines : List (List ℕ)) (c : Cluster) (end : Ending) (c' : Cluster) (made : ℕ) (held held' : Option (List ℕ)) : Type 0 where
  pub outs : List Out
  pub plays : Plays says number lines c outs end c'
  pub counts : made_in says number lines c outs end c' plays ≡ made
  pub taken : Appends held held' (flat_map adds outs)

-- A first part was taken of the outs of lines that broke off.
pub record PlaysPart (adds : Out → List ℕ) (says : ℕ → List ℕ → Said) (number : ℕ) (lines : List (List ℕ)) (c : Cluster) (held held' : Option (List ℕ)) : Type 0 where
  pub outs : List Out
  pub reached : Cluster
  pub plays : Plays says number lines c outs Broken reached
  pub part : WritesPart held held' (flat_map adds outs)
