-- What a server did.
use Rattle.std.specs.Prelude.{◌≡◌, ℕ, List, [], length, reverse, Option, None, Some, Result, Ok}
use Rattle.std.specs.Io.KnownBytes.{Appends}
use Rattle.cat_model.specs.declared.request.Draw.{Draw}
use Rattle.cat_model.specs.Log.{commands_of}
use Rattle.outside.specs.Causes.{Rose}
use Rattle.outside.specs.declared.faults.KeepFail.{KeepFail}
use Rattle.outside.specs.declared.faults.KeepFail.TheVariants as keep_fail
use Rattle.datagram_outside.specs.Ports.{PortState}
use Rattle.raft_model.specs.World.{AreEmpty}
use Rattle.cluster_rules.specs.Cluster.{Cluster}
use Rattle.cluster_rules.specs.Reached.{AreSure, MayBegin}
use Rattle.cluster_rules.specs.Step.{events_in}
use Rattle.script_player.specs.declared.report.Report.{Report}
use Rattle.script_player.specs.Run.{IsReportOf, WritesPart}
use Rattle.serve_outside.specs.Links.{LinkState}
use Rattle.serve_outside.specs.Stores.{AddsMade, Made, made_from}
use Rattle.turn_lock.specs.Lists.{IsFront}
use Rattle.http_connections.specs.declared.run.Stop as loop
use Rattle.http_connections.specs.Runs.{HandsBack, HaveRead, most_of}
use Rattle.run_rules.specs.Serving.{Size, Serves}
use Rattle.run_rules.specs.Holding.{Holds}
use Rattle.http_front.specs.Asked.{asked_in}
use Rattle.http_front.specs.Shown.{ShowsOver}
use Rattle.http_front.specs.declared.options.Options.{Options}
use Rattle.http_front.specs.Names.{NamesServed}
use Rattle.http_front.specs.declared.stop.Stop.{Stop}
use Rattle.http_front.specs.declared.stop.Stop.TheVariants as stop
use Rattle.http_front.specs.Text.{listening_text, served_text}

-- So many servers and agents were asked for. Without a folder the stores are empty, and fail nowhere.
pub record Fits (options : Options) (size : Size) : Type 0 where
  pub servers : length size.stores ≡ options.servers
  pub agents : size.agents ≡ options.agents
  pub empty : options.folder ≡ None → AreEmpty size.stores × AreSure size.stores

-- Each connection that was given came back: it was served over this cluster's one log, or turned away. Each request that
-- was asked of the cluster was asked by one of them.
abbrev pub Serve : Size → Option (List Draw) → Cluster → List LinkState → List LinkState → ℕ → ℕ → ℕ → Result Unit loop.Stop → Type 0
Serve size draws c closed closed' faults faults' given result =
    HandsBack (ShowsOver size.stores) (MayBegin size.stores) size.agents draws (λ seen. IsFront seen (reverse c.past)) closed closed' faults faults' given (asked_in c) result

-- So many connections were served at the port as asked, by a cluster of this size, of which all that must holds if its
-- stores were empty or such as an earlier run of as many servers left, and this is reported of it. Then too all lists over
-- which stale reads and questions of names were answered begin the log that it has agreed, but those of connections that
-- ended for lack of memory.
pub record ServedBy (size : Size) (options : Options) (draws : Option (List Draw)) (closed closed' : List LinkState) (faults faults' given : ℕ) (port : Option ℕ) (ports ports' : List PortState) (held held' : Option (List ℕ)) (report : Report) : Type 0 where
  pub reached : Cluster
  pub serves : Serves size reached
  pub holds : MayBegin size.stores → Holds size.stores reached
  pub links : Serve size draws reached closed closed' faults faults' given (Ok tt)
  pub views : MayBegin size.stores → HaveRead (ShowsOver size.stores) (MayBegin size.stores) size.agents draws (λ seen. IsFront seen (reverse reached.past)) (commands_of reached.world.agreed) links.all.links links.all.each
  pub names : NamesServed options.dns (MayBegin size.stores) (commands_of reached.world.agreed) faults faults' ports ports'
  pub count : given ≡ most_of options.connections
  pub listens : port ≡ Some options.port
  pub written : Appends held held' (served_text options.port reached)
  pub tells : IsReportOf reached (events_in reached.past) report

-- Status 0: a cluster served, over just those stores that were made, in the folder that was asked for, for servers 1, 2,
-- .. in this order. Without a folder all that must holds of it, whatever was before.
pub record Served (options : Options) (made made' : Option (List Made)) (draws : Option (List Draw)) (closed closed' : List LinkState) (faults faults' given : ℕ) (port : Option ℕ) (ports ports' : List PortState) (held held' : Option (List ℕ)) (report : Report) : Type 0 where
  pub size : Size
  pub fits : Fits options size
  pub stores_are : AddsMade made made' (made_from options.folder 1 size.stores)
  pub run : ServedBy size options draws closed closed' faults faults' given port ports ports' held held' report
  pub holds : options.folder ≡ None → Holds size.stores run.reached

-- Nothing was given yet, or each connection that was given came back.
pub data GivesBack (options : Options) (draws : Option (List Draw)) (closed closed' : List LinkState) (faults faults' given : ℕ) : Type 0 where
  none_given : given ≡ 0 → closed' ≡ closed → GivesBack options draws closed closed' faults faults' given
  all_back : (size : Size) (c : Cluster) (result : Result Unit loop.Stop) → Fits options size → Serves size c → Serve size draws c closed closed' faults faults' given result → GivesBack options draws closed closed' faults faults' given

-- all of it was written; or nothing, where it could not listen
pub data WritesWhole (options : Options) (held held' : Option (List ℕ)) : Type 0 where
  nothing : Appends held held' [] → WritesWhole options held held'
  all : (size : Size) (c : Cluster) → Fits options size → Serves size c → Appends held held' (served_text options.port c) → WritesWhole options held held'

-- a first part was written of what a server writes
pub data WritesFront (options : Options) (held held' : Option (List ℕ)) : Type 0 where
  of_first : WritesPart held held' (listening_text options.port) → WritesFront options held held'
  of_all : (size : Size) (c : Cluster) → Fits options size → Serves size c → WritesPart held held' (served_text options.port c) → WritesFront options held held'

abbrev pub stop_of_write : KeepFail → Stop
stop_of_write keep_fail.Failed = stop.Sink
stop_of_write keep_fail.Memory = stop.Memory

-- the sink's count of faults rose where it failed, and nowhere else; whoever writes makes no store and binds no port
abbrev pub CountsSink : Stop → ℕ → ℕ → Type 0
CountsSink stop.Listener writes writes' = writes' ≡ writes
CountsSink stop.Sink writes writes' = Rose writes writes'
CountsSink stop.Keepers writes writes' = ⊥
CountsSink stop.Datagrams writes writes' = ⊥
CountsSink stop.Memory writes writes' = writes' ≡ writes

-- Why a server with its stores broke off: its listener or its sink failed, which has counted the fault, or its port of names
-- could not be bound, or there was no memory.
abbrev pub CountsServing : Stop → ℕ → ℕ → ℕ → ℕ → Type 0
CountsServing stop.Listener listens listens' writes writes' = Rose listens listens' × (writes' ≡ writes)
CountsServing stop.Sink listens listens' writes writes' = Rose writes writes'
CountsServing stop.Keepers listens listens' writes writes' = ⊥
CountsServing stop.Datagrams listens listens' writes writes' = (listens' ≡ listens) × (writes' ≡ writes)
CountsServing stop.Memory listens listens' writes writes' = writes' ≡ writes

-- The same of any server. Where a store could not be made or read, neither the listener nor the sink counted a fault.
abbrev pub CountsStop : Stop → ℕ → ℕ → ℕ → ℕ → Type 0
CountsStop stop.Listener listens listens' writes writes' = Rose listens listens' × (writes' ≡ writes)
CountsStop stop.Sink listens listens' writes writes' = Rose writes writes'
CountsStop stop.Keepers listens listens' writes writes' = (listens' ≡ listens) × (writes' ≡ writes)
CountsStop stop.Datagrams listens listens' writes writes' = (listens' ≡ listens) × (writes' ≡ writes)
CountsStop stop.Memory listens listens' writes writes' = writes' ≡ writes

-- the count of faults of what makes stores rose where a store could not be made or read, and nowhere else
abbrev pub CountsKeepers : Stop → ℕ → ℕ → Type 0
CountsKeepers stop.Listener keeps keeps' = keeps' ≡ keeps
CountsKeepers stop.Sink keeps keeps' = keeps' ≡ keeps
CountsKeepers stop.Keepers keeps keeps' = Rose keeps keeps'
CountsKeepers stop.Datagrams keeps keeps' = keeps' ≡ keeps
CountsKeepers stop.Memory keeps keeps' = keeps' ≡ keeps

-- the count of faults of what gives ports of datagrams rose where one could not be bound, and nowhere else
abbrev pub CountsBinds : Stop → ℕ → ℕ → Type 0
CountsBinds stop.Listener binds binds' = binds' ≡ binds
CountsBinds stop.Sink binds binds' = binds' ≡ binds
CountsBinds stop.Keepers binds binds' = binds' ≡ binds
CountsBinds stop.Datagrams binds binds' = Rose binds binds'
CountsBinds stop.Memory binds binds' = binds' ≡ binds
