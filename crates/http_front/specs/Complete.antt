-- Completeness: what comes of a server on which nothing failed.
use Rattle.std.specs.Prelude.{◌≡◌, ℕ, List, ◌++◌, length, reverse, IfOk, MatchResult, Option, None, Some, Result, Ok}
use Rattle.std.specs.List.{AllByRecursion}
use Rattle.cat_model.specs.declared.command.Command.{Command}
use Rattle.cat_model.specs.declared.request.Draw.{Draw}
use Rattle.cat_model.specs.Log.{commands_of}
use Rattle.outside.specs.Causes.{Rose}
use Rattle.datagram_outside.specs.Ports.{IsNew, PortState}
use Rattle.cluster_rules.specs.Cluster.{Cluster}
use Rattle.cluster_rules.specs.Reached.{MayBegin}
use Rattle.script_player.specs.declared.report.Report.{Report}
use Rattle.serve_outside.specs.Links.{LinkState}
use Rattle.serve_outside.specs.Stores.{AddsMade, Made, made_from}
use Rattle.turn_lock.specs.Lists.{Among, IsFront}
use Rattle.http_connections.specs.Complete.{AnswersAll, CameOverOne, IsUnbroken}
use Rattle.http_connections.specs.Runs.{most_of}
use Rattle.run_rules.specs.Serving.{Serves, Size}
use Rattle.http_front.specs.Asked.{asked_in}
use Rattle.http_front.specs.Shown.{ShowsOver}
use Rattle.http_front.specs.declared.options.Dns.{Dns}
use Rattle.http_front.specs.declared.options.Options.{Options}
use Rattle.http_front.specs.declared.stop.Stop.{Stop}
use Rattle.http_front.specs.Names.{ClosesOne, IsAnswered}
use Rattle.http_front.specs.Served.{CountsBinds, CountsKeepers, CountsStop, Fits, Served}

-- A server from its call to its return: what was asked for, made and drawn, the links and the ports of names handed back,
-- the counts of faults of what makes its stores, of the spawner, the listener, the datagrams and the sink, what the sink
-- holds, and how the server ended.
pub record Run : Type 0 where
  pub options : Options
  pub made : Option (List Made)
  pub made' : Option (List Made)
  pub draws : Option (List Draw)
  pub given : ℕ
  pub port : Option ℕ
  pub closed : List LinkState
  pub closed' : List LinkState
  pub ports : List PortState
  pub ports' : List PortState
  pub keeps : ℕ
  pub keeps' : ℕ
  pub spawns : ℕ
  pub spawns' : ℕ
  pub listens : ℕ
  pub listens' : ℕ
  pub binds : ℕ
  pub binds' : ℕ
  pub writes : ℕ
  pub writes' : ℕ
  pub held : Option (List ℕ)
  pub held' : Option (List ℕ)
  pub ended : Result Report Stop

-- what the clauses `served`, `cause`, `keepers` and `binds` of `serve` say of every run
pub record IsServers (run : Run) : Type 0 where
  pub served : IfOk run.ended (Served run.options run.made run.made' run.draws run.closed run.closed' run.spawns run.spawns' run.given run.port run.ports run.ports' run.held run.held')
  pub cause : MatchResult run.ended (λ _. run.writes' ≡ run.writes) (λ why. CountsStop why run.listens run.listens' run.writes run.writes')
  pub keepers : MatchResult run.ended (λ _. run.keeps' ≡ run.keeps) (λ why. CountsKeepers why run.keeps run.keeps')
  pub binds_are : MatchResult run.ended (λ _. run.binds' ≡ run.binds) (λ why. CountsBinds why run.binds run.binds')

-- no count of faults rose
pub record IsFaultless (run : Run) : Type 0 where
  pub keepers : Rose run.keeps run.keeps' → ⊥
  pub spawner : Rose run.spawns run.spawns' → ⊥
  pub listener : Rose run.listens run.listens' → ⊥
  pub datagrams : Rose run.binds run.binds' → ⊥
  pub sink : Rose run.writes run.writes' → ⊥

-- The port of names, where one was asked for, came back, and its packets were answered.
abbrev pub NamesAnswered : Option Dns → Type 0 → List Command → List PortState → List PortState → Type 0
NamesAnswered None agrees agreed ports ports' = ports' ≡ ports
NamesAnswered (Some dns) agrees agreed ports ports' =
    (first : PortState) × (port : PortState) × IsNew first × ClosesOne ports ports' port × IsAnswered agrees agreed (most_of dns.packets) first port

-- The server is done: as many links as were asked for came back, and everything that came over each of them that did not
-- break was answered, over the one log of a cluster over just those stores that were made for it. Nothing was asked of
-- that cluster but the messages of these links. The packets of its port of names were answered too.
pub record IsComplete (run : Run) : Type 0 where
  pub report : Report
  pub ended : run.ended ≡ Ok report
  pub size : Size
  pub fits : Fits run.options size
  pub stores_are : AddsMade run.made run.made' (made_from run.options.folder 1 size.stores)
  pub reached : Cluster
  pub serves : Serves size reached
  pub links : List LinkState
  pub back : run.closed' ≡ run.closed ++ links
  pub count : length links ≡ most_of run.options.connections
  pub answered : AllByRecursion (λ link. IsUnbroken link → AnswersAll (ShowsOver size.stores) (MayBegin size.stores) size.agents run.draws (λ seen. IsFront seen (reverse reached.past)) link) links
  pub asked : (n : ℕ) → Among n (asked_in reached) → CameOverOne (ShowsOver size.stores) (MayBegin size.stores) size.agents run.draws (λ seen. IsFront seen (reverse reached.past)) links answered n
  pub names : NamesAnswered run.options.dns (MayBegin size.stores) (commands_of reached.world.agreed) run.ports run.ports'
