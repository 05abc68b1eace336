-- What a run did, by how it ended: for a script, a load, a server, and words that ask for none of them. A count of faults
-- rises where that one failed, and nowhere else. What is not listed does not happen.
use Rattle.std.specs.Prelude.{◌≡◌, [], Result, Ok, Err}
use Rattle.std.specs.Io.KnownBytes.{Appends}
use Rattle.outside.specs.Causes.{Rose}
use Rattle.script_player.specs.declared.report.Report.{Report}
use Rattle.script_player.specs.Run.{WritesPart}
use Rattle.load_player.specs.declared.load.Load.{Load}
use Rattle.load_player.specs.Played.{PlayedLoad, WritesLoadPart}
use Rattle.http_front.specs.declared.options.Options.{Options}
use Rattle.http_front.specs.Names.{GivesPortBack}
use Rattle.http_front.specs.Served.{GivesBack, Served, WritesFront, WritesWhole}
use Rattle.catalog_top.specs.declared.stop.Stop.{Stop}
use Rattle.catalog_top.specs.declared.stop.Stop.TheVariants as stop
use Rattle.catalog_top.specs.Outside.{Input, Output, Outside}
use Rattle.catalog_top.specs.Run.{Ran, RefusesLine, PassesLimit, StopsShort}
use Rattle.catalog_top.specs.Text.{usage_text}

-- neither the source nor the sink failed
abbrev pub NoFault : Input → Input → Output → Output → Type 0
NoFault i i' o o' = (i'.faults ≡ i.faults) × (o'.faults ≡ o.faults)

-- A script: its whole run, or up to a line that is refused; or a first part of its run, or none of it.
abbrev pub PlaysScript : Input → Input → Output → Output → Result Report Stop → Type 0
PlaysScript i i' o o' (Ok report) = Ran i i' o o' report × NoFault i i' o o'
PlaysScript i i' o o' (Err stop.Line) = RefusesLine i i' o o' × NoFault i i' o o'
PlaysScript i i' o o' (Err stop.Limit) = PassesLimit i i' o o' × NoFault i i' o o'
PlaysScript i i' o o' (Err stop.Source) = Rose i.faults i'.faults × (o'.faults ≡ o.faults) × Appends o.held o'.held []
PlaysScript i i' o o' (Err stop.Sink) = (i'.faults ≡ i.faults) × Rose o.faults o'.faults × StopsShort i i' o o'
PlaysScript i i' o o' (Err stop.Memory) = NoFault i i' o o' × StopsShort i i' o o'
PlaysScript i i' o o' (Err other) = ⊥

-- a report, or a fault, or out of memory
abbrev pub EndsWell : Result Report Stop → Type 0
EndsWell (Ok report) = Unit {0}
EndsWell (Err stop.Source) = Unit {0}
EndsWell (Err stop.Sink) = Unit {0}
EndsWell (Err stop.Memory) = Unit {0}
EndsWell (Err other) = ⊥

-- A load: its whole run and the line that sums it up, or a first part of that line.
abbrev pub PlaysLoad : Load → Output → Output → Result Report Stop → Type 0
PlaysLoad load o o' (Ok report) = PlayedLoad load o.held o'.held report × (o'.faults ≡ o.faults)
PlaysLoad load o o' (Err stop.Sink) = WritesLoadPart load o.held o'.held × Rose o.faults o'.faults
PlaysLoad load o o' (Err stop.Memory) = WritesLoadPart load o.held o'.held × (o'.faults ≡ o.faults)
PlaysLoad load o o' (Err other) = ⊥

-- Wrong words: the line that says which words there are, or a first part of it.
abbrev pub SaysUsage : Output → Output → Result Report Stop → Type 0
SaysUsage o o' (Err stop.Words) = Appends o.held o'.held usage_text × (o'.faults ≡ o.faults)
SaysUsage o o' (Err stop.Sink) = WritesPart o.held o'.held usage_text × Rose o.faults o'.faults
SaysUsage o o' (Err stop.Memory) = WritesPart o.held o'.held usage_text × (o'.faults ≡ o.faults)
SaysUsage o o' other = ⊥

-- Nothing was written and nothing served: no connection was taken, no word drawn, no job started and no port handed back.
pub record IsUnserved (s s' : Outside) (o o' : Output) : Type 0 where
  pub unwritten : o' ≡ o
  pub given : s'.given ≡ s.given
  pub closed : s'.closed ≡ s.closed
  pub draws : s'.draws ≡ s.draws
  pub spawns : s'.spawns ≡ s.spawns
  pub ports : s'.ports ≡ s.ports

-- A server that ended well served as it was asked to. Else it wrote a first part of its text, and all of it where its listener
-- failed at a connection. Where its port of names could not be bound nothing is served, and where a store could not be made
-- or read, all else is as it was.
abbrev pub EndsServing : Options → Outside → Outside → Output → Output → Type 0 → Result Report Stop → Type 0
EndsServing options s s' o o' as_before (Ok report) =
    Served options s.made s'.made s'.draws s.closed s'.closed s.spawns s'.spawns s'.given s'.port s.ports s'.ports o.held o'.held report × (o'.faults ≡ o.faults) × (s'.keeps ≡ s.keeps) × (s'.binds ≡ s.binds)
EndsServing options s s' o o' as_before (Err stop.Listener) =
    Rose s.listens s'.listens × WritesWhole options o.held o'.held × WritesFront options o.held o'.held × (o'.faults ≡ o.faults) × (s'.keeps ≡ s.keeps) × (s'.binds ≡ s.binds)
EndsServing options s s' o o' as_before (Err stop.Sink) = Rose o.faults o'.faults × WritesFront options o.held o'.held × (s'.keeps ≡ s.keeps) × (s'.binds ≡ s.binds)
EndsServing options s s' o o' as_before (Err stop.Memory) = WritesFront options o.held o'.held × (o'.faults ≡ o.faults) × (s'.keeps ≡ s.keeps) × (s'.binds ≡ s.binds)
EndsServing options s s' o o' as_before (Err stop.Store) = Rose s.keeps s'.keeps × as_before × WritesFront options o.held o'.held
EndsServing options s s' o o' as_before (Err stop.Datagrams) = Rose s.binds s'.binds × IsUnserved s s' o o' × (s'.listens ≡ s.listens) × (s'.keeps ≡ s.keeps)
EndsServing options s s' o o' as_before (Err other) = ⊥

-- However a server ended, each connection that was given came back, and so did its port of names.
abbrev pub Serves : Options → Outside → Outside → Output → Output → Type 0 → Result Report Stop → Type 0
Serves options s s' o o' as_before result =
    EndsServing options s s' o o' as_before result × GivesBack options s'.draws s.closed s'.closed s.spawns s'.spawns s'.given × GivesPortBack options.dns s.ports s'.ports
