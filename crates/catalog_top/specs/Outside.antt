-- What the outside of a run tells at one moment: its counts, and its bytes where it tells them.
use Rattle.std.specs.Prelude.{ℕ, List, Option}
use Rattle.cat_model.specs.declared.request.Draw.{Draw}
use Rattle.outside.specs.declared.source.Source.{Ghosts as Sources}
use Rattle.outside.specs.declared.sink.Sink.{Ghosts as Sinks}
use Rattle.datagram_outside.specs.declared.port.Datagrams.{Ghosts as Ports}
use Rattle.datagram_outside.specs.Ports.{PortState}
use Rattle.serve_outside.specs.declared.link.Listener.{Ghosts as Listeners}
use Rattle.serve_outside.specs.declared.words.Words.{Ghosts as Draws}
use Rattle.serve_outside.specs.declared.spawner.Spawner.{Ghosts as Spawners}
use Rattle.serve_outside.specs.declared.keepers.Keepers.{Ghosts as Stores}
use Rattle.serve_outside.specs.Links.{LinkState}
use Rattle.serve_outside.specs.Stores.{Made}

-- a source: the bytes that it has left, how often its end was found, and how often it failed
pub record Input : Type 0 where
  pub left : Option (List ℕ)
  pub ends : ℕ
  pub faults : ℕ

abbrev pub input_of : {So : Type 0} → Sources So → So → Input
input_of g source = record { left = g.left source; ends = g.ends source; faults = g.faults source }

-- a sink: the bytes that it holds, and how often it failed
pub record Output : Type 0 where
  pub held : Option (List ℕ)
  pub faults : ℕ

abbrev pub output_of : {Si : Type 0} → Sinks Si → Si → Output
output_of g sink = record { held = g.held sink; faults = g.faults sink }

-- what a server has besides: the connections that came back, how many were given, how often the listener failed and where it
-- listens; the draws; how often the spawner failed; the durable stores that were made, and how often that failed; the ports
-- of datagrams that came back, and how often one could not be bound
pub record Outside : Type 0 where
  pub closed : List LinkState
  pub given : ℕ
  pub listens : ℕ
  pub port : Option ℕ
  pub draws : Option (List Draw)
  pub spawns : ℕ
  pub made : Option (List Made)
  pub keeps : ℕ
  pub ports : List PortState
  pub binds : ℕ

abbrev pub outside_of : {L Li W Sp Ks K D P Peer : Type 0} → Listeners L Li → Draws W → Spawners Sp → Stores Ks K → Ports D P Peer → L → W → Sp → Ks → D → Outside
outside_of l w s k d listener draws spawner keepers datagrams = record {
  closed = l.closed listener;
  given = l.given listener;
  listens = l.faults listener;
  port = l.listens_on listener;
  draws = w.draws draws;
  spawns = s.faults spawner;
  made = k.made keepers;
  keeps = k.faults keepers;
  ports = d.closed datagrams;
  binds = d.faults datagrams;
}
