-- What serves a connection, as clauses see it.
use Rattle.serve_outside.specs.Links.{LinkState}
use Rattle.turn_lock.specs.declared.history.History.{Ghosts}
use Rattle.node_service.specs.Processes.{Running}
use Rattle.node_connections.specs.declared.item.Item.{Item}
use Rattle.node_connections.specs.declared.serving.Service.{Service}
use Rattle.node_connections.specs.declared.serving.Serving.{Serving}
use Rattle.node_connections.specs.Boards.{known}
use Rattle.node_connections.specs.Serving.{Connection}
use Rattle.node_connections.specs.Stages.{Stage}

module _ {D R S Cl L : Type 0} {H : Ghosts S (Item Running D)} where
  -- the connection that is served
  abbrev pub connection : (L → LinkState) → Service R S Cl L (Item Running D) H → Connection D
  connection state service = record {
    peers = service.fresh.value.peers;
    first = state service.first.value;
    begun = known service.begun.value;
  }

module _ {D S W L : Type 0} {H : Ghosts S (Item Running D)} where
  -- where it stands
  abbrev pub stage : (L → LinkState) → Serving S W L (Item Running D) H → Stage D
  stage state s = record {
    link = state s.link;
    reader = s.reader;
    known = known s.pass;
    frames = s.frames;
  }
