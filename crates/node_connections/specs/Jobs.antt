-- The job of a connection.
use Rattle.std.specs.Prelude.{◌≡◌, true}
use Rattle.serve_outside.specs.Links.{LinkState}
use Rattle.turn_lock.specs.declared.history.History.{Ghosts}
use Rattle.turn_lock.specs.Passes.{IsFree}
use Rattle.node_service.specs.Dialers.{DialerState}
use Rattle.node_service.specs.Processes.{Running}
use Rattle.node_connections.specs.declared.item.Item.{Item}
use Rattle.node_connections.specs.declared.job.PeerJob.{PeerJob}
use Rattle.node_connections.specs.declared.job.PeerEnded.{PeerEnded}
use Rattle.node_connections.specs.Boards.{known}
use Rattle.node_connections.specs.Journals.{IsTold}
use Rattle.node_connections.specs.Serving.{Connection, EndsBy}

module _ {D R S Cl W L : Type 0} {H : Ghosts S (Item Running D)} where
  -- the connection that a job serves
  abbrev pub connection_of : (L → LinkState) → PeerJob R S Cl W L (Item Running D) H → Connection D
  connection_of state job = record { peers = job.reader.peers; first = state job.link; begun = known job.pass }

  -- The job's connection has ended and is shut, and its pass is of the same board.
  abbrev pub HasEnded : (D → DialerState) → (L → LinkState) → PeerJob R S Cl W L (Item Running D) H → PeerEnded S L (Item Running D) H → Type 0
  HasEnded told state job done =
      ((done.pass.seat.table_id ≡ job.pass.seat.table_id) × IsFree done.pass.seat)
      × IsTold told (known done.pass).seen
      × EndsBy (connection_of state job) done.cause (state done.link) (known done.pass) done.frames
      × ((state done.link).shut ≡ true)
