-- What serves a connection, as clauses see it.
use Rattle.std.specs.Prelude.{List}
use Rattle.cat_model.specs.declared.command.Command.{Command}
use Rattle.cat_model.specs.declared.reply.Mark.{Mark}
use Rattle.serve_outside.specs.Links.{LinkState}
use Rattle.turn_lock.specs.declared.history.History.{Ghosts}
use Rattle.http_exchanges.specs.Knowing.{known_by}
use Rattle.http_exchanges.specs.Serving.{Connection}
use Rattle.http_exchanges.specs.Stages.{Stage}
use Rattle.http_exchanges.specs.declared.service.Service.{Service}
use Rattle.http_exchanges.specs.declared.service.Serving.{Serving}

module _ {R S Cl G L : Type 0} {H : Ghosts S Mark} where
  -- the connection that is served
  abbrev pub connection : (L → LinkState) → Service R S Cl G L (List Command) Mark H → Connection
  connection state service = record {
    agent = service.agent;
    draw = service.draw;
    first = state service.first.value;
    begun = known_by service.begun.value service.read.value;
  }

module _ {L S : Type 0} {H : Ghosts S Mark} where
  -- where it stands
  abbrev pub stage : (L → LinkState) → Serving L S (List Command) Mark H → Stage
  stage state s = record {
    link = state s.link;
    reader = s.reader;
    known = known_by s.pass s.viewer;
    requests = s.requests;
  }
