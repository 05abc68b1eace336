-- The job of a connection.
use Rattle.std.specs.Prelude.{◌≡◌, ℕ, false, true, List}
use Rattle.cat_model.specs.declared.command.Command.{Command}
use Rattle.cat_model.specs.declared.reply.Mark.{Mark}
use Rattle.cluster_rules.specs.Replies.{Reply}
use Rattle.serve_outside.specs.Links.{LinkState}
use Rattle.turn_lock.specs.declared.history.History.{Ghosts}
use Rattle.turn_lock.specs.Passes.{IsFree}
use Rattle.http_exchanges.specs.Knowing.{HasLearned, known_by}
use Rattle.http_exchanges.specs.declared.cluster.Ask.{Ask}
use Rattle.http_exchanges.specs.declared.job.ServeJob.{ServeJob}
use Rattle.http_exchanges.specs.declared.job.Finished.{Finished}
use Rattle.http_exchanges.specs.Serving.{Connection, EndsBy, is_short}

module _ {R S Cl G L : Type 0} {H : Ghosts S Mark} (state : L → LinkState) where
  -- the connection that a job serves
  abbrev pub connection_of : ServeJob R S Cl G L (List Command) Mark H → Connection
  connection_of job = record { agent = job.agent; draw = job.draw; first = state job.link; begun = known_by job.pass job.viewer }

module _ {R S Cl G L : Type 0} {H : Ghosts S Mark} (shows : ℕ → Ask → Reply → List Mark → Type 0) (agrees : Type 0) (state : L → LinkState) where
  -- The job's connection has ended and is shut, and its pass is of the same board. Where memory sufficed, its viewer has read
  -- all of the agreed log that the pass has seen.
  abbrev pub HasEnded : ServeJob R S Cl G L (List Command) Mark H → Finished L S (List Command) Mark H → Type 0
  HasEnded job done =
      ((done.pass.seat.table_id ≡ job.pass.seat.table_id) × IsFree done.pass.seat)
      × EndsBy shows agrees (connection_of state job) done.cause (state done.link) (known_by done.pass done.viewer) done.requests
      × ((state done.link).shut ≡ true)
      × (is_short done.cause ≡ false → HasLearned agrees (known_by done.pass done.viewer))
