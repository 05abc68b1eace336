-- What a connection knows.
use Rattle.std.specs.Prelude.{◌≡◌, ℕ, List}
use Rattle.cat_model.specs.declared.command.Command.{Command}
use Rattle.cat_model.specs.declared.reply.Mark.{Mark}
use Rattle.turn_lock.specs.declared.history.History.{Ghosts}
use Rattle.turn_lock.specs.declared.lock.Pass.{Pass}
use Rattle.http_exchanges.specs.Boards.{known}
use Rattle.http_exchanges.specs.Marks.{agreed_by}

-- The marks that its pass has seen, the numbers that this opened, its shares, and the commands that its viewer has read.
pub record Known : Type 0 where
  pub seen : List Mark
  pub mine : List ℕ
  pub shares : ℕ
  pub read : List Command

module _ {S : Type 0} {G : Ghosts S Mark} where
  -- what a pass and a viewer know
  abbrev pub known_by : Pass S Mark G → List Command → Known
  known_by pass read = record { seen = (known pass).seen; mine = (known pass).mine; shares = pass.shares; read = read }

-- Where the servers agree, the viewer has read all of the agreed log that the pass has seen.
abbrev pub HasLearned : Type 0 → Known → Type 0
HasLearned agrees k = agrees → k.read ≡ agreed_by k.seen
