use Rattle.std.proofs.Common.{sym}
use Rattle.reply_body.proofs.Locking.{some_locking, no_locking}
use Rattle.reply_body.proofs.others.locking_place.Goals as goal

pub returns-in-Some : goal.returns-in-Some
returns-in-Some c = some_locking c.args.key.now c.args.ops.now c.in-Some.at (sym c.in-Some.ensures)

pub returns-in-None : goal.returns-in-None
returns-in-None c = no_locking c.args.key.now c.args.ops.now (sym c.in-None.ensures)
