use Rattle.std.proofs.Common.{arith}
use Rattle.turn_lock.proofs.lock.HistoryLock.take.Goals as goal

pub returns-clause-whole : goal.returns-clause-whole
returns-clause-whole g c = λ all. let own = c.args.pass.now.owned in c.wait_turn-state.ensures.whole (omega (arith, all, own))
