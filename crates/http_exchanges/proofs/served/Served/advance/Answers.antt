use Rattle.std.proofs.Common.{arith}
use Rattle.http_exchanges.proofs.Clocks.{goes_nowhere}
use Rattle.http_exchanges.proofs.served.Served.advance.Goals as goal

pub returns-then-ms-eq0-clause-time : goal.returns-then-ms-eq0-clause-time
returns-then-ms-eq0-clause-time g c = goes_nowhere c.args.self.now.last_ms c.args.now _ (let s = c.saturating_sub.ensures in let m = c.min-ms.ensures in let z = c.if-ms-eq0.true in omega (arith, s, m, z))
