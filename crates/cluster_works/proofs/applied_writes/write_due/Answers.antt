use Rattle.std.proofs.Common.{arith}
use Rattle.cluster_works.proofs.applied_writes.write_due.Goals as goal

pub acked-requires-clause-last : goal.acked-requires-clause-last
acked-requires-clause-last g c = omega (arith, c.requires.awaited, c.requires.applied)
