use Rattle.http_exchanges.proofs.Clocks.{settles}
use Rattle.http_exchanges.proofs.served.Served.settle.Goals as goal

pub returns-clause-settled : goal.returns-clause-settled
returns-clause-settled g c = settles g.C.SharedCluster.marks g.C.SharedCluster.idle c.settle.result c.args.self.now.cluster c.settle.new.self c.settle.ensures.quiet c.settle.ensures.unticked c.settle.ensures.delivered
