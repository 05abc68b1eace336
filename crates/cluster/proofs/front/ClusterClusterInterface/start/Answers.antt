use Rattle.cluster.proofs.Stores.{agents_ok, begun_ok, failed_err}
use Rattle.cluster.proofs.front.ClusterClusterInterface.start.Goals as goal

pub returns-clause-begun : goal.returns-clause-begun
returns-clause-begun g c = begun_ok _ c.args.keepers c.args.agents c.new.result c.new.ensures.begun c.requires.some c.requires.most c.requires.few c.requires.unarmed

pub returns-clause-agents : goal.returns-clause-agents
returns-clause-agents g c = agents_ok _ c.args.keepers c.args.agents c.new.result c.new.ensures.begun

pub returns-clause-cause : goal.returns-clause-cause
returns-clause-cause g c = failed_err _ c.args.keepers c.new.result c.new.ensures.back
