use Rattle.cluster_works.specs.Working.{whole}
use Rattle.cluster_works.proofs.Finding.{none_due}
use Rattle.cluster_works.proofs.late.late_due.Goals as goal

pub returns-in-None-clause-found : goal.returns-in-None-clause-found
returns-in-None-clause-found g c = none_due (whole c.args.servers.now c.args.requests.now) c.args.server c.requires.none c.requires.applied c.in-None.ensures.none
