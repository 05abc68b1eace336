use Rattle.std.proofs.Common.{refl}
use Rattle.cluster_works.specs.Looking.{is_number_late}
use Rattle.cluster_works.proofs.Finding.{some_awake}
use Rattle.cluster_works.proofs.Looked.{late_none}
use Rattle.cluster_works.proofs.late.late_number.Goals as goal

pub returns-clause-some : goal.returns-clause-some
returns-clause-some g c = some_awake (is_number_late c.args.servers.now c.args.requests.now.held c.args.server) c.awake.result.now c.late_awake.result c.late_awake.ensures

pub returns-clause-none : goal.returns-clause-none
returns-clause-none g c =
    late_none c.args.watch.now c.args.servers.now c.args.requests.now c.args.server c.asked.result c.awake.result.now c.late_awake.result c.requires.stands c.requires.awake c.asked.ensures
    (c.if-not-covers.ensures refl) c.awake.ensures c.late_awake.ensures
