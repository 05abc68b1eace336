use Rattle.std.proofs.Common.{refl}
use Rattle.cluster_works.proofs.Awake.{others_stay_by}
use Rattle.cluster_works.proofs.InLine.{positions_stay}
use Rattle.cluster_works.proofs.watch.Watching.await_position.Goals as goal

pub returns-clause-kept : goal.returns-clause-kept
returns-clause-kept c = others_stay_by c.args.self.now (record { watch = c.self.inside.watch; seen = c.self.inside.seen }) (record { watch = c.await_position.new.self; seen = c.self.inside.seen }) c.args.number c.self.view_is refl c.await_position.ensures.kept

pub returns-clause-lines : goal.returns-clause-lines
returns-clause-lines c = positions_stay c.args.self.now (record { watch = c.self.inside.watch; seen = c.self.inside.seen }) (record { watch = c.await_position.new.self; seen = c.self.inside.seen }) c.self.view_is c.await_position.ensures.positions c.await_position.ensures.rounds
