use Rattle.std.proofs.Common.{ap, refl, ◌∙◌}
use Rattle.read_watch.specs.Lines.{line_of}
use Rattle.read_watch.specs.Watch.{Watch}
use Rattle.cluster_works.proofs.Awake.{stay_by}
use Rattle.cluster_works.proofs.InLine.{one_less, rounds_leave}
use Rattle.cluster_works.proofs.watch.Watching.wake_first_round.Goals as goal

pub returns-clause-kept : goal.returns-clause-kept
returns-clause-kept c = stay_by c.args.self.now (record { watch = c.self.inside.watch; seen = c.self.inside.seen }) (record { watch = c.wake_first_round.new.self; seen = c.self.inside.seen }) c.self.view_is refl c.wake_first_round.ensures.kept

pub returns-clause-lines : goal.returns-clause-lines
returns-clause-lines c =
    rounds_leave c.args.self.now (record { watch = c.self.inside.watch; seen = c.self.inside.seen }) (record { watch = c.wake_first_round.new.self; seen = c.self.inside.seen }) c.self.view_is
    c.wake_first_round.ensures.positions c.wake_first_round.ensures.rounds

pub returns-clause-none : goal.returns-clause-none
returns-clause-none c = λ e. ap (λ (w : Watch). line_of w.rounds c.args.server) (c.wake_first_round.ensures.none e).1 ∙ (c.wake_first_round.ensures.none e).0

pub returns-clause-shorter : goal.returns-clause-shorter
returns-clause-shorter c =
    one_less c.args.self.now (record { watch = c.self.inside.watch; seen = c.self.inside.seen }) (record { watch = c.wake_first_round.new.self; seen = c.self.inside.seen }) c.args.server c.wake_first_round.result c.self.view_is
    c.wake_first_round.ensures.first
