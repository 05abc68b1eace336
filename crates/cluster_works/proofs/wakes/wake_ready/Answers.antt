use Rattle.cluster_works.proofs.Woken.{is_server, only_awake, wakes_stand}
use Rattle.cluster_works.proofs.wakes.wake_ready.Goals as goal

pub wake_over-requires : goal.wake_over-requires
wake_over-requires g c = is_server c.args.watch.now c.args.servers.now.world c.args.servers.now.servers c.args.requests.now c.args.server c.requires.stands c.requires.server

pub returns-clause-stands : goal.returns-clause-stands
returns-clause-stands g c =
    wakes_stand c.args.servers.now c.args.requests.now c.args.server c.clock.result c.applied.result c.args.watch.now c.wake_over.new.self c.wake_reached.new.self c.wake_rounds.new.watch
    (record {
      clock_is = c.clock.ensures;
      applied_is = c.applied.ensures;
      over_kept = c.wake_over.ensures.kept;
      over_slept = c.wake_over.ensures.slept;
      over_lines = c.wake_over.ensures.lines;
      reached_kept = c.wake_reached.ensures.kept;
      reached_lines = c.wake_reached.ensures.lines;
      reached_later = c.wake_reached.ensures.later;
      kept = c.wake_rounds.ensures.kept;
      lines = c.wake_rounds.ensures.lines;
      later = c.wake_rounds.ensures.later;
    })
    c.wake_over.ensures.servers c.wake_over.ensures.seen c.wake_reached.ensures.servers c.wake_reached.ensures.seen c.wake_rounds.ensures.servers c.wake_rounds.ensures.seen c.requires.stands

pub returns-clause-awake : goal.returns-clause-awake
returns-clause-awake g c =
    only_awake c.args.servers.now c.args.requests.now c.args.server c.clock.result c.applied.result c.args.watch.now c.wake_over.new.self c.wake_reached.new.self c.wake_rounds.new.watch
    (record {
      clock_is = c.clock.ensures;
      applied_is = c.applied.ensures;
      over_kept = c.wake_over.ensures.kept;
      over_slept = c.wake_over.ensures.slept;
      over_lines = c.wake_over.ensures.lines;
      reached_kept = c.wake_reached.ensures.kept;
      reached_lines = c.wake_reached.ensures.lines;
      reached_later = c.wake_reached.ensures.later;
      kept = c.wake_rounds.ensures.kept;
      lines = c.wake_rounds.ensures.lines;
      later = c.wake_rounds.ensures.later;
    })
    c.requires.runs c.requires.stands
