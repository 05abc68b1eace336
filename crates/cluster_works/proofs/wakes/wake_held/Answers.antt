use Rattle.cluster_works.proofs.Woken.{roused_awake, roused_stands}
use Rattle.cluster_works.proofs.wakes.wake_held.Goals as goal

pub returns-clause-stands : goal.returns-clause-stands
returns-clause-stands c = λ w servers s.
    roused_stands c.args.server c.take_in.new.watch c.rouse.new.self c.args.requests.now
    (record { kept = c.rouse.ensures.kept; slept = c.rouse.ensures.slept; lines = c.rouse.ensures.lines; servers = c.rouse.ensures.servers; seen = c.rouse.ensures.seen })
    w servers (c.take_in.ensures.stands w servers s)

pub returns-clause-awake : goal.returns-clause-awake
returns-clause-awake c = λ w servers s.
    roused_awake c.args.server c.take_in.new.watch c.rouse.new.self c.args.requests.now
    (record { kept = c.rouse.ensures.kept; slept = c.rouse.ensures.slept; lines = c.rouse.ensures.lines; servers = c.rouse.ensures.servers; seen = c.rouse.ensures.seen })
    w servers (c.take_in.ensures.stands w servers s)
