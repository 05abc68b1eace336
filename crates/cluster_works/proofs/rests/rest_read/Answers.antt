use Rattle.std.proofs.Common.{◌≡◌, Some, refl, sym, subst}
use Rattle.cluster_works.specs.Looking.{numbered_in}
use Rattle.cluster_works.specs.Working.{whole}
use Rattle.cluster_works.proofs.Slept.{slept_stands}
use Rattle.cluster_works.proofs.rests.rest_read.Goals as goal

pub returns-in-Ok : goal.returns-in-Ok
returns-in-Ok g c =
    let w = c.in-Some.ensures in
    let held = subst (λ k. numbered_in k c.args.requests.now.held ≡ Some c.args.held.now) (sym c.number.ensures) c.requires.held in
    slept_stands c.args.watch.now c.sleep.new.self c.args.servers.now.world c.args.servers.now.servers c.args.requests.now (whole c.args.servers.now c.args.requests.now) c.args.server
    c.args.held.now c.in-Some.query.now w.0 w.1 w.2 w.3 c.in-Some.deadline c.number.result c.in-Ok.chans
    c.requires.stands refl c.requires.none held c.requires.here w.4 w.5 c.in-Ok.ensures.chans
    c.sleep.ensures.kept c.sleep.ensures.slept c.sleep.ensures.rests c.sleep.ensures.servers c.sleep.ensures.lines c.sleep.ensures.seen
