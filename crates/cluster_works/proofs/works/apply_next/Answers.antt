use Rattle.cluster_works.specs.Working.{whole}
use Rattle.cluster_works.proofs.Dues.{applies_next, none_before}
use Rattle.cluster_works.proofs.Kept.{applied_stands}
use Rattle.cluster_works.proofs.works.apply_next.Goals as goal

pub apply-requires-clause-next : goal.apply-requires-clause-next
apply-requires-clause-next g c = applies_next c.args.watch.now (whole c.args.servers.now c.args.requests.now) c.args.server c.requires.next

pub returns-clause-stands : goal.returns-clause-stands
returns-clause-stands g c =
    applied_stands c.args.watch.now c.args.servers.now c.apply.new.self c.args.requests.now c.args.server c.fire.new.self _ c.requires.stands
    (applies_next c.args.watch.now (whole c.args.servers.now c.args.requests.now) c.args.server c.requires.next) (none_before c.args.watch.now (whole c.args.servers.now c.args.requests.now) c.args.server c.requires.next)
    c.in_ok-fired.ensures.ok c.in_ok-fired.ensures.spares c.fire.ensures.kept c.fire.ensures.slept c.fire.ensures.servers c.fire.ensures.lines c.fire.ensures.seen
