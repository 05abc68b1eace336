use Rattle.std.proofs.Common.{◌≡◌, [], refl, arith}
use Rattle.cluster_requests.specs.Contents.{stand_of}
use Rattle.cluster_requests.specs.Requests.{cluster_of}
use Rattle.cluster_works.specs.Working.{closed, whole}
use Rattle.cluster_works.proofs.Dues.{answer_done, answer_told, apply_done, apply_due, close_done, closed_told, hold_done, hold_due, restand_is, restand_stands}
use Rattle.cluster_works.proofs.Watched.{same_leave, woken_stands}
use Rattle.cluster_works.proofs.works.perform.Goals as goal

pub apply_next-requires-clause-next : goal.apply_next-requires-clause-next
apply_next-requires-clause-next g c = apply_due c.args.watch.now (whole c.args.servers.now c.args.requests.now) c.args.server c.args.work c.requires.due c.in-Apply.is

pub returns-in-Answer-clause-done : goal.returns-in-Answer-clause-done
returns-in-Answer-clause-done g c =
    answer_done c.args.watch.now (whole c.args.servers.now c.args.requests.now) (whole c.args.servers.now c.answer.new.requests) c.args.server c.args.work c.in-Answer.number c.in-Answer.kind c.in-Answer.content c.answer.result c.requires.due c.in-Answer.is
    (answer_told c.args.watch.now c.args.servers.now c.args.requests.now c.answer.new.requests c.args.server c.in-Answer.number c.in-Answer.kind c.knows_leader-known.result c.last_contact-contact.result c.in-Answer.content c.answer.result c.knows_leader-known.ensures c.last_contact-contact.ensures c.answer.ensures.done)

pub returns-in-Answer-clause-stands : goal.returns-in-Answer-clause-stands
returns-in-Answer-clause-stands g c = c.answer.ensures.stands c.args.servers.now.world c.args.servers.now.servers c.requires.stands

pub returns-in-Hold-clause-done : goal.returns-in-Hold-clause-done
returns-in-Hold-clause-done g c =
    hold_done c.args.watch.now (whole c.args.servers.now c.args.requests.now) (whole c.args.servers.now c.restand.new.self) c.args.server c.args.work c.in-Hold.number c.in-Hold.stand c.requires.due c.in-Hold.is
    (restand_is c.args.watch.now c.args.servers.now.world c.args.servers.now.servers c.args.requests.now c.restand.new.self (whole c.args.servers.now c.args.requests.now) c.in-Hold.number (stand_of c.in-Hold.stand) c.requires.stands refl c.restand.ensures)

pub returns-in-Hold-clause-stands : goal.returns-in-Hold-clause-stands
returns-in-Hold-clause-stands g c =
    let h = hold_due c.args.watch.now (whole c.args.servers.now c.args.requests.now) c.args.server c.args.work c.in-Hold.number c.in-Hold.stand c.requires.due c.in-Hold.is in
    let woken = woken_stands c.args.watch.now c.wake.new.self c.args.servers.now.world c.args.servers.now.servers c.args.requests.now c.wake.ensures.kept c.wake.ensures.servers (same_leave c.args.watch.now c.wake.new.self c.wake.ensures.lines)
    (omega (arith, c.wake.ensures.seen, c.requires.stands.watching.1)) c.requires.stands in
    restand_stands c.wake.new.self c.args.servers.now.world c.args.servers.now.servers c.args.requests.now c.restand.new.self (whole c.args.servers.now c.args.requests.now) c.in-Hold.number (stand_of c.in-Hold.stand) woken refl h.0 h.1 h.2 h.3 h.4 c.wake.ensures.woken c.restand.ensures

pub returns-in-Close-clause-done : goal.returns-in-Close-clause-done
returns-in-Close-clause-done g c =
    close_done c.args.watch.now (whole c.args.servers.now c.args.requests.now) (whole c.args.servers.now c.close.new.requests) c.args.server c.args.work c.in-Close.number c.in-Close.event c.close.result c.requires.due c.in-Close.is
    (closed_told c.args.watch.now (λ w servers. cluster_of w servers [] c.close.new.requests ≡ closed c.in-Close.number c.in-Close.event (cluster_of w servers [] c.args.requests.now)) c.close.result c.args.servers.now.world c.args.servers.now.servers c.close.ensures.done)

pub returns-in-Close-clause-stands : goal.returns-in-Close-clause-stands
returns-in-Close-clause-stands g c = c.close.ensures.stands c.args.servers.now.world c.args.servers.now.servers c.requires.stands

pub returns-in-Apply-clause-done : goal.returns-in-Apply-clause-done
returns-in-Apply-clause-done g c =
    apply_done c.args.watch.now (whole c.args.servers.now c.args.requests.now) (whole c.apply_next.new.servers c.args.requests.now) c.args.server c.args.work c.apply_next.result c.requires.due c.in-Apply.is c.apply_next.ensures.done
