-- The item that is added tells of a turn in which the frame was taken.
use Rattle.std.proofs.Common.{List, Some, ap, arith, inr, map, refl, subst, sym, ◌∙◌}
use Rattle.peer_frames.specs.Spelling.{Accepts}
use Rattle.turn_lock.specs.Lists.{EachOnce, numbers}
use Rattle.node_service.specs.Answering.{peers_of}
use Rattle.node_service.specs.Processes.{Running}
use Rattle.node_service.specs.Sending.{SendsAll}
use Rattle.node_connections.specs.declared.item.Taken.{Taken}
use Rattle.node_connections.specs.Journals.{IsShared, Shared, opens}
use Rattle.node_connections.specs.Turning.{AddsFrame}
use Rattle.node_connections.proofs.Journals.{adds_frame, adds_taken, count_more, logged, once_count, shared_on}
use Rattle.node_connections.proofs.shared.SharedNode.take_frame.Goals as goal

pub returns-in_default-clause-taken : goal.returns-in_default-clause-taken
returns-in_default-clause-taken g c =
    inr (refl, subst (λ (s : Shared _). EachOnce (numbers opens s.items)) c.self.view_is (subst EachOnce (sym c.self.invariant.numbered) (once_count c.self.inside.count)))

pub invariant_of-self : goal.invariant_of-self
invariant_of-self g c =
    let i = c.self.inside in let tick = c.tick-due in let take = c.take_frame-answer in let send = c.send_all-sent in
    let sends = subst (λ (ports : List _). SendsAll ports take.new.self.host (g.D.Dialer.state i.dialer) send.result send.new.self.host (g.D.Dialer.state send.new.dialer)) c.as_slice.ensures.value send.ensures.sent in
    let accepts = subst (λ (q : _). Accepts q c.args.frame.now) (sym (tick.ensures.peers ∙ ap (λ (s : Shared _). peers_of s.running.host) c.self.view_is)) c.requires in
    shared_on g.D.Dialer.state _ c.args.now_ms c.args.word tick.result (Some (record { number = c.in-Some.number; frame = c.of.result; answer = c.of-2.result })) send.result send.new.self send.new.dialer c.in-Some.number _ c.self.invariant
    (record { rung = tick.new.self; rings = tick.ensures.rings; heard = take.new.self; takes = rw (c.of.ensures, c.of-2.ensures) (accepts, take.ensures.taken); sends = sends; alarm = send.ensures.alarm })
    (send.ensures.peers ∙ (take.ensures.peers ∙ tick.ensures.peers)) (count_more i.count c.in-Some.number (omega (arith, c.in-Some.ensures))) (logged _ _ _ _ c.and-self-inside.ensures)

pub returns-clause-taken : goal.returns-clause-taken
returns-clause-taken g c =
    let old = map (λ p. p.0) c.self.inside.journal.items in let new = map (λ p. p.0) c.and-self-inside.result.items in
    let taken : Taken = record { number = c.in-Some.number; frame = c.of.result; answer = c.of-2.result } in
    subst (λ (s : Shared _). AddsFrame c.args.frame.now c.take_frame-answer.result s.items new) c.self.view_is
    (adds_frame c.args.frame.now c.take_frame-answer.result old new
    (adds_taken c.args.frame.now c.take_frame-answer.result taken old new c.args.now_ms c.args.word c.tick-due.result c.send_all-sent.result c.in-Some.number
    (logged c.self.inside.journal.items c.and-self-inside.result.items _ _ c.and-self-inside.ensures) (invariant_of-self g c).numbered c.of.ensures c.of-2.ensures))
