-- The item that is added tells of a turn without a frame.
use Rattle.std.proofs.Common.{List, None, ap, append-nil, map, refl, subst, sym, ◌∙◌, ◌++◌}
use Rattle.node_service.specs.Sending.{SendsAll}
use Rattle.node_connections.specs.Journals.{IsShared, Shared, count_to}
use Rattle.node_connections.specs.Turning.{AddsTurn}
use Rattle.node_connections.proofs.Journals.{adds_turn, logged, shared_on}
use Rattle.node_connections.proofs.shared.SharedNode.keep_time.Goals as goal

pub invariant_of-self : goal.invariant_of-self
invariant_of-self g c =
    let i = c.self.inside in let send = c.send_all-sent in
    let sends = subst (λ (ports : List _). SendsAll ports c.tick-due.new.self.host (g.D.Dialer.state i.dialer) send.result send.new.self.host (g.D.Dialer.state send.new.dialer)) c.as_slice.ensures.value send.ensures.sent in
    shared_on g.D.Dialer.state _ c.args.now_ms c.args.word c.tick-due.result None send.result send.new.self send.new.dialer i.count _ c.self.invariant
    (record { rung = c.tick-due.new.self; rings = c.tick-due.ensures.rings; heard = c.tick-due.new.self; takes = refl; sends = sends; alarm = send.ensures.alarm })
    (send.ensures.peers ∙ c.tick-due.ensures.peers) (sym (append-nil (count_to i.count))) (logged _ _ _ _ c.and-self-inside.ensures)

pub returns : goal.returns
returns g c =
    let old = map (λ p. p.0) c.self.inside.journal.items in let new = map (λ p. p.0) c.and-self-inside.result.items in
    subst (λ (s : Shared _). AddsTurn s.items new) c.self.view_is
    (adds_turn old new c.args.now_ms c.args.word c.tick-due.result c.send_all-sent.result c.self.inside.count (logged c.self.inside.journal.items c.and-self-inside.result.items _ _ c.and-self-inside.ensures) (invariant_of-self g c).numbered)
