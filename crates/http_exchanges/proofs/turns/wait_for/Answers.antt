use Rattle.std.proofs.Common.{◌∙◌, refl}
use Rattle.http_exchanges.specs.Knowing.{known_by}
use Rattle.http_exchanges.proofs.OwnTurns.{looks_first, looks_next}
use Rattle.http_exchanges.proofs.turns.wait_for.Goals as goal

pub loop-init : goal.loop-init
loop-init g c =
    ((refl, refl), c.requires.free, looks_first g.C.SharedCluster.shows c.args.turned.number c.args.turned.got (known_by c.args.pass.now c.args.viewer.now) c.requires.stands, c.requires.learned, refl, refl)

pub loop-preserved : goal.loop-preserved
loop-preserved g c =
    let i = c.loop.invariant in let n = c.in-Ok.ensures in
    let looks = looks_next g.C.SharedCluster.shows c.args.turned.number c.args.turned.got (known_by c.args.pass.now c.args.viewer.now) c.loop.number c.loop.got (known_by c.loop.pass c.loop.viewer) c.in-Ok.turned.number c.in-Ok.turned.got
    (known_by c.next_turn.new.pass c.next_turn.new.viewer) c.in-NotYet.is n.number i.2 n.grown n.stands in
    ((n.own.0 ∙ i.0.0, n.own.1 ∙ i.0.1), n.free, looks, n.learned, c.if-waits_in_vain.ensures.still refl ∙ i.4, n.opened ∙ i.5)
