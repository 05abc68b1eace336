use Rattle.std.proofs.Common.{◌+◌, [], take, sym, subst, ◌∙◌, arith}
use Rattle.dns_server.specs.declared.packets.DnsCause.{DnsCause}
use Rattle.dns_server.specs.Served.{Served, reply_by}
use Rattle.dns_server.proofs.Rounds.{came_and_went, one_failing, one_more}
use Rattle.dns_server.proofs.packets.serve.Goals as goal

pub returns-in-Err-clause-served : goal.returns-in-Err-clause-served
returns-in-Err-clause-served g c =
    subst (λ (cause : DnsCause). Served (g.P.DatagramPort.state c.args.port.now) (g.P.DatagramPort.state c.answer.new.port) (g.C.CatalogReader.commands c.args.catalog.now) (g.C.CatalogReader.commands c.answer.new.catalog) (c.loop-taken.taken + 1) cause)
    (sym c.cause_of.ensures)
    (one_failing (g.P.DatagramPort.state c.args.port.now) (g.P.DatagramPort.state c.loop-taken.port) (g.P.DatagramPort.state c.answer.new.port)
    (g.C.CatalogReader.commands c.args.catalog.now) (g.C.CatalogReader.commands c.loop-taken.catalog) (g.C.CatalogReader.commands c.answer.new.catalog)
    c.loop-taken.taken (record { peer = g.P.DatagramPort.number c.in-Ok.peer; packet = take c.in-Ok.size c.receive.new.into }) c.in-Err.fail
    c.loop-taken.invariant.served
    (came_and_went (g.P.DatagramPort.state c.loop-taken.port) (g.P.DatagramPort.state c.receive.new.self) (g.P.DatagramPort.state c.answer.new.port)
    c.receive.new.into c.in-Ok.size (g.P.DatagramPort.number c.in-Ok.peer) [] c.in-Ok.ensures.came c.in-Ok.ensures.went c.in-Err.ensures.err)
    c.in-Err.ensures.grown)

pub loop-taken-preserved : goal.loop-taken-preserved
loop-taken-preserved g c = record {
  served = one_more (g.P.DatagramPort.state c.args.port.now) (g.P.DatagramPort.state c.loop-taken.port) (g.P.DatagramPort.state c.answer.new.port)
      (g.C.CatalogReader.commands c.args.catalog.now) (g.C.CatalogReader.commands c.loop-taken.catalog) (g.C.CatalogReader.commands c.answer.new.catalog)
      c.loop-taken.taken (record { peer = g.P.DatagramPort.number c.in-Ok.peer; packet = take c.in-Ok.size c.receive.new.into })
      c.loop-taken.invariant.served
      (came_and_went (g.P.DatagramPort.state c.loop-taken.port) (g.P.DatagramPort.state c.receive.new.self) (g.P.DatagramPort.state c.answer.new.port)
      c.receive.new.into c.in-Ok.size (g.P.DatagramPort.number c.in-Ok.peer)
      (reply_by (g.C.CatalogReader.commands c.answer.new.catalog) (record { peer = g.P.DatagramPort.number c.in-Ok.peer; packet = take c.in-Ok.size c.receive.new.into }))
      c.in-Ok.ensures.came c.in-Ok.ensures.went c.in_default-answer.ensures.ok)
      c.in_default-answer.ensures.grown;
  cache = c.in_default-answer.ensures.cache;
  few = omega arith;
  faults = c.in_default-answer.ensures.sent ∙ (c.in-Ok.ensures.cause.ok ∙ c.loop-taken.invariant.faults);
}
