use Rattle.dns_server.proofs.Rounds.{none_taken}
use Rattle.dns_server.proofs.packets.serve_anew.Goals as goal

pub returns-in_default-clause-served : goal.returns-in_default-clause-served
returns-in_default-clause-served g c = none_taken (g.P.DatagramPort.state c.args.port.now) (g.C.CatalogReader.commands c.args.catalog.now)

pub returns-in_default-new-clause-served : goal.returns-in_default-new-clause-served
returns-in_default-new-clause-served g c = none_taken (g.P.DatagramPort.state c.args.port.now) (g.C.CatalogReader.commands c.args.catalog.now)
