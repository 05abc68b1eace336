use Rattle.std.proofs.Common.{◌≡◌, ◌-◌, ◌≤◌}
use Rattle.dns_server.specs.declared.packets.DnsCause.TheVariants as c
use Rattle.dns_server.specs.Cached.{AllHold}
use Rattle.dns_server.specs.Served.{Served}
use Rattle.dns_server.proofs.packets.serve.Given as goal

abbrev pub invariant-loop-taken : goal.invariant-loop-taken
invariant-loop-taken g l = record {
  served : Served (g.P.DatagramPort.state l.fn.port) (g.P.DatagramPort.state l.port) (g.C.CatalogReader.commands l.fn.catalog) (g.C.CatalogReader.commands l.catalog) l.taken c.Done;
  cache : AllHold (g.C.CatalogReader.commands l.catalog) l.cache.places.items;
  few : l.taken ≤ l.packets;
  faults : (g.P.DatagramPort.state l.port).faults ≡ (g.P.DatagramPort.state l.fn.port).faults;
}

abbrev pub decreases-loop-taken : goal.decreases-loop-taken
decreases-loop-taken g l = l.packets - l.taken
