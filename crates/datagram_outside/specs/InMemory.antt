-- What a port in memory tells.
use Rattle.std.specs.Prelude.{map, take, Some}
use Rattle.datagram_outside.specs.Ports.{Datagram, PortState}
use Rattle.datagram_outside.specs.declared.mem_port.Packet.{Packet}
use Rattle.datagram_outside.specs.declared.mem_port.MemPort.{MemPort}

abbrev pub datagram_of : Packet → Datagram
datagram_of p = record { peer = p.peer; packet = p.bytes }

abbrev pub told : MemPort → PortState
told port = record {
  given = port.given;
  faults = port.faults;
  came = Some (map datagram_of (take port.given port.script.items));
  went = Some (map datagram_of port.went.items);
}
