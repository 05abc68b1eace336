-- What a job of names that has ended did.
use Rattle.std.specs.Prelude.{ℕ, List}
use Rattle.cat_model.specs.declared.command.Command.{Command}
use Rattle.datagram_outside.specs.Ports.{PortState}
use Rattle.dns_server.specs.declared.packets.DnsEnded.{DnsEnded}
use Rattle.dns_server.specs.Served.{HasReason, Served}

-- Between these states of its port it took packets and sent their replies, of so many that it was to answer. What its
-- viewer had read goes on from this list.
pub record HasAnswered (old new : PortState) (first : List Command) (packets : ℕ) (ended : DnsEnded (List Command)) : Type 0 where
  pub served : Served old new first ended.catalog ended.taken ended.cause
  pub reason : HasReason old new packets ended.taken ended.cause
