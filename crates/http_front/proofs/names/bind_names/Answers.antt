use Rattle.std.proofs.Common.{Option, Some, refl, sym, subst}
use Rattle.http_front.specs.declared.options.Dns.{Dns}
use Rattle.http_front.specs.Names.{IsBound}
use Rattle.http_front.proofs.names.bind_names.Goals as goal

pub returns-in-Ok-clause-bound : goal.returns-in-Ok-clause-bound
returns-in-Ok-clause-bound g c =
    subst (λ (d : Option Dns). IsBound (λ p. g.D.Port.DatagramPort.state p) d (Some (record { port = c.in-Ok.port; packets = c.most.result }))) (sym c.in-Some.is)
    (record { port = c.in-Ok.port; packets = c.most.result }, refl, c.in-Ok.ensures.new, c.most.ensures)
