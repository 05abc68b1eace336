use Rattle.std.proofs.Common.{◌∙◌, List, subst}
use Rattle.datagram_outside.specs.Ports.{PortState}
use Rattle.http_front.specs.Names.{GivesPortBack}
use Rattle.http_front.proofs.Counts.{ends_bound, was_bound}
use Rattle.http_front.proofs.Ends.{back_of, front_first, front_of, lined_of, served_of}
use Rattle.http_front.proofs.Texts.{part_whole}
use Rattle.http_front.proofs.run.serve_begun.Goals as goal

pub returns-in-Ok-serve_closing-clause-served : goal.returns-in-Ok-serve_closing-clause-served
returns-in-Ok-serve_closing-clause-served g c =
    served_of c.args.options.now g.J.ClusterSize.size c.requires.fits (g.W.Words.draws c.serve_closing.new.words) (g.L.Listener.closed c.args.listener.now) (g.L.Listener.closed c.listen.new.listener) (g.L.Listener.closed c.serve_closing.new.listener) c.listen.ensures.closed
    (g.Sp.Spawner.faults c.args.spawner.now) (g.Sp.Spawner.faults c.serve_closing.new.spawner) (g.L.Listener.given c.serve_closing.new.listener) c.in-Ok-serve_closing.cluster c.in-Ok-serve_closing.ended
    (g.L.Listener.listens_on c.serve_closing.new.listener) (◌∙◌ {a = g.L.Listener.listens_on c.serve_closing.new.listener} c.in-Ok-serve_closing.ensures.port c.in-Ok.ensures.port)
    (g.D.Datagrams.closed c.args.datagrams.now) (g.D.Datagrams.closed c.listen.new.datagrams) (g.D.Datagrams.closed c.serve_closing.new.datagrams) c.in-Ok.ensures.kept c.in-Ok-serve_closing.short
    (g.Si.Sink.held c.args.sink.now) (g.Si.Sink.held c.listen.new.sink) (g.Si.Sink.held c.end.new.sink) c.end.result c.end.ensures.serves c.in-Ok-serve_closing.ensures.links c.in-Ok-serve_closing.ensures.count c.in-Ok-serve_closing.ensures.names c.in-Ok.ensures.text c.end.ensures.text c.end.ensures.report c.end.ensures.whole

pub returns-in-Ok-serve_closing-clause-back : goal.returns-in-Ok-serve_closing-clause-back
returns-in-Ok-serve_closing-clause-back g c =
    back_of c.args.options.now g.J.ClusterSize.size c.requires.fits (g.W.Words.draws c.serve_closing.new.words) (g.L.Listener.closed c.args.listener.now) (g.L.Listener.closed c.listen.new.listener) (g.L.Listener.closed c.serve_closing.new.listener) c.listen.ensures.closed
    (g.Sp.Spawner.faults c.args.spawner.now) (g.Sp.Spawner.faults c.serve_closing.new.spawner) (g.L.Listener.given c.serve_closing.new.listener) c.in-Ok-serve_closing.cluster c.in-Ok-serve_closing.ended c.end.ensures.serves c.in-Ok-serve_closing.ensures.links

pub returns-in-Ok-serve_closing-clause-part : goal.returns-in-Ok-serve_closing-clause-part
returns-in-Ok-serve_closing-clause-part g c =
    front_of c.args.options.now g.J.ClusterSize.size c.requires.fits (g.W.Words.draws c.serve_closing.new.words) (g.L.Listener.closed c.args.listener.now) (g.L.Listener.closed c.listen.new.listener) (g.L.Listener.closed c.serve_closing.new.listener) c.listen.ensures.closed
    (g.Sp.Spawner.faults c.args.spawner.now) (g.Sp.Spawner.faults c.serve_closing.new.spawner) (g.L.Listener.given c.serve_closing.new.listener) c.in-Ok-serve_closing.cluster c.in-Ok-serve_closing.ended
    (g.Si.Sink.held c.args.sink.now) (g.Si.Sink.held c.listen.new.sink) (g.Si.Sink.held c.end.new.sink) c.end.result c.end.ensures.serves c.in-Ok.ensures.text c.end.ensures.part

pub returns-in-Ok-serve_closing-clause-lined : goal.returns-in-Ok-serve_closing-clause-lined
returns-in-Ok-serve_closing-clause-lined g c =
    lined_of c.args.options.now g.J.ClusterSize.size c.requires.fits (g.W.Words.draws c.serve_closing.new.words) (g.L.Listener.closed c.args.listener.now) (g.L.Listener.closed c.listen.new.listener) (g.L.Listener.closed c.serve_closing.new.listener) c.listen.ensures.closed
    (g.Sp.Spawner.faults c.args.spawner.now) (g.Sp.Spawner.faults c.serve_closing.new.spawner) (g.L.Listener.given c.serve_closing.new.listener) c.in-Ok-serve_closing.cluster c.in-Ok-serve_closing.ended
    (g.Si.Sink.held c.args.sink.now) (g.Si.Sink.held c.listen.new.sink) (g.Si.Sink.held c.end.new.sink) c.end.result c.end.ensures.serves c.in-Ok.ensures.text c.end.ensures.lined

pub returns-in-Err-serve_closing-clause-part : goal.returns-in-Err-serve_closing-clause-part
returns-in-Err-serve_closing-clause-part g c = front_first c.args.options.now _ _ (part_whole _ _ _ c.in-Ok.ensures.text)

pub returns-in-Ok-serve_closing-clause-ports : goal.returns-in-Ok-serve_closing-clause-ports
returns-in-Ok-serve_closing-clause-ports g c =
    subst (λ (l : List PortState). GivesPortBack c.args.options.now.dns l (g.D.Datagrams.closed c.serve_closing.new.datagrams)) c.in-Ok.ensures.kept c.serve_closing.ensures.back

pub returns-in-Err-serve_closing-clause-ports : goal.returns-in-Err-serve_closing-clause-ports
returns-in-Err-serve_closing-clause-ports g c =
    subst (λ (l : List PortState). GivesPortBack c.args.options.now.dns l (g.D.Datagrams.closed c.serve_closing.new.datagrams)) c.in-Ok.ensures.kept c.serve_closing.ensures.back

pub returns-in-Ok-serve_closing-clause-binds : goal.returns-in-Ok-serve_closing-clause-binds
returns-in-Ok-serve_closing-clause-binds g c =
    ends_bound c.end.result _ _ (g.D.Datagrams.faults c.args.datagrams.now) (g.D.Datagrams.faults c.serve_closing.new.datagrams) c.end.ensures.cause
    (◌∙◌ {a = g.D.Datagrams.faults c.serve_closing.new.datagrams} c.serve_closing.ensures.binds c.in-Ok.ensures.binds)

pub returns-in-Ok-serve_closing-clause-unbound : goal.returns-in-Ok-serve_closing-clause-unbound
returns-in-Ok-serve_closing-clause-unbound g c = was_bound c.end.result _ _ _ c.end.ensures.cause
