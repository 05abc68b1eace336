use Rattle.http_front.proofs.Counts.{all_made, counts_keepers, counts_stop}
use Rattle.http_front.proofs.run.serve_sized.Goals as goal

pub returns-in-Ok-begin_over-clause-cause : goal.returns-in-Ok-begin_over-clause-cause
returns-in-Ok-begin_over-clause-cause g c =
    counts_stop c.serve_begun.result (g.L.Listener.faults c.args.listener.now) (g.L.Listener.faults c.serve_begun.new.listener) (g.Si.Sink.faults c.args.sink.now) (g.Si.Sink.faults c.serve_begun.new.sink) c.serve_begun.ensures.cause

pub returns-in-Ok-begin_over-clause-keepers : goal.returns-in-Ok-begin_over-clause-keepers
returns-in-Ok-begin_over-clause-keepers g c =
    counts_keepers c.serve_begun.result (g.Ks.Keepers.faults c.args.keepers.now) (g.Ks.Keepers.faults c.begin_over.new.keepers) (g.L.Listener.faults c.args.listener.now) (g.L.Listener.faults c.serve_begun.new.listener) (g.Si.Sink.faults c.args.sink.now) (g.Si.Sink.faults c.serve_begun.new.sink) c.in-Ok-begin_over.ensures.quiet c.serve_begun.ensures.cause

pub returns-in-Ok-begin_over-clause-untouched : goal.returns-in-Ok-begin_over-clause-untouched
returns-in-Ok-begin_over-clause-untouched g c =
    all_made c.serve_begun.result (g.L.Listener.faults c.args.listener.now) (g.L.Listener.faults c.serve_begun.new.listener) (g.Si.Sink.faults c.args.sink.now) (g.Si.Sink.faults c.serve_begun.new.sink) _ c.serve_begun.ensures.cause
