use Rattle.std.proofs.Common.{ap}
use Rattle.catalog_top.specs.Outside.{output_of, outside_of}
use Rattle.catalog_top.proofs.Serving.{ends_short}
use Rattle.catalog_top.proofs.program.served.Goals as goal

pub returns-in-Err : goal.returns-in-Err
returns-in-Err g c = (
  ends_short c.args.options.now
      (outside_of g.L.Listener g.W.Words g.Sp.Spawner g.Ks.Keepers g.D.Datagrams c.args.listener.now c.args.draws.now c.args.spawner.now c.args.keepers.now c.args.datagrams.now)
      (outside_of g.L.Listener g.W.Words g.Sp.Spawner g.Ks.Keepers g.D.Datagrams c.serve-ended.new.listener c.serve-ended.new.words c.serve-ended.new.spawner c.serve-ended.new.keepers c.serve-ended.new.datagrams)
      (output_of g.Si.Sink c.args.sink.now) (output_of g.Si.Sink c.serve-ended.new.sink) _
      c.in-Err.why c.from.result c.from.ensures c.in-Err.ensures.part c.in-Err.ensures.lined c.in-Err.ensures.cause c.in-Err.ensures.keepers c.in-Err.ensures.binds c.in-Err.ensures.untouched
      (λ why. let u = c.in-Err.ensures.unbound why in record { unwritten = ap (λ (s : _). output_of g.Si.Sink s) u.0; given = u.3; closed = u.4; draws = ap (λ (w : _). g.W.Words.draws w) u.1; spawns = ap (λ (s : _). g.Sp.Spawner.faults s) u.2; ports = u.5 }),
  c.in-Err.ensures.back,
  c.in-Err.ensures.ports,
)

pub returns-in-Ok : goal.returns-in-Ok
returns-in-Ok g c =
    ((c.in-Ok.ensures.served, c.in-Ok.ensures.cause, c.in-Ok.ensures.keepers, c.in-Ok.ensures.binds), c.in-Ok.ensures.back, c.in-Ok.ensures.ports)
