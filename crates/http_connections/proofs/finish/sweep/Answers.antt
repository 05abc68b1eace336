use Rattle.std.proofs.Common.{◌∙◌, arith, length, List, refl}
use Rattle.cat_model.specs.declared.reply.Mark.{Mark}
use Rattle.cluster_rules.specs.Sound.{IsAmong}
use Rattle.http_connections.proofs.Runs.{joins_later, joins_none, joins_on}
use Rattle.http_connections.proofs.finish.sweep.Goals as goal

pub loop-left-init : goal.loop-left-init
loop-left-init g c =
    let draws = g.W.Words.draws c.args.words.now in
    let knows : List Mark → Type 0 = λ seen. IsAmong seen c.args.pass.now.seat.me.0.told in (
      c.requires.ours,
      refl,
      refl,
      λ seen a. a,
      joins_none g.C.SharedCluster.shows g.C.SharedCluster.agrees g.C.SharedCluster.agents draws knows (g.L.Listener.closed c.args.listener.now) (length c.args.jobs.now.tasks.items) c.args.jobs.now.short c.args.pass.now.seat.me.0.mine,
      c.requires.tasks,
      refl,
      refl,
    )

pub loop-left-preserved : goal.loop-left-preserved
loop-left-preserved g c =
    let shows = g.C.SharedCluster.shows in let agrees = g.C.SharedCluster.agrees in let agents = g.C.SharedCluster.agents in let draws = g.W.Words.draws c.args.words.now in
    let given = g.L.Listener.given in let faults = g.L.Listener.faults in let port = g.L.Listener.listens_on in let closed = g.L.Listener.closed in
    let i = c.loop-left.invariant in
    let knows : List Mark → Type 0 = λ seen. IsAmong seen c.loop-left.pass.seat.me.0.told in let knows' : List Mark → Type 0 = λ seen. IsAmong seen c.sweep_one.new.pass.seat.me.0.told in
    let a = closed c.args.listener.now in let b = closed c.loop-left.listener in let z = closed c.sweep_one.new.listener in
    let mine = c.args.pass.now.seat.me.0.mine in let mine₁ = c.loop-left.pass.seat.me.0.mine in let mine₂ = c.sweep_one.new.pass.seat.me.0.mine in
    let n = length c.args.jobs.now.tasks.items in let m = length c.loop-left.jobs.tasks.items in let o = length c.sweep_one.new.jobs.tasks.items in (
      c.sweep_one.ensures.ours,
      ◌∙◌ {a = given c.sweep_one.new.listener} c.sweep_one.ensures.given i.1,
      ◌∙◌ {a = faults c.sweep_one.new.listener} c.sweep_one.ensures.faults i.2,
      λ seen x. c.sweep_one.ensures.told seen (i.3 seen x),
      joins_on shows agrees agents draws knows' a b z n m o c.args.jobs.now.short c.loop-left.jobs.short c.sweep_one.new.jobs.short mine mine₁ mine₂
          (joins_later shows agrees agents draws draws (λ k w x. x) knows knows' c.sweep_one.ensures.told a b n m c.args.jobs.now.short c.loop-left.jobs.short mine mine₁ i.4) c.sweep_one.ensures.joins,
      c.sweep_one.ensures.tasks,
      ◌∙◌ {a = port c.sweep_one.new.listener} c.sweep_one.ensures.port i.6,
      c.sweep_one.ensures.shares ∙ i.7,
    )

pub sweep_one-requires-clause-few : goal.sweep_one-requires-clause-few
sweep_one-requires-clause-few g c κs within = let e = c.loop-left.invariant.7 in let few = c.requires.few in omega (arith, e, few)
