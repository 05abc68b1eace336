use Rattle.std.proofs.Common.{◌≡◌, ◌++◌, sym, ap, ◌∙◌, subst}
use Rattle.turn_lock.specs.Rule.{pooled}
use Rattle.cluster_rules.specs.Sound.{IsAmong}
use Rattle.serve_outside.specs.Tasks.{note_of}
use Rattle.http_exchanges.specs.Boards.{known}
use Rattle.http_exchanges.specs.Jobs.{connection_of}
use Rattle.http_exchanges.specs.Knowing.{Known, known_by}
use Rattle.http_connections.proofs.Runs.{ends_grown, is_served, told_before, told_now}
use Rattle.http_connections.proofs.finish.finish_one.Goals as goal

pub returns-clause-told : goal.returns-clause-told
returns-clause-told g c =
    let own = known c.finish_task-link.result.pass in
    told_before c.args.pass.now.seat.me.0.told own.told c.give_back.new.pass.seat.me.0.told own.seen c.give_back.ensures.told

pub returns-clause-served : goal.returns-clause-served
returns-clause-served g c =
    let state = g.L.Link.Link.state in let job = (note_of c.args.task).0.value in let done = c.finish_task-link.result in let s = c.requires.started in let e = c.finish_task-link.ensures in
    let told = c.give_back.new.pass.seat.me.0.told in let own = known done.pass in
    let served = is_served g.C.SharedCluster.shows g.C.SharedCluster.agrees g.C.SharedCluster.agents (g.W.Words.draws c.args.words.now) (λ seen. IsAmong seen told) (connection_of state job) (state done.link) (known_by done.pass done.viewer) done.cause done.requests
    (told_now (c.args.pass.now.seat.me.0.told ++ own.told) told own.seen c.give_back.ensures.told) e.3 s.unasked s.new s.agent s.drawn e.1 e.2 in record {
      link = state done.link;
      why = done.cause;
      is = served.0;
      own = subst (λ (k : Known). (known c.give_back.new.pass).mine ≡ (known c.args.pass.now).mine ++ k.mine) (sym served.1) c.give_back.ensures.mine;
      are = c.close.ensures.closed;
      short_is = c.is_short.ensures;
    }

pub returns-clause-shares : goal.returns-clause-shares
returns-clause-shares g c =
    let state = g.L.Link.Link.state in let done = c.finish_task-link.result in let e = c.finish_task-link.ensures in
    let grown = ends_grown (connection_of state (note_of c.args.task).0.value) g.C.SharedCluster.shows g.C.SharedCluster.agrees done.cause (state done.link) (known_by done.pass done.viewer) done.requests e.1 in
    c.give_back.ensures.shares ∙ ap (pooled c.args.pass.now.shares) grown.shares
