use Rattle.std.proofs.Common.{[], Option, ap, ◌∙◌, subst}
use Rattle.http_wire.specs.declared.reader.Stop.{Stop}
use Rattle.http_wire.specs.State.{Told}
use Rattle.http_exchanges.specs.Knowing.{known_by}
use Rattle.http_exchanges.specs.Serving.{Connection}
use Rattle.http_exchanges.specs.Stages.{Talks}
use Rattle.http_exchanges.proofs.Exchanges.{begins}
use Rattle.http_exchanges.proofs.Shutting.{ends_shut}
use Rattle.http_exchanges.proofs.job.serve_connection.Goals as goal

pub serve-cause-requires-clause-talks : goal.serve-cause-requires-clause-talks
serve-cause-requires-clause-talks g c =
    let j = c.args.job in let state = g.L.Link.state in let shows = g.C.SharedCluster.shows in let agrees = g.C.SharedCluster.agrees in
    let k : Connection = record { agent = j.agent; draw = j.draw; first = state c.of.result.value; begun = known_by c.of-2.result.value c.of-3.result.value } in
    let told = subst (λ (o : Option Stop). Told [] [] j.reader.held o) c.requires.fresh.0 c.requires.fresh.1 in
    let unshut = ap (λ (l : _). (state l).shut) c.of.ensures ∙ c.requires.unshut in
    subst (λ (l : _). Talks shows agrees k (record { link = state l; reader = j.reader; known = known_by j.pass j.viewer; requests = 0 }) []) c.of.ensures
    (subst (λ (p : _). Talks shows agrees k (record { link = k.first; reader = j.reader; known = known_by p j.viewer; requests = 0 }) []) c.of-2.ensures
    (subst (λ (r : _). Talks shows agrees k (record { link = k.first; reader = j.reader; known = known_by c.of-2.result.value r; requests = 0 }) []) c.of-3.ensures
    (begins shows agrees k j.reader told c.requires.fresh.0 unshut)))

pub returns-clause-ends : goal.returns-clause-ends
returns-clause-ends g c =
    let j = c.args.job in let state = g.L.Link.state in let s = c.serve-cause.new.self in let done = c.end_serving.result in let e = c.end_serving.ensures in
    let of : _ → _ → _ → Connection = λ l p r. record { agent = j.agent; draw = j.draw; first = state l; begun = known_by p r } in
    ends_shut g.C.SharedCluster.shows g.C.SharedCluster.agrees (of c.of.result.value c.of-2.result.value c.of-3.result.value) (state s.link) (known_by s.pass s.viewer) s.requests (known_by done.pass done.viewer) e.grown e.opened e.held
    (of j.link j.pass j.viewer) (state done.link) done.requests c.serve-cause.result done.cause
    (ap (λ (l : _). of l c.of-2.result.value c.of-3.result.value) c.of.ensures ∙ (ap (λ (p : _). of j.link p c.of-3.result.value) c.of-2.ensures ∙ ap (λ (r : _). of j.link j.pass r) c.of-3.ensures)) e.link e.requests e.cause c.serve-cause.ensures.ends
