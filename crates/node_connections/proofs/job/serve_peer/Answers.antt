use Rattle.std.proofs.Common.{◌≡◌, [], false, true, None, ap, subst, sym, ◌∙◌}
use Rattle.turn_lock.specs.Lists.{EachOnce, numbers}
use Rattle.peer_frames.specs.State.{Reader}
use Rattle.node_connections.specs.Boards.{known}
use Rattle.node_connections.specs.Journals.{IsOf, opens}
use Rattle.node_connections.specs.Serving.{Connection, EndsBy}
use Rattle.node_connections.specs.Stages.{Talks}
use Rattle.node_connections.proofs.Exchanges.{begins, ends_shut}
use Rattle.node_connections.proofs.Journals.{once_count}
use Rattle.node_connections.proofs.job.serve_peer.Goals as goal

pub serve-cause-requires-clause-talks : goal.serve-cause-requires-clause-talks
serve-cause-requires-clause-talks g c =
    let j = c.args.job in let state = g.L.Link.state in
    let k : Connection _ = record { peers = c.of-2.result.value.peers; first = state c.of.result.value; begun = known c.of-3.result.value } in
    let reader = subst (λ (r : Reader). j.reader ≡ record { peers = r.peers; passed = 0; held = []; stop = None }) (sym c.of-2.ensures) c.requires.fresh in
    let unshut = subst (λ (l : _). (state l).shut ≡ false) (sym c.of.ensures) c.requires.unshut in
    let of = subst (λ (r : Reader). IsOf r.peers k.begun.seen) (sym c.of-2.ensures) (subst (λ (p : _). IsOf j.reader.peers (known p).seen) (sym c.of-3.ensures) c.requires.of) in
    let once = subst (λ (p : _). EachOnce (numbers opens (known p).seen)) (sym c.of-3.ensures) (subst EachOnce (sym c.requires.told.numbered) (once_count c.requires.told.count)) in
    subst (λ (l : _). Talks k (record { link = state l; reader = j.reader; known = known j.pass; frames = 0 }) []) c.of.ensures
    (subst (λ (p : _). Talks k (record { link = k.first; reader = j.reader; known = known p; frames = 0 }) []) c.of-3.ensures (begins k j.reader reader unshut of once))

pub returns-clause-ends : goal.returns-clause-ends
returns-clause-ends g c =
    let j = c.args.job in let state = g.L.Link.state in let s = c.serve-cause.new.self in let done = c.end_serving.result in let e = c.end_serving.ensures in
    let of : Reader → _ → _ → Connection _ = λ r l p. record { peers = r.peers; first = state l; begun = known p } in
    let same : of c.of-2.result.value c.of.result.value c.of-3.result.value ≡ of j.reader j.link j.pass =
    ap (λ (r : Reader). of r c.of.result.value c.of-3.result.value) c.of-2.ensures ∙ (ap (λ (l : _). of j.reader l c.of-3.result.value) c.of.ensures ∙ ap (λ (p : _). of j.reader j.link p) c.of-3.ensures) in
    let shut = ends_shut (of c.of-2.result.value c.of.result.value c.of-3.result.value) c.serve-cause.result (state s.link) (known s.pass) s.frames c.serve-cause.ensures.ends in
    let here = subst (λ (k : Connection _). EndsBy k c.serve-cause.result (record (state s.link) { shut = true }) (known s.pass) s.frames) same shut in
    rw (e.frames.1, e.frames.0, e.link, e.pass) here
