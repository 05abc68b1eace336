use Rattle.std.proofs.Common.{refl, sym, ap, ◌∙◌, subst}
use Rattle.http_exchanges.specs.Collects.{Collects}
use Rattle.http_exchanges.specs.Turns.{StandsStill}
use Rattle.http_exchanges.proofs.Agreeing.{agreed_collected}
use Rattle.http_exchanges.proofs.Clocks.{still}
use Rattle.http_exchanges.proofs.served.Served.show_and_collect.Goals as goal

pub returns-in-Ok-clause-got : goal.returns-in-Ok-clause-got
returns-in-Ok-clause-got g c =
    let C = g.C.SharedCluster in
    (refl, subst (λ (x : _). Collects C.shows c.args.number c.collect-got.result (C.marks x) (C.marks c.collect-got.new.self.cluster)) c.show.ensures.same c.collect-got.ensures.got)

pub returns-in-Ok-clause-still : goal.returns-in-Ok-clause-still
returns-in-Ok-clause-still g c =
    let C = g.C.SharedCluster in
    subst (λ (x : _). StandsStill c.args.self.now.last_ms c.collect-got.new.self.last_ms (C.marks x) (C.marks c.collect-got.new.self.cluster)) c.show.ensures.same c.collect-got.ensures.still

pub returns-in-Err-clause-still : goal.returns-in-Err-clause-still
returns-in-Err-clause-still g c =
    let C = g.C.SharedCluster in
    still c.args.self.now.last_ms c.args.self.now.last_ms (C.marks c.args.self.now.cluster) (C.marks c.show.new.self) refl (ap C.marks c.show.ensures.same)

pub returns-in-Ok-clause-idle : goal.returns-in-Ok-clause-idle
returns-in-Ok-clause-idle g c = λ i. c.collect-got.ensures.idle (subst g.C.SharedCluster.idle (sym c.show.ensures.same) i)

pub returns-in-Err-clause-idle : goal.returns-in-Err-clause-idle
returns-in-Err-clause-idle g c = λ i. subst g.C.SharedCluster.idle (sym c.show.ensures.same) i

pub returns-in-Ok-clause-read : goal.returns-in-Ok-clause-read
returns-in-Ok-clause-read g c =
    let C = g.C.SharedCluster in
    λ a. c.in-Ok.ensures.read a ∙ sym (agreed_collected C.shows c.args.number c.collect-got.result (C.marks c.show.new.self) (C.marks c.collect-got.new.self.cluster) c.collect-got.ensures.got)
