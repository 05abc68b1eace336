use Rattle.std.proofs.Common.{sym, subst, Result, Ok, Err}
use Rattle.std.specs.Prelude.{OnOk}
use Rattle.http_exchanges.specs.Marks.{AddsQuiet}
use Rattle.http_exchanges.specs.Turns.{GoesOn, Readies}
use Rattle.http_exchanges.proofs.Agreeing.{prefix_self}
use Rattle.http_exchanges.proofs.served.Served.ready_and_show.Goals as goal

on_ok : {T E : Type 0} (r : Result T E) (P : Type 0) → P → OnOk r P
on_ok (Ok t) P p = p
on_ok (Err e) P p = tt

pub returns-in-Ok-clause-quiet : goal.returns-in-Ok-clause-quiet
returns-in-Ok-clause-quiet g c =
    let C = g.C.SharedCluster in
    subst (λ (x : _). AddsQuiet (C.marks c.args.self.now.cluster) (C.marks x)) (sym c.show.ensures.same) c.in-Ok.ensures.quiet

pub returns-in-Ok-clause-time : goal.returns-in-Ok-clause-time
returns-in-Ok-clause-time g c =
    let C = g.C.SharedCluster in
    subst (λ (x : _). GoesOn c.args.self.now.last_ms c.ready.new.self.last_ms c.args.now (C.marks c.args.self.now.cluster) (C.marks x)) (sym c.show.ensures.same) c.in-Ok.ensures.time

pub returns-in-Ok-clause-readied : goal.returns-in-Ok-clause-readied
returns-in-Ok-clause-readied g c =
    let C = g.C.SharedCluster in
    let is : _ → Type 0 = λ x. Readies C.marks C.idle C.servers C.agents C.clock c.args.self.now.last_ms c.args.now c.args.self.now.cluster x in
    on_ok c.show.result (is c.show.new.self) (subst is (sym c.show.ensures.same) c.in-Ok.ensures.readied)

pub returns-in-Err-clause-viewed : goal.returns-in-Err-clause-viewed
returns-in-Err-clause-viewed g c = prefix_self c.args.viewer.now
