use Rattle.std.proofs.Common.{true, subst}
use Rattle.cluster_rules.specs.Due.{none}
use Rattle.cluster_order.specs.Turns.{Turned}
use Rattle.cluster_order.proofs.Keeping.{server_kept, works_keep}
use Rattle.cluster_order.proofs.Working.{works_turned, some_works}
use Rattle.cluster_order.proofs.Evaluating.{evaluates_then}
use Rattle.cluster_order.proofs.turns.make_up.Goals as goal

pub turn-requires : goal.turn-requires
turn-requires g c = c.requires

pub go_on-requires : goal.go_on-requires
go_on-requires g c =
    let turned : Turned c.args.server true (g.P.Parts.state c.args.parts.now) (g.P.Parts.state c.turn.new.self) = subst (λ z. Turned c.args.server z (g.P.Parts.state c.args.parts.now) (g.P.Parts.state c.turn.new.self)) c.in-Ok-true.field-0-test c.in-Ok-true.ensures.turned in
    server_kept (g.P.Parts.state c.args.parts.now) (g.P.Parts.state c.turn.new.self) c.args.server (works_keep c.args.server _ _ (works_turned c.args.server (g.P.Parts.state c.args.parts.now) (g.P.Parts.state c.args.parts.now) (g.P.Parts.state c.turn.new.self) none turned)) c.requires

pub returns-in-Err-clause-cut : goal.returns-in-Err-clause-cut
returns-in-Err-clause-cut g c = (c.in-Err.ensures.behind, c.in-Err.ensures.same)

pub returns-in-Ok-clause-whole : goal.returns-in-Ok-clause-whole
returns-in-Ok-clause-whole g c =
    let turned : Turned c.args.server true (g.P.Parts.state c.args.parts.now) (g.P.Parts.state c.turn.new.self) = subst (λ z. Turned c.args.server z (g.P.Parts.state c.args.parts.now) (g.P.Parts.state c.turn.new.self)) c.in-Ok-true.field-0-test c.in-Ok-true.ensures.turned in
    (some_works c.args.server (g.P.Parts.state c.args.parts.now) (g.P.Parts.state c.turn.new.self) (g.P.Parts.state c.go_on.new.parts) turned c.go_on.ensures.works, c.in-Ok.ensures.none)

pub returns-in-Err-go_on-clause-cut : goal.returns-in-Err-go_on-clause-cut
returns-in-Err-go_on-clause-cut g c =
    let turned : Turned c.args.server true (g.P.Parts.state c.args.parts.now) (g.P.Parts.state c.turn.new.self) = subst (λ z. Turned c.args.server z (g.P.Parts.state c.args.parts.now) (g.P.Parts.state c.turn.new.self)) c.in-Ok-true.field-0-test c.in-Ok-true.ensures.turned in
    (some_works c.args.server (g.P.Parts.state c.args.parts.now) (g.P.Parts.state c.turn.new.self) (g.P.Parts.state c.go_on.new.parts) turned c.go_on.ensures.works, c.in-Err-go_on.ensures.behind)

pub returns-in-Ok-false-clause-whole : goal.returns-in-Ok-false-clause-whole
returns-in-Ok-false-clause-whole g c = subst (λ z. Turned c.args.server z (g.P.Parts.state c.args.parts.now) (g.P.Parts.state c.turn.new.self)) c.in-Ok-false.field-0-test c.in-Ok-false.ensures.turned

pub returns-in-Err-clause-counted : goal.returns-in-Err-clause-counted
returns-in-Err-clause-counted g c =
    c.in-Err.ensures.counted

pub returns-in-Ok-false-clause-counted : goal.returns-in-Ok-false-clause-counted
returns-in-Ok-false-clause-counted g c =
    c.in-Ok-false.ensures.counted

pub returns-in-Ok-clause-counted : goal.returns-in-Ok-clause-counted
returns-in-Ok-clause-counted g c =
    evaluates_then 0 c.args.steps.now c.turn.new.steps c.go_on.new.steps (g.P.Parts.state c.args.parts.now) (g.P.Parts.state c.turn.new.self) (g.P.Parts.state c.go_on.new.parts) c.in-Ok-true.ensures.counted c.in-Ok.ensures.counted

pub returns-in-Err-go_on-clause-counted : goal.returns-in-Err-go_on-clause-counted
returns-in-Err-go_on-clause-counted g c =
    evaluates_then 1 c.args.steps.now c.turn.new.steps c.go_on.new.steps (g.P.Parts.state c.args.parts.now) (g.P.Parts.state c.turn.new.self) (g.P.Parts.state c.go_on.new.parts) c.in-Ok-true.ensures.counted c.in-Err-go_on.ensures.counted
