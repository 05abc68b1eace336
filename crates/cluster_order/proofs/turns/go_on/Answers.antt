use Rattle.std.proofs.Common.{◌≡◌, rules, refl, subst, sym}
use Rattle.cluster_rules.specs.Due.{none}
use Rattle.cluster_order.specs.Turns.{Turned}
use Rattle.cluster_order.proofs.Keeping.{server_kept, works_keep}
use Rattle.cluster_order.proofs.Working.{works_turned}
use Rattle.cluster_order.specs.Evaluations.{EvaluatesIn, lacking}
use Rattle.cluster_order.proofs.Evaluating.{evaluates_none, evaluates_then}
use Rattle.cluster_order.proofs.turns.go_on.Goals as goal

pub loop-init : goal.loop-init
loop-init g c = (refl, none, evaluates_none c.args.steps.now (g.P.Parts.state c.args.parts.now))

pub loop-preserved : goal.loop-preserved
loop-preserved g c = (
  refl,
  works_turned c.args.server _ (g.P.Parts.state c.loop.parts) _ c.loop.invariant.1 (subst (λ z. Turned c.args.server z (g.P.Parts.state c.loop.parts) (g.P.Parts.state c.turn.new.self)) c.if-branch.true c.in_ok-turn.ensures.turned),
  evaluates_then 0 _ _ _ _ (g.P.Parts.state c.loop.parts) _ c.loop.invariant.2 c.in_ok-turn.ensures.counted,
)

pub turn-requires : goal.turn-requires
turn-requires g c = server_kept _ _ c.args.server (works_keep c.args.server _ _ c.loop.invariant.1) c.requires

pub returns-in_err-turn-clause-counted : goal.returns-in_err-turn-clause-counted
returns-in_err-turn-clause-counted g c =
    let one : lacking c.from_residual.result ≡ 1 = search rules in
    subst (λ n. EvaluatesIn n c.args.steps.now c.turn.new.steps (g.P.Parts.state c.args.parts.now) (g.P.Parts.state c.turn.new.self)) (sym one)
    (evaluates_then 1 _ _ _ _ (g.P.Parts.state c.loop.parts) _ c.loop.invariant.2 c.in_err-turn.ensures.counted)

pub returns-clause-counted : goal.returns-clause-counted
returns-clause-counted g c = evaluates_then 0 _ _ _ _ (g.P.Parts.state c.loop.parts) _ c.loop.invariant.2 c.in_ok-turn.ensures.counted
