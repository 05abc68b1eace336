use Rattle.std.proofs.Common.{rules, ◌≡◌, ◌⊎◌, inl, inr, suc, ◌+◌, None, subst, arith, sym}
use Rattle.cluster_rules.specs.Reached.{Settling, none, lowest}
use Rattle.cluster_order.proofs.Working.{err_any}
use Rattle.cluster_order.proofs.Pairing.{pair_more}
use Rattle.cluster_order.specs.Evaluations.{EvaluatesIn, lacking}
use Rattle.cluster_order.proofs.Adding.{settled_adds}
use Rattle.cluster_order.proofs.Evaluating.{evaluates_adding, evaluates_none, evaluates_then}
use Rattle.cluster_order.proofs.deliveries.settle.Goals as goal
use Rattle.cluster_order.proofs.deliveries.settle.Goals.{else-loop-pairs-test, then-loop-pairs-test+in-None}

pub loop-pairs-init : goal.loop-pairs-init
loop-pairs-init g c = (omega arith, none, evaluates_none c.args.steps.now (g.P.Parts.state c.args.parts.now))

pub pair-requires : goal.pair-requires
pair-requires g c = c.in-Some.ensures

pub returns-in_err-pair-in-Some-clause-whole : goal.returns-in_err-pair-in-Some-clause-whole
returns-in_err-pair-in-Some-clause-whole g c = search rules

pub returns-in_err-pair-in-Some-clause-cut : goal.returns-in_err-pair-in-Some-clause-cut
returns-in_err-pair-in-Some-clause-cut g c = err_any c.from_residual.result _ (c.loop-pairs.pairs, c.loop-pairs-test.true, ((g.P.Parts.state c.loop-pairs.parts), c.loop-pairs.invariant.1, c.in_err-pair-in-Some.ensures.cut))

pub overflow_add-pairs : goal.overflow_add-pairs
overflow_add-pairs g c = search rules

pub loop-pairs-smaller : goal.loop-pairs-smaller
loop-pairs-smaller g c = let more = c.loop-pairs-test.true in omega arith

pub loop-pairs-preserved : goal.loop-pairs-preserved
loop-pairs-preserved g c =
    let more = c.loop-pairs-test.true in
    let next : suc c.loop-pairs.pairs ≡ c.loop-pairs.pairs + 1 = omega arith in (
      omega arith,
      subst (λ n. Settling n (g.P.Parts.state c.args.parts.now) (g.P.Parts.state c.pair.new.parts)) next (pair_more c.loop-pairs.pairs (g.P.Parts.state c.args.parts.now) (g.P.Parts.state c.loop-pairs.parts) (g.P.Parts.state c.pair.new.parts) c.loop-pairs.invariant.1 c.in_ok-pair-in-Some.ensures.whole),
      evaluates_then 0 c.args.steps.now c.loop-pairs.steps c.pair.new.steps (g.P.Parts.state c.args.parts.now) (g.P.Parts.state c.loop-pairs.parts) (g.P.Parts.state c.pair.new.parts) c.loop-pairs.invariant.2 c.in_ok-pair-in-Some.ensures.counted,
    )

pub returns-clause-whole : goal.returns-clause-whole
returns-clause-whole g c =
    let within = c.loop-pairs.invariant.0 in
    let ends : (c.loop-pairs.pairs ≡ c.args.most) ⊎ (lowest (g.P.Parts.state c.loop-pairs.parts).world.bag.packets ≡ None) =
    elim c.loop-pairs-test.branch [ else-loop-pairs-test w ↦ inl (let past = w.loop-pairs-test.false in omega arith) | then-loop-pairs-test+in-None w ↦ inr w.in-None.ensures ] in
    (within, ((g.P.Parts.state c.loop-pairs.parts), c.loop-pairs.invariant.1, ends, c.settled.ensures))

pub returns-in_err-pair-in-Some-clause-counted : goal.returns-in_err-pair-in-Some-clause-counted
returns-in_err-pair-in-Some-clause-counted g c =
    let one : lacking c.from_residual.result ≡ 1 = search rules in
    subst (λ n. EvaluatesIn n c.args.steps.now c.pair.new.steps (g.P.Parts.state c.args.parts.now) (g.P.Parts.state c.pair.new.parts)) (sym one)
    (evaluates_then 1 c.args.steps.now c.loop-pairs.steps c.pair.new.steps (g.P.Parts.state c.args.parts.now) (g.P.Parts.state c.loop-pairs.parts) (g.P.Parts.state c.pair.new.parts) c.loop-pairs.invariant.2 c.in_err-pair-in-Some.ensures.counted)

pub returns-clause-counted : goal.returns-clause-counted
returns-clause-counted g c =
    evaluates_then 0 c.args.steps.now c.loop-pairs.steps c.loop-pairs.steps (g.P.Parts.state c.args.parts.now) (g.P.Parts.state c.loop-pairs.parts) (g.P.Parts.state c.settled.new.self) c.loop-pairs.invariant.2 (evaluates_adding 0 c.loop-pairs.steps (g.P.Parts.state c.loop-pairs.parts) (g.P.Parts.state c.settled.new.self) (settled_adds c.loop-pairs.pairs (g.P.Parts.state c.loop-pairs.parts) (g.P.Parts.state c.settled.new.self) c.settled.ensures))
