use Rattle.std.proofs.Common.{rules, ◌≡◌, subst, sym}
use Rattle.cluster_order.proofs.Working.{err_any}
use Rattle.cluster_order.proofs.Pairing.{under_way, under_way_still, cut_delivery, pair_is}
use Rattle.cluster_order.specs.Evaluations.{EvaluatesIn, lacking}
use Rattle.cluster_order.proofs.Evaluating.{evaluates_adding, evaluates_then}
use Rattle.cluster_order.proofs.deliveries.pair.Goals as goal

pub deliver-requires : goal.deliver-requires
deliver-requires g c = under_way c.args.number (g.P.Parts.state c.args.parts.now) c.requires

pub returns-in_err-deliver-clause-whole : goal.returns-in_err-deliver-clause-whole
returns-in_err-deliver-clause-whole g c = search rules

pub returns-in_err-deliver-clause-cut : goal.returns-in_err-deliver-clause-cut
returns-in_err-deliver-clause-cut g c = err_any c.from_residual.result _ (cut_delivery c.args.number (g.P.Parts.state c.args.parts.now) (g.P.Parts.state c.deliver.new.parts) c.requires c.in_err-deliver.ensures.cut)

pub lose-requires : goal.lose-requires
lose-requires g c = under_way_still c.args.number (g.P.Parts.state c.args.parts.now) (g.P.Parts.state c.deliver.new.parts) c.requires c.in_ok-deliver.ensures.whole

pub returns-clause-whole : goal.returns-clause-whole
returns-clause-whole g c =
    pair_is c.args.number (g.P.Parts.state c.args.parts.now) (g.P.Parts.state c.deliver.new.parts) (g.P.Parts.state c.lose.new.parts) c.requires c.in_ok-deliver.ensures.whole c.lose.ensures.whole

pub returns-in_err-deliver-clause-counted : goal.returns-in_err-deliver-clause-counted
returns-in_err-deliver-clause-counted g c =
    let one : lacking c.from_residual.result ≡ 1 = search rules in
    subst (λ n. EvaluatesIn n c.args.steps.now c.deliver.new.steps (g.P.Parts.state c.args.parts.now) (g.P.Parts.state c.deliver.new.parts)) (sym one) c.in_err-deliver.ensures.counted

pub returns-clause-counted : goal.returns-clause-counted
returns-clause-counted g c =
    evaluates_then 0 c.args.steps.now c.deliver.new.steps c.deliver.new.steps (g.P.Parts.state c.args.parts.now) (g.P.Parts.state c.deliver.new.parts) (g.P.Parts.state c.lose.new.parts) c.in_ok-deliver.ensures.counted
    (evaluates_adding 0 c.deliver.new.steps (g.P.Parts.state c.deliver.new.parts) (g.P.Parts.state c.lose.new.parts) c.lose.ensures.counted)
