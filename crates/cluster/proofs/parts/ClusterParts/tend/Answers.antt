use Rattle.std.proofs.Common.{◌∙◌, Bool, inr, refl, sym, subst, true}
use Rattle.cluster_rules.specs.Proposals.{idles}
use Rattle.cluster.specs.Tending.{EndsProposed}
use Rattle.cluster.proofs.Tending.{ends_there, tended, tends_cut}
use Rattle.cluster.proofs.parts.ClusterParts.tend.Goals as goal

pub returns-then-not-runs_leading-clause-whole : goal.returns-then-not-runs_leading-clause-whole
returns-then-not-runs_leading-clause-whole g c = idles (sym c.runs_leading.ensures ∙ c.if-not-runs_leading.true) refl

pub reap-requires : goal.reap-requires
reap-requires g c = ends_there c.args.server c.args.self.now c.end_sessions.new.self c.in-Ok-true.field-0 c.requires.server c.in-Ok-true.ensures.told

pub returns-in-Ok-true-clause-whole : goal.returns-in-Ok-true-clause-whole
returns-in-Ok-true-clause-whole g c =
    let ends : EndsProposed c.args.server c.args.self.now true c.end_sessions.new.self = subst (λ (b : Bool). EndsProposed c.args.server c.args.self.now b c.end_sessions.new.self) c.in-Ok-true.field-0-test c.in-Ok-true.ensures.told in
    (tended c.args.server c.args.self.now c.end_sessions.new.self c.reap.new.self c.reap.result (sym c.runs_leading.ensures ∙ c.if-not-runs_leading.false) ends c.reap.ensures.whole c.reap.ensures.cut).0

pub returns-in-Ok-true-clause-cut : goal.returns-in-Ok-true-clause-cut
returns-in-Ok-true-clause-cut g c =
    let ends : EndsProposed c.args.server c.args.self.now true c.end_sessions.new.self = subst (λ (b : Bool). EndsProposed c.args.server c.args.self.now b c.end_sessions.new.self) c.in-Ok-true.field-0-test c.in-Ok-true.ensures.told in
    (tended c.args.server c.args.self.now c.end_sessions.new.self c.reap.new.self c.reap.result (sym c.runs_leading.ensures ∙ c.if-not-runs_leading.false) ends c.reap.ensures.whole c.reap.ensures.cut).1

pub returns-in-Ok-false-clause-cut : goal.returns-in-Ok-false-clause-cut
returns-in-Ok-false-clause-cut g c =
    inr (tends_cut c.args.server c.args.self.now c.end_sessions.new.self (sym c.runs_leading.ensures ∙ c.if-not-runs_leading.false)
    (subst (λ (b : Bool). EndsProposed c.args.server c.args.self.now b c.end_sessions.new.self) c.in-Ok-false.field-0-test c.in-Ok-false.ensures.told))
