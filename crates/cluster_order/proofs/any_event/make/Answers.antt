use Rattle.std.proofs.Common.{subst, sym, true}
use Rattle.cluster_rules.specs.Step.{ClusterStep}
use Rattle.cluster_order.proofs.any_event.make.Goals as goal

pub returns-in-Drop-clause-whole : goal.returns-in-Drop-clause-whole
returns-in-Drop-clause-whole g c = subst (λ e. ClusterStep (g.P.Parts.state c.args.parts.now) e (g.P.Parts.state c.lose.new.parts) true) (sym c.in-Drop.is) c.lose.ensures.whole
