use Rattle.std.proofs.Common.{◌∷◌, [], true, false, Bool, ◌∙◌, sym, subst}
use Rattle.cat_model.specs.declared.command.Command.TheVariants.{Reap}
use Rattle.cluster_rules.specs.Offices.{looks_on}
use Rattle.cluster_rules.specs.Cluster.{clock_of, server_of}
use Rattle.cluster_rules.specs.Proposals.{Proposals, looked}
use Rattle.cluster_replicas.specs.Servers.{Servers}
use Rattle.cluster_works.specs.Standing.{Stands}
use Rattle.cluster_works.proofs.Acting.{stands_officed}
use Rattle.cluster.proofs.Tending.{looked_is, reaps_none, reaps_told}
use Rattle.cluster.proofs.cluster.Cluster.reap.Goals as goal

pub returns-then-propose_reap-clause-whole : goal.returns-then-propose_reap-clause-whole
returns-then-propose_reap-clause-whole g c =
    reaps_told c.args.server c.args.self.now c.propose_reap.new.self c.propose_reap.result.entered true true (sym c.reaps_now.ensures ∙ c.if-reaps_now.true)
    (subst (λ (b : Bool). Proposals c.args.server (Reap ∷ []) (looked c.args.server c.args.self.now) c.propose_reap.result.entered c.propose_reap.new.self b) c.if-propose_reap.true c.propose_reap.ensures)

pub returns-then-reaps_now-clause-cut : goal.returns-then-reaps_now-clause-cut
returns-then-reaps_now-clause-cut g c =
    reaps_told c.args.server c.args.self.now c.propose_reap.new.self c.propose_reap.result.entered false true (sym c.reaps_now.ensures ∙ c.if-reaps_now.true)
    (subst (λ (b : Bool). Proposals c.args.server (Reap ∷ []) (looked c.args.server c.args.self.now) c.propose_reap.result.entered c.propose_reap.new.self b) c.if-propose_reap.false c.propose_reap.ensures)

pub invariant_of-self : goal.invariant_of-self
invariant_of-self g c =
    subst (λ (z : Servers). Stands c.self.inside.watch z.world z.servers c.self.inside.requests) (sym c.look.ensures)
    (stands_officed c.self.inside.agents c.self.inside.watch c.args.server (looks_on (clock_of c.self.inside.servers.world c.args.server) (server_of c.self.inside.servers.servers c.args.server).office) c.self.inside.servers.world c.self.inside.servers.servers c.self.inside.requests c.self.invariant)

pub returns-clause-whole : goal.returns-clause-whole
returns-clause-whole g c =
    reaps_none c.args.server c.args.self.now _ (sym c.reaps_now.ensures ∙ c.if-reaps_now.false) (looked_is c.self.inside.agents c.args.server c.self.inside.servers c.look.new.self c.self.inside.requests c.args.self.now c.self.view_is c.look.ensures)
