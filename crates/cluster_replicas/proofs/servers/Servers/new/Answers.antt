use Rattle.std.proofs.Common.{ap, map, replicate, sym, ◌∙◌, ℕ}
use Rattle.std.proofs.lemmas.List.{length-map}
use Rattle.raft_model.specs.Node.{Store}
use Rattle.raft_node.specs.Steps.{stored}
use Rattle.raft_world.proofs.Beginning.{untouched}
use Rattle.cluster_rules.specs.Cluster.{no_server}
use Rattle.cluster_replicas.proofs.Beginning.{start_idle}
use Rattle.cluster_replicas.proofs.servers.Servers.new.Goals as goal

pub returns-in_default-clause-back : goal.returns-in_default-clause-back
returns-in_default-clause-back g c = untouched _

pub invariant_of-result : goal.invariant_of-result
invariant_of-result g c =
    let st : g.row.K.Denot → Store = λ k. stored (g.K.Keeper.held k) (g.K.Keeper.armed k) (g.K.Keeper.faults k) (g.K.Keeper.sure k) in
    (start_idle (map st c.args.keepers) c.in-Ok-new.world c.in-Ok-new.ensures.ok c.in-Ok.replicas.items c.len.result (c.len.ensures ∙ sym (length-map c.args.keepers st)) c.in-Ok.ensures).0

pub returns-in-Ok-new-clause-servers : goal.returns-in-Ok-new-clause-servers
returns-in-Ok-new-clause-servers g c =
    let st : g.row.K.Denot → Store = λ k. stored (g.K.Keeper.held k) (g.K.Keeper.armed k) (g.K.Keeper.faults k) (g.K.Keeper.sure k) in
    (start_idle (map st c.args.keepers) c.in-Ok-new.world c.in-Ok-new.ensures.ok c.in-Ok.replicas.items c.len.result (c.len.ensures ∙ sym (length-map c.args.keepers st)) c.in-Ok.ensures).1 ∙ ap (λ (k : ℕ). replicate k no_server) (length-map c.args.keepers st)
