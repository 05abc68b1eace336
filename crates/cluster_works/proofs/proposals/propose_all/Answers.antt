use Rattle.std.proofs.Common.{◌≡◌, ◌+◌, ◌≤◌, ◌∙◌, List, Ok, length, refl, sym, ap, subst, arith}
use Rattle.cluster_rules.specs.Cluster.{Server}
use Rattle.cluster_works.proofs.ProposedAll.{all_gone, leads_then, none_gone, one_broken, one_gone, one_stopped, same_broken, same_servers}
use Rattle.cluster_works.proofs.proposals.propose_all.Goals as goal

pub loop-command-init : goal.loop-command-init
loop-command-init g c = (refl, c.requires.leads, refl, refl, none_gone c.args.server c.args.servers.now c.args.requests.now)

pub propose_one-requires-clause-last : goal.propose_one-requires-clause-last
propose_one-requires-clause-last g c = subst (λ (ss : List Server). c.args.server ≤ length ss) (sym c.loop-command.invariant.2) c.requires.last

pub returns-in-Ok-false-clause-proposals : goal.returns-in-Ok-false-clause-proposals
returns-in-Ok-false-clause-proposals g c =
    one_stopped c.args.server c.args.commands.now c.loop-command.command-index c.command-item.result c.args.servers.now c.loop-command.servers c.propose_one.new.servers c.args.requests.now c.loop-command.requests c.propose_one.new.requests c.propose_one.result
    c.loop-command-test.true c.command-item.is c.loop-command.invariant.4 c.propose_one.ensures c.loop-command.entered c.loop-command.invariant.0 (c.in-Ok-false.is ∙ ap Ok c.in-Ok-false.field-0-test)

pub returns-in-Ok-false-clause-servers : goal.returns-in-Ok-false-clause-servers
returns-in-Ok-false-clause-servers g c =
    same_servers c.args.server c.args.commands.now c.loop-command.command-index c.command-item.result c.args.servers.now c.loop-command.servers c.propose_one.new.servers c.args.requests.now c.loop-command.requests c.propose_one.new.requests c.propose_one.result
    c.loop-command-test.true c.command-item.is c.loop-command.invariant.4 c.propose_one.ensures c.requires.stands.0 c.requires.stands.1 _ c.in-Ok-false.is ∙ c.loop-command.invariant.2

pub returns-in-Err-clause-proposals : goal.returns-in-Err-clause-proposals
returns-in-Err-clause-proposals g c =
    one_broken c.args.server c.args.commands.now c.loop-command.command-index c.command-item.result c.args.servers.now c.loop-command.servers c.propose_one.new.servers c.args.requests.now c.loop-command.requests c.propose_one.new.requests c.propose_one.result
    c.loop-command-test.true c.command-item.is c.loop-command.invariant.4 c.propose_one.ensures c.loop-command.entered _ c.loop-command.invariant.0 c.in-Err.is

pub returns-in-Err-clause-servers : goal.returns-in-Err-clause-servers
returns-in-Err-clause-servers g c =
    same_broken c.args.server c.args.commands.now c.loop-command.command-index c.command-item.result c.args.servers.now c.loop-command.servers c.propose_one.new.servers c.args.requests.now c.loop-command.requests c.propose_one.new.requests c.propose_one.result
    c.loop-command-test.true c.command-item.is c.loop-command.invariant.4 c.propose_one.ensures c.requires.stands.0 c.requires.stands.1 _ c.in-Err.is ∙ c.loop-command.invariant.2

pub loop-command-preserved : goal.loop-command-preserved
loop-command-preserved g c =
    let did = (c.in-Ok-true.is ∙ ap Ok c.in-Ok-true.field-0-test) in (
      ap (λ n. n + 1) c.loop-command.invariant.0,
      leads_then c.args.server c.args.commands.now c.loop-command.command-index c.command-item.result c.args.servers.now c.loop-command.servers c.propose_one.new.servers c.args.requests.now c.loop-command.requests c.propose_one.new.requests c.propose_one.result
          c.loop-command-test.true c.command-item.is c.loop-command.invariant.4 c.propose_one.ensures c.requires.stands.0 c.requires.stands.1 did,
      same_servers c.args.server c.args.commands.now c.loop-command.command-index c.command-item.result c.args.servers.now c.loop-command.servers c.propose_one.new.servers c.args.requests.now c.loop-command.requests c.propose_one.new.requests c.propose_one.result
          c.loop-command-test.true c.command-item.is c.loop-command.invariant.4 c.propose_one.ensures c.requires.stands.0 c.requires.stands.1 _ did ∙ c.loop-command.invariant.2,
      refl,
      one_gone c.args.server c.args.commands.now c.loop-command.command-index c.command-item.result c.args.servers.now c.loop-command.servers c.propose_one.new.servers c.args.requests.now c.loop-command.requests c.propose_one.new.requests c.propose_one.result
          c.loop-command-test.true c.command-item.is c.loop-command.invariant.4 c.propose_one.ensures did,
    )

pub returns-clause-proposals : goal.returns-clause-proposals
returns-clause-proposals g c =
    let past : c.loop-command.command-index ≡ length c.args.commands.now = omega (arith, c.loop-command.auto.command-index-end, c.loop-command-test.false) in
    all_gone c.args.server c.args.commands.now c.loop-command.command-index c.args.servers.now c.loop-command.servers c.args.requests.now c.loop-command.requests c.loop-command.entered past c.loop-command.invariant.4 c.loop-command.invariant.0
