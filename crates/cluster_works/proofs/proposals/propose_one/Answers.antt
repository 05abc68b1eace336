use Rattle.std.proofs.Common.{◌≡◌, rules}
use Rattle.cluster_works.proofs.ProposedOne.{not_proposed, one_ended}
use Rattle.cluster_works.proofs.proposals.propose_one.Goals as goal

pub returns-in_err-copy : goal.returns-in_err-copy
returns-in_err-copy g c = λ gs wt s. not_proposed gs wt c.args.server c.args.command.now c.args.servers.now.world c.args.servers.now.servers c.args.requests.now c.from_residual.result c.in_err-copy.field-0.0 (search rules) s

pub returns : goal.returns
returns g c =
    let copied : c.in_ok-copy.copy ≡ c.args.command.now = search rules in
    λ gs wt s. one_ended gs wt c.args.server c.args.command.now c.in_ok-copy.copy c.args.servers.now c.propose-proposed.new.self c.args.requests.now c.end_proposal.new.requests
    c.see-before.result c.see-now.result c.agreed.result.now c.propose-proposed.result c.end_proposal.result s c.requires.leads copied c.see-before.ensures.seen c.see-now.ensures.seen c.agreed.ensures
    c.propose-proposed.ensures.answer c.propose-proposed.ensures.servers c.end_proposal.ensures
