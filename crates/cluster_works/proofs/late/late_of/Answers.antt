use Rattle.std.proofs.Common.{ap, sym, ◌∙◌}
use Rattle.std.specs.Option.{option_copied}
use Rattle.cluster_works.specs.Working.{whole}
use Rattle.cluster_works.proofs.Finding.{late_found}
use Rattle.cluster_works.proofs.late.late_of.Goals as goal

pub returns-in-Some-clause-found : goal.returns-in-Some-clause-found
returns-in-Some-clause-found g c =
    late_found (whole c.args.servers.now c.args.requests.now) c.args.server c.args.number c.in-Some.held.now c.past_round.result c.requires.none c.requires.applied
    (sym c.pending.ensures ∙ ap option_copied c.in-Some.is) c.requires.late (c.past_round.ensures.found (whole c.args.servers.now c.args.requests.now) c.args.server)
