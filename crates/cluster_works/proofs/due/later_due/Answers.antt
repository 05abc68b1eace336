use Rattle.std.proofs.Common.{sym, ◌∙◌}
use Rattle.cluster_works.specs.Working.{whole}
use Rattle.cluster_works.proofs.Finding.{next_finds}
use Rattle.cluster_works.proofs.due.later_due.Goals as goal

pub returns-then-has_next-clause-found : goal.returns-then-has_next-clause-found
returns-then-has_next-clause-found g c = next_finds (whole c.args.servers.now c.args.requests.now) c.args.server c.requires.none (sym c.has_next.ensures ∙ c.if-has_next.true)
