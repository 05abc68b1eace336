use Rattle.std.proofs.Common.{ap, sym, ◌∙◌}
use Rattle.std.specs.Option.{option_copied}
use Rattle.cluster_works.specs.Looking.{is_late, test_held}
use Rattle.cluster_works.proofs.late.is_number_late.Goals as goal

pub returns-in-Some : goal.returns-in-Some
returns-in-Some g c =
    c.is_late.ensures
    ∙ ap (test_held (is_late c.args.servers.now c.args.server)) (sym (sym c.pending.ensures ∙ ap option_copied c.in-Some.is))
