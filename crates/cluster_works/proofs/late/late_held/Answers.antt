use Rattle.std.proofs.Common.{ap, sym, subst, ◌∙◌, ◌≡◌, true}
use Rattle.std.specs.List.{find}
use Rattle.std.specs.Option.{option_copied}
use Rattle.cluster_works.specs.Looking.{is_late, numbered_in, test_held}
use Rattle.cluster_works.proofs.Finding.{first_number}
use Rattle.cluster_works.proofs.Numbered.{none_found}
use Rattle.cluster_works.proofs.late.late_held.Goals as goal

pub returns-in-Some-clause-some : goal.returns-in-Some-clause-some
returns-in-Some-clause-some g c =
    let test = is_late c.args.servers.now c.args.server in
    subst (λ k. test_held test (numbered_in k c.args.requests.now.held) ≡ true) (sym c.number.ensures)
    (first_number test c.args.requests.now.held c.in-Some.held.now c.requires.ascends (ap (find test) (sym c.held.ensures) ∙ sym c.first_late.ensures ∙ ap option_copied c.in-Some.is))

pub returns-in-None-clause-none : goal.returns-in-None-clause-none
returns-in-None-clause-none g c =
    let test = is_late c.args.servers.now c.args.server in
    none_found test c.args.requests.now.held (ap (find test) (sym c.held.ensures) ∙ sym c.first_late.ensures ∙ ap option_copied c.in-None.is)
