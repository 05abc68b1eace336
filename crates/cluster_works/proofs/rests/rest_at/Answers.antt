use Rattle.std.proofs.Common.{◌≡◌, Some, ap, sym, subst, ◌∙◌}
use Rattle.std.specs.Option.{option_copied}
use Rattle.cluster_works.specs.Looking.{numbered_in}
use Rattle.cluster_works.proofs.Numbered.{number_of_found}
use Rattle.cluster_works.proofs.Slept.{gone_stands}
use Rattle.cluster_works.proofs.rests.rest_at.Goals as goal

pub rest_held-requires-clause-held : goal.rest_held-requires-clause-held
rest_held-requires-clause-held g c =
    let found = sym c.pending.ensures ∙ ap option_copied c.in-Some-pending.is in
    subst (λ k. numbered_in k c.args.requests.now.held ≡ Some c.in-Some-pending.held.now) (sym (number_of_found c.in-Some.number c.args.requests.now.held c.in-Some-pending.held.now found)) found

pub returns-in-None : goal.returns-in-None
returns-in-None g c =
    gone_stands c.args.watch.now c.forget.new.self c.args.servers.now.world c.args.servers.now.servers c.args.requests.now c.in-Some.number (sym c.pending.ensures ∙ ap option_copied c.in-None.is)
    c.forget.ensures.kept c.forget.ensures.slept c.forget.ensures.servers c.forget.ensures.lines c.forget.ensures.seen c.requires.stands
