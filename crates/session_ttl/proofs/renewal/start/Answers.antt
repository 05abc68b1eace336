use Rattle.std.proofs.Common.{max, sym, ◌∙◌, ap}
use Rattle.cat_model.specs.Delays.{Start}
use Rattle.session_ttl.proofs.Starts.{latest, start_is}
use Rattle.session_ttl.proofs.renewal.start.Goals as goal

pub returns-in-None : goal.returns-in-None
returns-in-None c = sym (start_is c.args.session c.args.office c.args.renewals.now.now c.in_order.ensures ∙ ap (λ o. latest o c.args.office) (sym c.in-None.ensures))

pub returns-in-Some : goal.returns-in-Some
returns-in-Some c =
    c.max.ensures ∙ ap (λ (r : Start). max r.clock c.args.office) c.renewal.view_is
    ∙ sym (start_is c.args.session c.args.office c.args.renewals.now.now c.in_order.ensures ∙ ap (λ o. latest o c.args.office) (sym c.in-Some.ensures))
